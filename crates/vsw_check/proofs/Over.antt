-- A line of a report leads on, and each state can be ended.
use Rattle.std.proofs.Common.{◌≡◌, ℕ, zero, suc, ◌+◌, ◌-◌, ◌^◌, ◌<◌, ◌≤◌, ◌==◌, Bool, true, false, true≢false, MatchBool, List, [], ◌∷◌, ◌++◌, Option, Some, None, nat_lt, rules, refl, sym, ap, ◌∙◌, subst, arith, eq-eqb}
use Rattle.std.specs.Prelude.{option_and_then, if◌then◌else◌}
use Rattle.std.proofs.lemmas.Bool.{ltb-true, ltb-false, true_from_ne_false}
use Rattle.vsw_base.specs.declared.fate.Cause.TheVariants.{Long}
use Rattle.vsw_base.specs.declared.fate.Fate.TheVariants.{Drop}
use Rattle.vsw_report.specs.Proper.{AreProperLines, AreProperPorts, AreProperLoose, AreProper}
use Rattle.vsw_report.specs.Reading.{Tail, in_loose, in_ports, under_line, tail_in}
use Rattle.vsw_report.specs.Words.{Line, of_round, of_port, of_told, loose_begins, of_loose}
use Rattle.vsw_report.specs.declared.round.Loose.{Loose}
use Rattle.vsw_report.specs.declared.round.PortRound.{PortRound}
use Rattle.vsw_report.specs.declared.round.Round.{Round}
use Rattle.vsw_report.specs.declared.told.By.TheVariants.{Worker}
use Rattle.vsw_report.specs.declared.told.ToldLine.{ToldLine}
use Rattle.vsw_report.specs.declared.told.What.TheVariants as what
use Rattle.vsw_report.proofs.RoundsBack.{some_same}
use Rattle.vsw_report.proofs.WordsBack.{IsFitLine}
use Rattle.vsw_report.proofs.TextsBack.{AreFitLines}
use Rattle.vsw_check.specs.Report.{rank, Tells}
use Rattle.vsw_check.specs.declared.place.Place.{Place}
use Rattle.vsw_check.specs.declared.place.Place.TheVariants.{AtFirst, AtPorts, AtLines, AtLoose}
use Rattle.vsw_check.specs.Private.Machine.{is_end, opened, read_next, entry_next, told_next, step, run}
use Rattle.vsw_check.proofs.Steps.{none_some, Suits, step_under, opens, opened_is, closed_is, told_is}

-- ---- forth: of what suits the state, the line leads on to what suits the state behind it

abbrev Leads : Place → Line → Tail → Type 0
Leads s l u = (t : Place) × (step s l ≡ Some t) × Suits t u

below_true : (n b : ℕ) → n < b → nat_lt n b ≡ true
below_true n b h = true_from_ne_false (nat_lt n b) (λ e. omega (arith, h, ltb-false n b e))

not_below : (n b : ℕ) → b ≤ n → nat_lt n b ≡ false
not_below n b h = by (nat_lt n b) refl where
  by : (o : Bool) → nat_lt n b ≡ o → o ≡ false
  by true p = absurd (omega (arith, h, ltb-true n b p))
  by false p = refl

closes : {A : Type 0} (n high : ℕ) (o : Option A) → n ≡ high → (if n == high then o else None) ≡ o
closes n high o e = ap (λ b. if b then o else None) (eq-eqb n high e)

pub entry_goes : (n high low : ℕ) (l : ToldLine) → l.count ≡ n → l.entry ≡ true → n < high → told_next n high low l ≡ Some (AtLines (suc n) high 0)
entry_goes n high low l c e lt =
    closes l.count n _ c ∙ (ap (λ b. if b then entry_next n high else read_next n high low (rank l.by)) e ∙ ap (λ b. if b then Some (AtLines (suc n) high 0) else None) (below_true n high lt))

read_goes : (n high low : ℕ) (l : ToldLine) → l.count ≡ n → l.entry ≡ false → low ≤ rank l.by → told_next n high low l ≡ Some (AtLines n high (rank l.by))
read_goes n high low l c e le =
    closes l.count n _ c ∙ (ap (λ b. if b then entry_next n high else read_next n high low (rank l.by)) e ∙ ap (λ b. if b then None else Some (AtLines n high (rank l.by))) (not_below (rank l.by) low le))

told_leads : (n high low : ℕ) (l : ToldLine) (u v : Tail) → under_line (of_told l) u ≡ Some v → Suits (AtLines n high low) v → Leads (AtLines n high low) (of_told l) u
told_leads n high low l (in_loose ls rs) v e h = absurd (none_some e)
told_leads n high low l (in_ports ts ps ls rs) v e h = by l.entry refl (subst (λ v. Suits (AtLines n high low) v) (sym (some_same e)) h) where
  by : (b : Bool) → l.entry ≡ b → Suits (AtLines n high low) (in_ports (l ∷ ts) ps ls rs) → Leads (AtLines n high low) (of_told l) (in_ports ts ps ls rs)
  by true q h =
      let m : (n < high) × Tells (suc n) high 0 ts = subst (λ b. MatchBool b ((n < high) × Tells (suc n) high 0 ts) ((low ≤ rank l.by) × Tells n high (rank l.by) ts)) q h.0.1 in
      (AtLines (suc n) high 0, entry_goes n high low l h.0.0 q m.0, (m.1, h.1, h.2))
  by false q h =
      let m : (low ≤ rank l.by) × Tells n high (rank l.by) ts = subst (λ b. MatchBool b ((n < high) × Tells (suc n) high 0 ts) ((low ≤ rank l.by) × Tells n high (rank l.by) ts)) q h.0.1 in
      (AtLines n high (rank l.by), read_goes n high low l h.0.0 q m.0, (m.1, h.1, h.2))

moved : (s : Place) (v w : Tail) → v ≡ w → Suits s w → Suits s v
moved s v w e h = subst (λ v. Suits s v) (sym e) h

round_leads : (s : Place) (a : ℕ) (ps : List PortRound) (ls : List Loose) (rs : List Round) → Suits s (in_loose [] (record { first = a; ports = ps; loose = ls } ∷ rs)) → Leads s (of_round a) (in_ports [] ps ls rs)
round_leads AtFirst a ps ls rs h = (AtPorts, refl, (refl, h.1.0, h.1.1))
round_leads AtLoose a ps ls rs h = (AtPorts, refl, (refl, h.0, h.1))
round_leads AtPorts a ps ls rs h = absurd h
round_leads (AtLines n high low) a ps ls rs h = absurd h

port_leads : (s : Place) (p b a : ℕ) (ts : List ToldLine) (ps : List PortRound) (ls : List Loose) (rs : List Round) → Suits s (in_ports [] (record { port = p; before = b; after = a; lines = ts } ∷ ps) ls rs) → Leads s (of_port p b a) (in_ports ts ps ls rs)
port_leads AtFirst p b a ts ps ls rs h = absurd h
port_leads AtLoose p b a ts ps ls rs h = absurd h
port_leads AtPorts p b a ts ps ls rs h = (AtLines b a 0, opens b a h.1.0.0, (h.1.0.1, h.1.1, h.2))
port_leads (AtLines n high low) p b a ts ps ls rs h = (AtLines b a 0, closes n high (opened b a) h.0 ∙ opens b a h.1.0.0, (h.1.0.1, h.1.1, h.2))

begin_leads : (s : Place) (ls : List Loose) (rs : List Round) → Suits s (in_ports [] [] ls rs) → Leads s loose_begins (in_loose ls rs)
begin_leads AtFirst ls rs h = absurd h
begin_leads AtLoose ls rs h = absurd h
begin_leads AtPorts ls rs h = (AtLoose, refl, h.2)
begin_leads (AtLines n high low) ls rs h = (AtLoose, closes n high (Some AtLoose) h.0, h.2)

loose_leads : (s : Place) (l : Loose) (ls : List Loose) (rs : List Round) → Suits s (in_loose (l ∷ ls) rs) → Leads s (of_loose l) (in_loose ls rs)
loose_leads AtFirst l ls rs h = search (rules, h.0)
loose_leads AtLoose l ls rs h = (AtLoose, refl, h)
loose_leads AtPorts l ls rs h = absurd h
loose_leads (AtLines n high low) l ls rs h = absurd h

line_leads : (s : Place) (l : ToldLine) (ts : List ToldLine) (ps : List PortRound) (ls : List Loose) (rs : List Round) → Suits s (in_ports (l ∷ ts) ps ls rs) → Leads s (of_told l) (in_ports ts ps ls rs)
line_leads AtFirst l ts ps ls rs h = absurd h
line_leads AtLoose l ts ps ls rs h = absurd h
line_leads AtPorts l ts ps ls rs h = search (rules, h.0)
line_leads (AtLines n high low) l ts ps ls rs h = told_leads n high low l (in_ports ts ps ls rs) (in_ports (l ∷ ts) ps ls rs) refl h

pub step_leads : (s : Place) (l : Line) (u v : Tail) → under_line l u ≡ Some v → Suits s v → Leads s l u
step_leads s (of_round a) (in_loose ls rs) v e h = absurd (none_some e)
step_leads s (of_round a) (in_ports [] ps ls rs) v e h = round_leads s a ps ls rs (moved s _ v (some_same e) h)
step_leads s (of_round a) (in_ports (t ∷ ts) ps ls rs) v e h = absurd (none_some e)
step_leads s (of_port p b a) (in_loose ls rs) v e h = absurd (none_some e)
step_leads s (of_port p b a) (in_ports ts ps ls rs) v e h = port_leads s p b a ts ps ls rs (moved s _ v (some_same e) h)
step_leads s (of_told l) (in_loose ls rs) v e h = absurd (none_some e)
step_leads s (of_told l) (in_ports ts ps ls rs) v e h = line_leads s l ts ps ls rs (moved s _ v (some_same e) h)
step_leads s loose_begins (in_loose ls rs) v e h = begin_leads s ls rs (moved s _ v (some_same e) h)
step_leads s loose_begins (in_ports ts ps ls rs) v e h = absurd (none_some e)
step_leads s (of_loose l) (in_loose ls rs) v e h = loose_leads s l ls rs (moved s _ v (some_same e) h)
step_leads s (of_loose l) (in_ports ts ps ls rs) v e h = absurd (none_some e)

-- ---- lists of lines

pub both : {A B : Type 0} (f : A → Option B) (o : Option A) (y : B) → option_and_then f o ≡ Some y → (x : A) × (o ≡ Some x) × (f x ≡ Some y)
both f None y e = absurd (none_some e)
both f (Some x) y e = (x, refl, e)

-- lines whose run ends tell what suits its start
pub ends_tell : (ls : List Line) (s e : Place) → run s ls ≡ Some e → is_end e ≡ true → (t : Tail) × (tail_in ls ≡ Some t) × Suits s t
ends_tell [] s e r f = by s (subst (λ s. is_end s ≡ true) (sym (some_same r)) f) where
  by : (s : Place) → is_end s ≡ true → (t : Tail) × (Some (in_loose [] []) ≡ Some t) × Suits s t
  by AtFirst f = (in_loose [] [], refl, (refl, tt))
  by AtLoose f = (in_loose [] [], refl, tt)
  by AtPorts f = absurd (true≢false (sym f))
  by (AtLines n high low) f = absurd (true≢false (sym f))
ends_tell (l ∷ ls) s e r f =
    let (m, p, q) = both (λ t. run t ls) (step s l) e r in
    let (u, a, h) = ends_tell ls m e q f in
    let (v, b, k) = step_under s l m u p h in
    (v, ap (option_and_then (under_line l)) a ∙ b, k)

-- lines that tell what suits a state run to an end
pub told_ends : (ls : List Line) (s : Place) (t : Tail) → tail_in ls ≡ Some t → Suits s t → (e : Place) × (run s ls ≡ Some e) × (is_end e ≡ true)
told_ends [] s t e h = (s, refl, by s (subst (λ t. Suits s t) (sym (some_same e)) h)) where
  by : (s : Place) → Suits s (in_loose [] []) → is_end s ≡ true
  by AtFirst h = refl
  by AtLoose h = refl
  by AtPorts h = absurd h
  by (AtLines n high low) h = absurd h
told_ends (l ∷ ls) s t e h =
    let (u, p, q) = both (under_line l) (tail_in ls) t e in
    let (m, a, k) = step_leads s l u t q h in
    let (e, b, f) = told_ends ls m u p k in
    (e, ap (option_and_then (λ t. run t ls)) a ∙ b, f)

-- a run over lines goes over the first of them
pub run_joined : (ls ms : List Line) (s m : Place) → run s ls ≡ Some m → run s (ls ++ ms) ≡ run m ms
run_joined [] ms s m e = ap (λ s. run s ms) (some_same e)
run_joined (l ∷ ls) ms s m e =
    let (t, p, q) = both (λ t. run t ls) (step s l) m e in
    ap (option_and_then (λ t. run t (ls ++ ms))) p ∙ run_joined ls ms t m q

-- ---- each state that lines lead to can be ended

abbrev pub IsFit : Place → Type 0
IsFit (AtLines n high low) = (n ≤ high) × (high < 2 ^ 32)
IsFit _ = Unit {0}

opened_fit : (p b a : ℕ) (t : Place) → IsFitLine (of_port p b a) → opened b a ≡ Some t → IsFit t
opened_fit p b a t h e = let o = opened_is b a t e in subst (λ t. IsFit t) o.1 (o.0, h.2)

told_fit : (n high low : ℕ) (l : ToldLine) (t : Place) → IsFit (AtLines n high low) → told_next n high low l ≡ Some t → IsFit t
told_fit n high low l t k e = by l.entry (told_is n high low l t e).1 where
  by : (b : Bool) → MatchBool b ((n < high) × (AtLines (suc n) high 0 ≡ t)) ((low ≤ rank l.by) × (AtLines n high (rank l.by) ≡ t)) → IsFit t
  by true m = subst (λ t. IsFit t) m.1 (omega (arith, m.0), k.1)
  by false m = subst (λ t. IsFit t) m.1 k

pub step_fit : (s : Place) (l : Line) (t : Place) → IsFit s → IsFitLine l → step s l ≡ Some t → IsFit t
step_fit AtFirst (of_round a) t k h e = subst (λ t. IsFit t) (some_same e) tt
step_fit AtLoose (of_round a) t k h e = subst (λ t. IsFit t) (some_same e) tt
step_fit AtLoose (of_loose l) t k h e = subst (λ t. IsFit t) (some_same e) tt
step_fit AtPorts (of_port p b a) t k h e = opened_fit p b a t h e
step_fit AtPorts loose_begins t k h e = subst (λ t. IsFit t) (some_same e) tt
step_fit (AtLines n high low) (of_told l) t k h e = told_fit n high low l t k e
step_fit (AtLines n high low) (of_port p b a) t k h e = opened_fit p b a t h (closed_is n high (opened b a) t e).1
step_fit (AtLines n high low) loose_begins t k h e = subst (λ t. IsFit t) (some_same (closed_is n high (Some AtLoose) t e).1) tt
step_fit s l t k h e = absurd (none_some e)

abbrev drop_at : ℕ → ToldLine
drop_at n = record { by = Worker 0; item = 0; entry = true; count = n; what = what.Fate (Drop Long) [] }

-- so many entries from a count on, and the loose part
abbrev pub filled : ℕ → ℕ → List Line
filled n zero = loose_begins ∷ []
filled n (suc more) = of_told (drop_at n) ∷ filled (suc n) more

abbrev pub ending : Place → List Line
ending AtFirst = []
ending AtLoose = []
ending AtPorts = loose_begins ∷ []
ending (AtLines n high low) = filled n (high - n)

filled_fit : (n more : ℕ) → n + more < 2 ^ 32 → AreFitLines (filled n more)
filled_fit n zero lt = (tt, tt)
filled_fit n (suc more) lt = ((omega arith, omega (arith, lt), (omega arith, (refl, tt))), filled_fit (suc n) more (omega (arith, lt)))

filled_runs : (more n high low : ℕ) → n + more ≡ high → run (AtLines n high low) (filled n more) ≡ Some AtLoose
filled_runs zero n high low e = ap (option_and_then (λ t. run t [])) (closes n high (Some AtLoose) (omega (arith, e)))
filled_runs (suc more) n high low e =
    ap (option_and_then (λ t. run t (filled (suc n) more))) (entry_goes n high low (drop_at n) refl refl (omega (arith, e)))
    ∙ filled_runs more (suc n) high 0 (omega (arith, e))

pub ending_fit : (s : Place) → IsFit s → AreFitLines (ending s)
ending_fit AtFirst k = tt
ending_fit AtLoose k = tt
ending_fit AtPorts k = (tt, tt)
ending_fit (AtLines n high low) k = filled_fit n (high - n) (omega (arith, k.0, k.1))

pub ending_runs : (s : Place) → IsFit s → (e : Place) × (run s (ending s) ≡ Some e) × (is_end e ≡ true)
ending_runs AtFirst k = (AtFirst, refl, refl)
ending_runs AtLoose k = (AtLoose, refl, refl)
ending_runs AtPorts k = (AtLoose, refl, refl)
ending_runs (AtLines n high low) k = (AtLoose, filled_runs (high - n) n high low (omega (arith, k.0)), refl)

pub run_fit : (ls : List Line) (s e : Place) → IsFit s → AreFitLines ls → run s ls ≡ Some e → IsFit e
run_fit [] s e k h r = subst (λ s. IsFit s) (some_same r) k
run_fit (l ∷ ls) s e k h r =
    let (m, p, q) = both (λ t. run t ls) (step s l) e r in
    run_fit ls m e (step_fit s l m k h.0 p) h.1 q

-- ---- what fitting lines tell is proper

abbrev pub IsProperTail : Tail → Type 0
IsProperTail (in_loose ls rs) = AreProperLoose ls × AreProper rs
IsProperTail (in_ports ts ps ls rs) = AreProperLines ts × AreProperPorts ps × AreProperLoose ls × AreProper rs

under_proper : (l : Line) (u v : Tail) → under_line l u ≡ Some v → IsFitLine l → IsProperTail u → IsProperTail v
under_proper (of_round a) (in_loose ls rs) v e h k = absurd (none_some e)
under_proper (of_round a) (in_ports [] ps ls rs) v e h k = subst IsProperTail (some_same e) (tt, ((h, k.1, k.2), k.3))
under_proper (of_round a) (in_ports (t ∷ ts) ps ls rs) v e h k = absurd (none_some e)
under_proper (of_port p b a) (in_loose ls rs) v e h k = absurd (none_some e)
under_proper (of_port p b a) (in_ports ts ps ls rs) v e h k = subst IsProperTail (some_same e) (tt, ((h.0, h.1, h.2, k.0), k.1), k.2, k.3)
under_proper (of_told l) (in_loose ls rs) v e h k = absurd (none_some e)
under_proper (of_told l) (in_ports ts ps ls rs) v e h k = subst IsProperTail (some_same e) ((h, k.0), k.1, k.2, k.3)
under_proper loose_begins (in_loose ls rs) v e h k = subst IsProperTail (some_same e) (tt, tt, k.0, k.1)
under_proper loose_begins (in_ports ts ps ls rs) v e h k = absurd (none_some e)
under_proper (of_loose l) (in_loose ls rs) v e h k = subst IsProperTail (some_same e) ((h, k.0), k.1)
under_proper (of_loose l) (in_ports ts ps ls rs) v e h k = absurd (none_some e)

pub tail_proper : (ls : List Line) (t : Tail) → tail_in ls ≡ Some t → AreFitLines ls → IsProperTail t
tail_proper [] t e h = subst IsProperTail (some_same e) (tt, tt)
tail_proper (l ∷ ls) t e h =
    let (u, p, q) = both (under_line l) (tail_in ls) t e in
    under_proper l u t q h.0 (tail_proper ls u p h.1)
