-- One line, forth and back.
use Rattle.std.proofs.Common.{◌≡◌, ℕ, suc, ◌<◌, ◌≤◌, ◌==◌, Bool, true, false, MatchBool, List, [], ◌∷◌, Option, Some, None, nat_lt, rules, refl, sym, subst, arith}
use Rattle.std.specs.Prelude.{if◌then◌else◌}
use Rattle.std.proofs.lemmas.Bool.{eqb-true, ltb-true, ltb-false}
use Rattle.vsw_policy.specs.Sound.{Each}
use Rattle.vsw_report.specs.Reading.{Tail, in_loose, in_ports, under_line}
use Rattle.vsw_report.specs.Words.{Line, of_round, of_port, of_told, loose_begins, of_loose}
use Rattle.vsw_report.specs.declared.round.Loose.{Loose}
use Rattle.vsw_report.specs.declared.round.PortRound.{PortRound}
use Rattle.vsw_report.specs.declared.round.Round.{Round}
use Rattle.vsw_report.specs.declared.told.ToldLine.{ToldLine}
use Rattle.vsw_report.proofs.RoundsBack.{some_same}
use Rattle.vsw_check.specs.Report.{rank, Tells, IsTold, AreTold}
use Rattle.vsw_check.specs.declared.place.Place.{Place}
use Rattle.vsw_check.specs.declared.place.Place.TheVariants.{AtFirst, AtPorts, AtLines, AtLoose}
use Rattle.vsw_check.specs.Private.Machine.{opened, read_next, entry_next, told_next, step}

pub none_some : {A : Type 0} {x : A} → None ≡ Some x → ⊥
none_some {A} {x} e = search (rules, e)

-- what lines behind a state must tell
abbrev pub Suits : Place → Tail → Type 0
Suits AtFirst (in_loose ls rs) = (ls ≡ []) × AreTold rs
Suits AtLoose (in_loose ls rs) = AreTold rs
Suits AtPorts (in_ports ts ps ls rs) = (ts ≡ []) × Each IsTold ps × AreTold rs
Suits (AtLines n high low) (in_ports ts ps ls rs) = Tells n high low ts × Each IsTold ps × AreTold rs
Suits _ _ = ⊥

-- ---- back: a line before what suits the state behind it suits the state before it

pub opened_is : (b a : ℕ) (s : Place) → opened b a ≡ Some s → (b ≤ a) × (AtLines b a 0 ≡ s)
opened_is b a s e = by (nat_lt a b) refl e where
  by : (o : Bool) → nat_lt a b ≡ o → (if o then None else Some (AtLines b a 0)) ≡ Some s → (b ≤ a) × (AtLines b a 0 ≡ s)
  by true p q = absurd (none_some q)
  by false p q = (ltb-false a b p, some_same q)

pub opens : (b a : ℕ) → b ≤ a → opened b a ≡ Some (AtLines b a 0)
opens b a le = by (nat_lt a b) refl where
  by : (o : Bool) → nat_lt a b ≡ o → (if o then None else Some (AtLines b a 0)) ≡ Some (AtLines b a 0)
  by true p = absurd (omega (arith, le, ltb-true a b p))
  by false p = refl

-- at the end of a port's lines
pub closed_is : {A : Type 0} (n high : ℕ) (o : Option A) (s : A) → (if n == high then o else None) ≡ Some s → (n ≡ high) × (o ≡ Some s)
closed_is n high o s e = by (n == high) refl e where
  by : (b : Bool) → (n == high) ≡ b → (if b then o else None) ≡ Some s → (n ≡ high) × (o ≡ Some s)
  by true p q = (eqb-true n high p, q)
  by false p q = absurd (none_some q)

pub told_is : (n high low : ℕ) (l : ToldLine) (s : Place) → told_next n high low l ≡ Some s
    → (l.count ≡ n) × MatchBool l.entry ((n < high) × (AtLines (suc n) high 0 ≡ s)) ((low ≤ rank l.by) × (AtLines n high (rank l.by) ≡ s))
told_is n high low l s e = let p = closed_is l.count n _ s e in (p.0, by l.entry p.1) where
  entry : (b : Bool) → nat_lt n high ≡ b → (if b then Some (AtLines (suc n) high 0) else None) ≡ Some s → (n < high) × (AtLines (suc n) high 0 ≡ s)
  entry true p q = (ltb-true n high p, some_same q)
  entry false p q = absurd (none_some q)

  reads : (r : ℕ) (b : Bool) → nat_lt r low ≡ b → (if b then None else Some (AtLines n high r)) ≡ Some s → (low ≤ r) × (AtLines n high r ≡ s)
  reads r true p q = absurd (none_some q)
  reads r false p q = (ltb-false r low p, some_same q)

  by : (b : Bool) → (if b then entry_next n high else read_next n high low (rank l.by)) ≡ Some s → MatchBool b ((n < high) × (AtLines (suc n) high 0 ≡ s)) ((low ≤ rank l.by) × (AtLines n high (rank l.by) ≡ s))
  by true q = entry (nat_lt n high) refl q
  by false q = reads (rank l.by) (nat_lt (rank l.by) low) refl q

abbrev pub Under : Place → Line → Tail → Type 0
Under s l u = (v : Tail) × (under_line l u ≡ Some v) × Suits s v

port_under : (p b a : ℕ) (t : Place) (u : Tail) (s : Place) → ((ps : List PortRound) (ls : List Loose) (rs : List Round) → Each IsTold ps → AreTold rs → Suits s (in_ports [] ps ls rs)) → opened b a ≡ Some t → Suits t u → Under s (of_port p b a) u
port_under p b a t u s suits e h = let o = opened_is b a t e in by u (subst (λ t. Suits t u) (sym o.1) h) where
  by : (u : Tail) → Suits (AtLines b a 0) u → Under s (of_port p b a) u
  by (in_loose ls rs) h = absurd h
  by (in_ports ts ps ls rs) h = (in_ports [] (record { port = p; before = b; after = a; lines = ts } ∷ ps) ls rs, refl, suits (record { port = p; before = b; after = a; lines = ts } ∷ ps) ls rs (((opened_is b a t e).0, h.0), h.1) h.2)

round_under : (a : ℕ) (u : Tail) (s : Place) → ((rs : List Round) → AreTold rs → Suits s (in_loose [] rs)) → Suits AtPorts u → Under s (of_round a) u
round_under a (in_loose ls rs) s suits h = absurd h
round_under a (in_ports [] ps ls rs) s suits h = (in_loose [] (record { first = a; ports = ps; loose = ls } ∷ rs), refl, suits (record { first = a; ports = ps; loose = ls } ∷ rs) (h.1, h.2))
round_under a (in_ports (t ∷ ts) ps ls rs) s suits h = search (rules, h.0)

loose_under : (u : Tail) (s : Place) → ((ls : List Loose) (rs : List Round) → AreTold rs → Suits s (in_ports [] [] ls rs)) → Suits AtLoose u → Under s loose_begins u
loose_under (in_loose ls rs) s suits h = (in_ports [] [] ls rs, refl, suits ls rs h)
loose_under (in_ports ts ps ls rs) s suits h = absurd h

told_under : (n high low : ℕ) (l : ToldLine) (t : Place) (u : Tail) → told_next n high low l ≡ Some t → Suits t u → Under (AtLines n high low) (of_told l) u
told_under n high low l t u e h = let p = told_is n high low l t e in by l.entry refl p.1 where
  all : (b : Bool) → l.entry ≡ b → (u : Tail) → (c : l.count ≡ n) → MatchBool b ((n < high) × Suits (AtLines (suc n) high 0) u) ((low ≤ rank l.by) × Suits (AtLines n high (rank l.by)) u) → Under (AtLines n high low) (of_told l) u
  all true q (in_loose ls rs) c m = absurd m.1
  all false q (in_loose ls rs) c m = absurd m.1
  all true q (in_ports ts ps ls rs) c m = (in_ports (l ∷ ts) ps ls rs, refl, ((c, subst (λ b. MatchBool b ((n < high) × Tells (suc n) high 0 ts) ((low ≤ rank l.by) × Tells n high (rank l.by) ts)) (sym q) (m.0, m.1.0)), m.1.1, m.1.2))
  all false q (in_ports ts ps ls rs) c m = (in_ports (l ∷ ts) ps ls rs, refl, ((c, subst (λ b. MatchBool b ((n < high) × Tells (suc n) high 0 ts) ((low ≤ rank l.by) × Tells n high (rank l.by) ts)) (sym q) (m.0, m.1.0)), m.1.1, m.1.2))

  by : (b : Bool) → l.entry ≡ b → MatchBool l.entry ((n < high) × (AtLines (suc n) high 0 ≡ t)) ((low ≤ rank l.by) × (AtLines n high (rank l.by) ≡ t)) → Under (AtLines n high low) (of_told l) u
  by true q m =
      let m : (n < high) × (AtLines (suc n) high 0 ≡ t) = subst (λ b. MatchBool b ((n < high) × (AtLines (suc n) high 0 ≡ t)) ((low ≤ rank l.by) × (AtLines n high (rank l.by) ≡ t))) q m in
      all true q u (told_is n high low l t e).0 (m.0, subst (λ t. Suits t u) (sym m.1) h)
  by false q m =
      let m : (low ≤ rank l.by) × (AtLines n high (rank l.by) ≡ t) = subst (λ b. MatchBool b ((n < high) × (AtLines (suc n) high 0 ≡ t)) ((low ≤ rank l.by) × (AtLines n high (rank l.by) ≡ t))) q m in
      all false q u (told_is n high low l t e).0 (m.0, subst (λ t. Suits t u) (sym m.1) h)

pub step_under : (s : Place) (l : Line) (t : Place) (u : Tail) → step s l ≡ Some t → Suits t u → Under s l u
step_under AtFirst (of_round a) t u e h = round_under a u AtFirst (λ rs q. (refl, q)) (subst (λ t. Suits t u) (sym (some_same e)) h)
step_under AtLoose (of_round a) t u e h = round_under a u AtLoose (λ rs q. q) (subst (λ t. Suits t u) (sym (some_same e)) h)
step_under AtLoose (of_loose l) t u e h = by u (subst (λ t. Suits t u) (sym (some_same e)) h) where
  by : (u : Tail) → Suits AtLoose u → Under AtLoose (of_loose l) u
  by (in_loose ls rs) h = (in_loose (l ∷ ls) rs, refl, h)
  by (in_ports ts ps ls rs) h = absurd h
step_under AtPorts (of_port p b a) t u e h = port_under p b a t u AtPorts (λ ps ls rs q r. (refl, q, r)) e h
step_under AtPorts loose_begins t u e h = loose_under u AtPorts (λ ls rs q. (refl, tt, q)) (subst (λ t. Suits t u) (sym (some_same e)) h)
step_under (AtLines n high low) (of_told l) t u e h = told_under n high low l t u e h
step_under (AtLines n high low) (of_port p b a) t u e h = let c = closed_is n high (opened b a) t e in port_under p b a t u (AtLines n high low) (λ ps ls rs q r. (c.0, q, r)) c.1 h
step_under (AtLines n high low) loose_begins t u e h = let c = closed_is n high (Some AtLoose) t e in loose_under u (AtLines n high low) (λ ls rs q. (c.0, tt, q)) (subst (λ t. Suits t u) (sym (some_same c.1)) h)
step_under s l t u e h = absurd (none_some e)
