-- What is built of lines has these lines.
use Rattle.std.proofs.Common.{◌≡◌, ℕ, suc, ◌<◌, ◌≤◌, ◌==◌, ◌&&◌, Bool, true, false, true≢false, MatchBool, List, [], ◌∷◌, ◌++◌, map, Some, None, refl, sym, ap, ap₂, ◌∙◌, subst, append_assoc, append-nil}
use Rattle.std.specs.Prelude.{Result, Ok, Err, codes, bytes_eq, option_and_then, if◌then◌else◌}
use Rattle.std.specs.List.{slice_split}
use Rattle.vsw_report.specs.Reading.{in_loose, in_ports, under_line, tail_in, lines_in, in_front, whole, rounds_of, rounds_in}
use Rattle.vsw_report.specs.Words.{line_in, Line, of_round, of_port, of_told, loose_begins, of_loose}
use Rattle.vsw_report.specs.declared.round.Loose.{Loose}
use Rattle.vsw_report.specs.declared.round.PortRound.{PortRound}
use Rattle.vsw_report.specs.declared.round.Round.{Round}
use Rattle.vsw_report.specs.declared.told.ToldLine.{ToldLine}
use Rattle.vsw_report.proofs.RoundsBack.{port_lines, ports_lines, round_lines, rounds_lines}
use Rattle.vsw_check.specs.Private.Built.{closed_port, closed_round, put, finished, IsEmpty, Takes, Ends, Reads}
use Rattle.vsw_check.specs.Report.{rank, IsReport, IsBadLine, IsRead}
use Rattle.vsw_check.specs.declared.built.Built.{Built}
use Rattle.vsw_check.specs.declared.place.Place.{Place}
use Rattle.vsw_check.specs.declared.place.Place.TheVariants.{AtFirst, AtPorts, AtLines, AtLoose}
use Rattle.vsw_check.specs.declared.report.BadReport.{BadReport}
use Rattle.vsw_check.specs.declared.report.Report.{Report}
use Rattle.vsw_check.specs.declared.report.BadReport.TheVariants as bad
use Rattle.vsw_check.specs.Private.Machine.{is_end, is_empty, step, next, opened, last_bad, bad_line, bad_part}
use Rattle.vsw_check.specs.Private.Parts.{IsCut}
use Rattle.vsw_check.proofs.Bytes.{some_part, ends_are_reports, bad_lines_are_bad}
use Rattle.vsw_check.proofs.Cuts.{head_goes}
use Rattle.vsw_check.proofs.Steps.{none_some, opened_is, closed_is, told_is}
use Rattle.vsw_report.proofs.RoundsBack.{some_same}

map_both : {A B : Type 0} (f : A → B) (xs ys : List A) → map f (xs ++ ys) ≡ map f xs ++ map f ys
map_both f [] ys = refl
map_both f (x ∷ xs) ys = ap (λ t. f x ∷ t) (map_both f xs ys)

ports_both : (ps qs : List PortRound) → ports_lines (ps ++ qs) ≡ ports_lines ps ++ ports_lines qs
ports_both [] qs = refl
ports_both (p ∷ ps) qs = ap (λ t. port_lines p ++ t) (ports_both ps qs) ∙ sym (append_assoc (port_lines p) (ports_lines ps) (ports_lines qs))

rounds_both : (rs os : List Round) → rounds_lines (rs ++ os) ≡ rounds_lines rs ++ rounds_lines os
rounds_both [] os = refl
rounds_both (r ∷ rs) os = ap (λ t. round_lines r ++ t) (rounds_both rs os) ∙ sym (append_assoc (round_lines r) (rounds_lines rs) (rounds_lines os))

-- the lines of what is built, by where they end
abbrev pub built : Place → Built → List Line
built AtFirst b = rounds_lines b.rounds
built AtPorts b = rounds_lines b.rounds ++ of_round b.first ∷ []
built (AtLines n high low) b = rounds_lines b.rounds ++ of_round b.first ∷ (ports_lines b.ports ++ of_port b.port b.before b.after ∷ map of_told b.lines)
built AtLoose b = rounds_lines b.rounds ++ of_round b.first ∷ (ports_lines b.ports ++ loose_begins ∷ map of_loose b.loose)

-- what isn't under way is empty
abbrev pub IsClean : Place → Built → Type 0
IsClean AtFirst b = (b.ports ≡ []) × (b.lines ≡ []) × (b.loose ≡ [])
IsClean AtPorts b = (b.ports ≡ []) × (b.lines ≡ []) × (b.loose ≡ [])
IsClean (AtLines n high low) b = b.loose ≡ []
IsClean AtLoose b = b.lines ≡ []

abbrev Puts : Place → Line → Place → Built → Type 0
Puts s l t b = IsClean t (put s b l) × (built t (put s b l) ≡ built s b ++ l ∷ [])

abbrev own_port : Built → PortRound
own_port b = record { port = b.port; before = b.before; after = b.after; lines = b.lines }

abbrev own_round : Built → Round
own_round b = record { first = b.first; ports = b.ports; loose = b.loose }

one_port : (p : PortRound) → ports_lines (p ∷ []) ≡ port_lines p
one_port p = append-nil (port_lines p)

-- the lines of ports, with one more behind
closed_lines : (b : Built) → ports_lines (closed_port b).ports ≡ ports_lines b.ports ++ of_port b.port b.before b.after ∷ map of_told b.lines
closed_lines b = ports_both b.ports (own_port b ∷ []) ∙ ap (λ t. ports_lines b.ports ++ t) (one_port (own_port b))

closed_rounds : (b : Built) → rounds_lines (closed_round b).rounds ≡ rounds_lines b.rounds ++ of_round b.first ∷ (ports_lines b.ports ++ loose_begins ∷ map of_loose b.loose)
closed_rounds b = rounds_both b.rounds (own_round b ∷ []) ∙ ap (λ t. rounds_lines b.rounds ++ t) (append-nil (round_lines (own_round b)))

behind_two : (rs ps : List Line) (r l : Line) (ls : List Line) → rs ++ r ∷ (ps ++ (ls ++ l ∷ [])) ≡ (rs ++ r ∷ (ps ++ ls)) ++ l ∷ []
behind_two rs ps r l ls = simp append_assoc

-- a port's line behind the ports
port_put : (s : Place) (p x y : ℕ) (b : Built) → b.lines ≡ [] → b.loose ≡ [] → (ls : List Line) → rounds_lines b.rounds ++ of_round b.first ∷ ports_lines b.ports ≡ ls
    → let c : Built = record b { port = p; before = x; after = y } in IsClean (AtLines x y 0) c × (built (AtLines x y 0) c ≡ ls ++ of_port p x y ∷ [])
port_put s p x y b nl ol ls e = (
  ol,
  ap (λ ts. rounds_lines b.rounds ++ of_round b.first ∷ (ports_lines b.ports ++ of_port p x y ∷ map of_told ts)) nl
      ∙ (ends (rounds_lines b.rounds) (ports_lines b.ports) (of_round b.first) (of_port p x y) ∙ ap (λ t. t ++ of_port p x y ∷ []) e),
) where
  ends : (rs ps : List Line) (r l : Line) → rs ++ r ∷ (ps ++ l ∷ []) ≡ (rs ++ r ∷ ps) ++ l ∷ []
  ends rs ps r l = simp append_assoc

pub put_line : (s : Place) (l : Line) (t : Place) (b : Built) → step s l ≡ Some t → IsClean s b → Puts s l t b
put_line AtFirst (of_round a) t b e k = subst (λ t. Puts AtFirst (of_round a) t b) (some_same e) (k, refl)
put_line AtLoose (of_round a) t b e k = subst (λ t. Puts AtLoose (of_round a) t b) (some_same e) ((refl, k, refl), ap (λ t. t ++ of_round a ∷ []) (closed_rounds b))
put_line AtLoose (of_loose l) t b e k =
    subst (λ t. Puts AtLoose (of_loose l) t b) (some_same e) (
      k,
      ap (λ ls. rounds_lines b.rounds ++ of_round b.first ∷ (ports_lines b.ports ++ loose_begins ∷ ls)) (map_both of_loose b.loose (l ∷ []))
          ∙ behind_two (rounds_lines b.rounds) (ports_lines b.ports) (of_round b.first) (of_loose l) (loose_begins ∷ map of_loose b.loose),
    )
put_line AtPorts (of_port p x y) t b e k =
    subst (λ t. Puts AtPorts (of_port p x y) t b) (opened_is x y t e).1
    (port_put AtPorts p x y b k.1 k.2 (rounds_lines b.rounds ++ of_round b.first ∷ []) (ap (λ ps. rounds_lines b.rounds ++ of_round b.first ∷ ports_lines ps) k.0))
put_line AtPorts loose_begins t b e k =
    subst (λ t. Puts AtPorts loose_begins t b) (some_same e)
    (k.1, ap₂ (λ ps ls. rounds_lines b.rounds ++ of_round b.first ∷ (ports_lines ps ++ loose_begins ∷ map of_loose ls)) k.0 k.2 ∙ ends (rounds_lines b.rounds) (of_round b.first) loose_begins) where
      ends : (rs : List Line) (r l : Line) → rs ++ r ∷ l ∷ [] ≡ (rs ++ r ∷ []) ++ l ∷ []
      ends rs r l = simp append_assoc
put_line (AtLines n high low) (of_told l) t b e k = by l.entry (told_is n high low l t e).1 where
  is : (x y z : ℕ) → Puts (AtLines n high low) (of_told l) (AtLines x y z) b
  is x y z = (
    k,
    ap (λ ls. rounds_lines b.rounds ++ of_round b.first ∷ (ports_lines b.ports ++ of_port b.port b.before b.after ∷ ls)) (map_both of_told b.lines (l ∷ []))
        ∙ behind_two (rounds_lines b.rounds) (ports_lines b.ports) (of_round b.first) (of_told l) (of_port b.port b.before b.after ∷ map of_told b.lines),
  )

  by : (c : Bool) → MatchBool c ((n < high) × (AtLines (suc n) high 0 ≡ t)) ((low ≤ rank l.by) × (AtLines n high (rank l.by) ≡ t)) → Puts (AtLines n high low) (of_told l) t b
  by true m = subst (λ t. Puts (AtLines n high low) (of_told l) t b) m.1 (is (suc n) high 0)
  by false m = subst (λ t. Puts (AtLines n high low) (of_told l) t b) m.1 (is n high (rank l.by))
put_line (AtLines n high low) (of_port p x y) t b e k =
    subst (λ t. Puts (AtLines n high low) (of_port p x y) t b) (opened_is x y t (closed_is n high (opened x y) t e).1).1
    (port_put AtPorts p x y (closed_port b) refl k (built (AtLines n high low) b) (ap (λ ps. rounds_lines b.rounds ++ of_round b.first ∷ ps) (closed_lines b)))
put_line (AtLines n high low) loose_begins t b e k =
    subst (λ t. Puts (AtLines n high low) loose_begins t b) (some_same (closed_is n high (Some AtLoose) t e).1) (
      refl,
      ap₂ (λ ps ls. rounds_lines b.rounds ++ of_round b.first ∷ (ps ++ loose_begins ∷ map of_loose ls)) (closed_lines b) k
          ∙ ends (rounds_lines b.rounds) (ports_lines b.ports ++ of_port b.port b.before b.after ∷ map of_told b.lines) (of_round b.first) loose_begins,
    ) where
      ends : (rs ps : List Line) (r l : Line) → rs ++ r ∷ (ps ++ l ∷ []) ≡ (rs ++ r ∷ ps) ++ l ∷ []
      ends rs ps r l = simp append_assoc
put_line s l t b e k = absurd (none_some e)

-- at an end, the rounds have all lines
pub finished_is : (s : Place) (b : Built) → is_end s ≡ true → rounds_lines (finished s b) ≡ built s b
finished_is AtFirst b e = refl
finished_is AtLoose b e = closed_rounds b
finished_is AtPorts b e = absurd (true≢false (sym e))
finished_is (AtLines n high low) b e = absurd (true≢false (sym e))

pub empty_clean : (b : Built) → IsEmpty b → IsClean AtFirst b × (built AtFirst b ≡ [])
empty_clean b h = ((h.ports, h.lines, h.loose), ap rounds_lines h.rounds)

-- ---- rounds from their lines

loose_law : (ls : List Loose) (rest : List Line) (rs : List Round) → tail_in rest ≡ Some (in_loose [] rs) → tail_in (map of_loose ls ++ rest) ≡ Some (in_loose ls rs)
loose_law [] rest rs e = e
loose_law (l ∷ ls) rest rs e = ap (option_and_then (under_line (of_loose l))) (loose_law ls rest rs e)

told_law : (ts : List ToldLine) (rest : List Line) (ps : List PortRound) (ls : List Loose) (rs : List Round) → tail_in rest ≡ Some (in_ports [] ps ls rs) → tail_in (map of_told ts ++ rest) ≡ Some (in_ports ts ps ls rs)
told_law [] rest ps ls rs e = e
told_law (t ∷ ts) rest ps ls rs e = ap (option_and_then (under_line (of_told t))) (told_law ts rest ps ls rs e)

ports_law : (ps : List PortRound) (rest : List Line) (ls : List Loose) (rs : List Round) → tail_in rest ≡ Some (in_ports [] [] ls rs) → tail_in (ports_lines ps ++ rest) ≡ Some (in_ports [] ps ls rs)
ports_law [] rest ls rs e = e
ports_law (p ∷ ps) rest ls rs e =
    ap tail_in (append_assoc (port_lines p) (ports_lines ps) rest)
    ∙ ap (option_and_then (under_line (of_port p.port p.before p.after))) (told_law p.lines (ports_lines ps ++ rest) ps ls rs (ports_law ps rest ls rs e))

pub rounds_law : (rs : List Round) → tail_in (rounds_lines rs) ≡ Some (in_loose [] rs)
rounds_law [] = refl
rounds_law (r ∷ rs) =
    ap tail_in (ap (λ w. of_round r.first ∷ w) (append_assoc (ports_lines r.ports) (loose_begins ∷ map of_loose r.loose) (rounds_lines rs)))
    ∙ ap (option_and_then (under_line (of_round r.first)))
    (ports_law r.ports (loose_begins ∷ (map of_loose r.loose ++ rounds_lines rs)) r.loose rs
    (ap (option_and_then (under_line loose_begins)) (loose_law r.loose (rounds_lines rs) rs (rounds_law rs))))

-- ---- line by line

-- all lines are those that are built, and those of the rest
abbrev pub Back : Place → Built → List ℕ → List ℕ → Type 0
Back s b rest bytes = (ks : List Line) → lines_in (slice_split (λ b. b == 10) rest) ≡ Some ks → lines_in (slice_split (λ b. b == 10) bytes) ≡ Some (built s b ++ ks)

pub back_first : (b : Built) (bytes : List ℕ) → IsEmpty b → Back AtFirst b bytes bytes
back_first b bytes h ks e = e ∙ ap (λ ls. Some (ls ++ ks)) (sym (empty_clean b h).1)

lines_goes : (line more : List ℕ) → lines_in (line ∷ slice_split (λ b. b == 10) more) ≡ in_front (line_in line) (lines_in (slice_split (λ b. b == 10) more))
lines_goes line more =
    let (m, ms, p) = some_part more in
    ap (λ ts. lines_in (line ∷ ts)) p ∙ ap (λ ts. in_front (line_in line) (lines_in ts)) (sym p)

pub carried : (s t : Place) (b c : Built) (rest line more bytes : List ℕ) → IsCut 10 rest (Some (line, more)) → Takes s b c line (Some t) → IsClean s b → Back s b rest bytes → IsClean t c × Back t c more bytes
carried s t b c rest line more bytes cut takes clean back =
    let (l, a, e, is) = takes in
    let p : Puts s l t b = put_line s l t b e clean in
    subst (λ c. IsClean t c × Back t c more bytes) (sym is) (
      p.0,
      λ ks q. back (l ∷ ks) (ap lines_in cut.0 ∙ (lines_goes line more ∙ ap₂ in_front a q))
          ∙ ap Some (sym (append_assoc (built s b) (l ∷ []) ks) ∙ ap (λ ls. ls ++ ks) (sym p.1)),
    )

pub taken : (s t : Place) (b c : Built) (line : List ℕ) → Takes s b c line (Some t) → Some t ≡ next s line
taken s t b c line takes = let (l, a, e, is) = takes in sym (ap (option_and_then (step s)) a ∙ e)

ended_empty : (s : Place) (n : ℕ) (rest : List ℕ) → last_bad s n rest ≡ None → (is_end s ≡ true) × (rest ≡ [])
ended_empty s n rest e = by rest (is_end s) refl e where
  by : (rest : List ℕ) (b : Bool) → is_end s ≡ b → (if b && is_empty rest then None else Some n) ≡ None → (is_end s ≡ true) × (rest ≡ [])
  by [] true p q = (p, refl)
  by [] false p q = absurd (none_some (sym q))
  by (x ∷ xs) true p q = absurd (none_some (sym q))
  by (x ∷ xs) false p q = absurd (none_some (sym q))

pub end_reads : (s : Place) (b : Built) (n : ℕ) (rest bytes : List ℕ) (r : Result Report BadReport) → IsCut 10 rest None → Back s b rest bytes → bad_line s n (slice_split (λ b. b == 10) rest) ≡ bad_line AtFirst 2 (slice_split (λ b. b == 10) bytes) → Ends s b n rest r → Reads (slice_split (λ b. b == 10) bytes) r
end_reads s b n rest bytes (Ok report) cut back same e =
    let k = ended_empty s n rest e.0 in
    let all : lines_in (slice_split (λ b. b == 10) bytes) ≡ Some (built s b ++ []) = back [] (ap lines_in cut ∙ ap (λ r. lines_in (r ∷ [])) k.1) in
    let lines : built s b ++ [] ≡ rounds_lines report.rounds = append-nil (built s b) ∙ (sym (finished_is s b k.0) ∙ ap rounds_lines (sym e.1)) in
    (sym same ∙ (ap (bad_line s n) cut ∙ e.0), ap (option_and_then tail_in) (all ∙ ap Some lines) ∙ rounds_law report.rounds)
end_reads s b n rest bytes (Err (bad.Line number)) cut back same e = sym same ∙ (ap (bad_line s n) cut ∙ e)
end_reads s b n rest bytes (Err bad.Memory) cut back same e = tt

-- ---- all bytes

pub all_read : (bytes head rest : List ℕ) (r : Result Report BadReport) → IsCut 10 bytes (Some (head, rest)) → bytes_eq head (codes "vsw report 1") ≡ true → Reads (slice_split (λ b. b == 10) rest) r → IsRead bytes r
all_read bytes head rest (Ok report) cut h e =
    let (os, q, is) = ends_are_reports bytes (head_goes bytes head rest cut h ∙ e.0) in
    let (m, ms, p) = some_part rest in
    let same : rounds_in bytes ≡ Some report.rounds =
    ap rounds_of (cut.0 ∙ ap (λ ts. head ∷ ts) p) ∙ (ap (λ b. if b then option_and_then whole (option_and_then tail_in (lines_in (m ∷ ms))) else None) h
    ∙ ap (option_and_then whole) (ap (λ ts. option_and_then tail_in (lines_in ts)) (sym p) ∙ e.1)) in
    subst (λ rs. IsReport bytes rs) (some_same (sym q ∙ same)) is
all_read bytes head rest (Err (bad.Line number)) cut h e = bad_lines_are_bad bytes number (head_goes bytes head rest cut h ∙ e)
all_read bytes head rest (Err bad.Memory) cut h e = tt

pub no_head : (bytes head rest : List ℕ) → IsCut 10 bytes (Some (head, rest)) → bytes_eq head (codes "vsw report 1") ≡ false → IsBadLine bytes 1
no_head bytes head rest cut h =
    let (m, ms, p) = some_part rest in
    bad_lines_are_bad bytes 1 (ap bad_part (cut.0 ∙ ap (λ ts. head ∷ ts) p) ∙ ap (λ b. if b then bad_line AtFirst 2 (m ∷ ms) else Some 1) h)

pub no_line : (bytes : List ℕ) → IsCut 10 bytes None → IsBadLine bytes 1
no_line bytes cut = bad_lines_are_bad bytes 1 (ap bad_part cut)
