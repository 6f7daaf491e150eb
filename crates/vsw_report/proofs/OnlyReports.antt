-- Rounds are read only of the text of their report.
use Rattle.std.proofs.Common.{◌≡◌, ℕ, ◌==◌, Bool, true, false, List, [], ◌∷◌, ◌++◌, map, Option, Some, None, rules, refl, sym, ap, ap₂, ◌∙◌, append_assoc}
use Rattle.std.specs.Prelude.{codes, bytes_eq, option_and_then, if◌then◌else◌}
use Rattle.std.specs.List.{slice_split, join_with_byte}
use Rattle.std.proofs.lemmas.Bool.{and_parts, eqb-true}
use Rattle.std.proofs.lemmas.List.Splits.{join_with_byte-slice_split}
use Rattle.vsw_report.specs.Print.{report_text}
use Rattle.vsw_report.specs.declared.round.Round.{Round}
use Rattle.vsw_report.specs.Law.{OnlyOfReports}
use Rattle.vsw_report.specs.Reading.{Tail, in_loose, in_ports, under_line, tail_in, whole, in_front, lines_in, rounds_of}
use Rattle.vsw_report.specs.Words.{Line, of_round, of_port, of_told, loose_begins, of_loose, text_of, line_of, line_in, if_text}
use Rattle.vsw_report.proofs.RoundsBack.{ports_lines, rounds_lines, rounds_texts, some_same}
use Rattle.vsw_report.proofs.TextsBack.{texts_of}

-- ---- lines from rounds

-- the lines of what was read so far
abbrev tail_lines : Tail → List Line
tail_lines (in_loose ls rs) = map of_loose ls ++ rounds_lines rs
tail_lines (in_ports ts ps ls rs) = map of_told ts ++ (ports_lines ps ++ (loose_begins ∷ (map of_loose ls ++ rounds_lines rs)))

under_back : (l : Line) (r s : Tail) → under_line l r ≡ Some s → tail_lines s ≡ l ∷ tail_lines r
under_back (of_loose l) (in_loose ls rs) s e = search (rules, e)
under_back loose_begins (in_loose ls rs) s e = search (rules, e)
under_back (of_told t) (in_ports ts ps ls rs) s e = search (rules, e)
under_back (of_port p b a) (in_ports ts ps ls rs) s e =
    ap tail_lines (sym (some_same e)) ∙ ap (λ w. of_port p b a ∷ w) (append_assoc (map of_told ts) (ports_lines ps) (loose_begins ∷ (map of_loose ls ++ rounds_lines rs)))
under_back (of_round a) (in_ports [] ps ls rs) s e =
    ap tail_lines (sym (some_same e)) ∙ ap (λ w. of_round a ∷ w) (append_assoc (ports_lines ps) (loose_begins ∷ map of_loose ls) (rounds_lines rs))
under_back l r s e = search (rules, e)

-- the lines that say something are its lines
tail_back : (ls : List Line) (s : Tail) → tail_in ls ≡ Some s → tail_lines s ≡ ls
tail_back [] s e = ap tail_lines (sym (some_same e))
tail_back (l ∷ ls) s e = by (tail_in ls) (λ r p. tail_back ls r p) refl e where
  by : (o : Option Tail) → ((r : Tail) → tail_in ls ≡ Some r → tail_lines r ≡ ls) → tail_in ls ≡ o → option_and_then (under_line l) o ≡ Some s → tail_lines s ≡ l ∷ ls
  by None f p q = search (rules, q)
  by (Some r) f p q = under_back l r s q ∙ ap (λ w. l ∷ w) (f r p)

-- ---- a line from its text

eq_of : (xs ys : List ℕ) → bytes_eq xs ys ≡ true → xs ≡ ys
eq_of [] [] e = refl
eq_of [] (y ∷ ys) e = search (rules, e)
eq_of (x ∷ xs) [] e = search (rules, e)
eq_of (x ∷ xs) (y ∷ ys) e =
    let p = and_parts (x == y) (bytes_eq xs ys) e in
    ap₂ (λ z zs. z ∷ zs) (eqb-true x y p.0) (eq_of xs ys p.1)

text_back : (bytes : List ℕ) (m l : Line) (b : Bool) → bytes_eq (text_of m) (bytes ++ 10 ∷ []) ≡ b → (if b then Some m else None) ≡ Some l → text_of l ≡ bytes ++ 10 ∷ []
text_back bytes m l true a e = ap text_of (sym (some_same e)) ∙ eq_of (text_of m) (bytes ++ 10 ∷ []) a
text_back bytes m l false a e = search (rules, e)

-- a line is read only of its text
line_back : (bytes : List ℕ) (l : Line) → line_in bytes ≡ Some l → text_of l ≡ bytes ++ 10 ∷ []
line_back bytes l e = by (line_of (slice_split (λ b. b == 32) bytes)) e where
  by : (o : Option Line) → option_and_then (if_text bytes) o ≡ Some l → text_of l ≡ bytes ++ 10 ∷ []
  by None q = search (rules, q)
  by (Some m) q = text_back bytes m l (bytes_eq (text_of m) (bytes ++ 10 ∷ [])) refl q

-- lines are read only of their texts
lines_back : (ts : List (List ℕ)) (ls : List Line) → lines_in ts ≡ Some ls → texts_of ls ≡ join_with_byte 10 ts
lines_back [] ls e = search (rules, e)
lines_back ([] ∷ []) ls e = ap texts_of (sym (some_same e))
lines_back ((x ∷ xs) ∷ []) ls e = search (rules, e)
lines_back (t ∷ u ∷ us) ls e = by (line_in t) (lines_in (u ∷ us)) (λ ms p. lines_back (u ∷ us) ms p) refl refl e where
  by : (o : Option Line) (p : Option (List Line)) → ((ms : List Line) → lines_in (u ∷ us) ≡ Some ms → texts_of ms ≡ join_with_byte 10 (u ∷ us)) → line_in t ≡ o → lines_in (u ∷ us) ≡ p → in_front o p ≡ Some ls → texts_of ls ≡ join_with_byte 10 (t ∷ u ∷ us)
  by None p f a b q = search (rules, q)
  by (Some l) None f a b q = search (rules, q)
  by (Some l) (Some ms) f a b q =
      ap texts_of (sym (some_same q)) ∙ (ap₂ (λ x y. x ++ y) (line_back t l a) (f ms b) ∙ append_assoc t (10 ∷ []) (join_with_byte 10 (u ∷ us)))

-- ---- rounds from their text

ends : (parts : List (List ℕ)) (ls : List Line) (s : Tail) (rs : List Round) → lines_in parts ≡ Some ls → tail_in ls ≡ Some s → whole s ≡ Some rs → texts_of (rounds_lines rs) ≡ join_with_byte 10 parts
ends parts ls (in_loose [] qs) rs a b q = ap (λ rs. texts_of (rounds_lines rs)) (sym (some_same q)) ∙ (ap texts_of (tail_back ls (in_loose [] qs) b) ∙ lines_back parts ls a)
ends parts ls s rs a b q = search (rules, q)

tails : (parts : List (List ℕ)) (ls : List Line) (rs : List Round) → lines_in parts ≡ Some ls → option_and_then whole (tail_in ls) ≡ Some rs → texts_of (rounds_lines rs) ≡ join_with_byte 10 parts
tails parts ls rs a e = by (tail_in ls) refl e where
  by : (o : Option Tail) → tail_in ls ≡ o → option_and_then whole o ≡ Some rs → texts_of (rounds_lines rs) ≡ join_with_byte 10 parts
  by None b q = search (rules, q)
  by (Some s) b q = ends parts ls s rs a b q

parts_back : (parts : List (List ℕ)) (rs : List Round) → option_and_then whole (option_and_then tail_in (lines_in parts)) ≡ Some rs → texts_of (rounds_lines rs) ≡ join_with_byte 10 parts
parts_back parts rs e = by (lines_in parts) refl e where
  by : (o : Option (List Line)) → lines_in parts ≡ o → option_and_then whole (option_and_then tail_in o) ≡ Some rs → texts_of (rounds_lines rs) ≡ join_with_byte 10 parts
  by None a q = search (rules, q)
  by (Some ls) a q = tails parts ls rs a q

-- no part follows the head line
no_parts : (head : List ℕ) (rs : List Round) (b : Bool) → (if b then option_and_then whole (option_and_then tail_in (lines_in [])) else None) ≡ Some rs → ⊥
no_parts head rs true e = search (rules, e)
no_parts head rs false e = search (rules, e)

head_back : (head : List ℕ) (t : List ℕ) (ts : List (List ℕ)) (rs : List Round) (b : Bool) → bytes_eq head (codes "vsw report 1") ≡ b → (if b then option_and_then whole (option_and_then tail_in (lines_in (t ∷ ts))) else None) ≡ Some rs → report_text rs ≡ join_with_byte 10 (head ∷ t ∷ ts)
head_back head t ts rs true a e =
    ap (λ w. codes "vsw report 1\n" ++ w) (sym (rounds_texts rs) ∙ parts_back (t ∷ ts) rs e)
    ∙ ap (λ h. h ++ (10 ∷ join_with_byte 10 (t ∷ ts))) (sym (eq_of head (codes "vsw report 1") a))
head_back head t ts rs false a e = search (rules, e)

rounds_back : (parts : List (List ℕ)) (rs : List Round) → rounds_of parts ≡ Some rs → report_text rs ≡ join_with_byte 10 parts
rounds_back [] rs e = search (rules, e)
rounds_back (head ∷ []) rs e = absurd (no_parts head rs (bytes_eq head (codes "vsw report 1")) e)
rounds_back (head ∷ t ∷ ts) rs e = head_back head t ts rs (bytes_eq head (codes "vsw report 1")) refl e

-- rounds are read only of the text of their report
pub only_reports : OnlyOfReports
only_reports text rs e = rounds_back (slice_split (λ b. b == 10) text) rs e ∙ join_with_byte-slice_split 10 text
