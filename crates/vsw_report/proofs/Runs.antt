-- Lines as marks over one text: what is appended to them, and what goes over from their front.
use Rattle.std.proofs.Common.{◌≡◌, ℕ, zero, suc, ◌+◌, ◌-◌, ◌<◌, ◌≤◌, Bool, true, false, ◌||◌, if◌then◌else◌, Result, Ok, Err, OnOk, OnErr, List, [], ◌∷◌, ◌++◌, length, take, drop, slice_range, nat_lt, refl, sym, ap, ap₂, ◌∙◌, subst, arith}
use Rattle.std.proofs.lemmas.List.{append-nil, drop-drop, length-append, length-drop, take-append-le, drop-append-le, take_at, drop_at, take_all}
use Rattle.std.proofs.Math.Seq.{take-add}
use Rattle.std.proofs.lemmas.Bool.{ltb-true, ltb-false}
use Rattle.vsw_base.specs.declared.fault.NoMemory.{NoMemory}
use Rattle.vsw_report.specs.Line.{TextLine, are_short, texts}
use Rattle.vsw_report.specs.Marks.{AreEnds, any_short, entry_end, entry_len, entry_short, is_entry_mark, is_read_mark, lines_in, reads_end, reads_len, reads_short}
use Rattle.vsw_report.specs.Order.{has_lines}
use Rattle.vsw_report.specs.Steps.{first_entry, first_reads, past_entry, past_reads}
use Rattle.vsw_report.specs.declared.marks.Mark.{Mark}

-- ---- parts of a text

-- two parts that meet are one
parts_join : (xs : List ℕ) (a b c : ℕ) → a ≤ b → b ≤ c → slice_range xs a b ++ slice_range xs b c ≡ slice_range xs a c
parts_join xs a b c p q =
    let sum : c - a ≡ (b - a) + (c - b) = omega (arith, p, q) in
    let at : drop b xs ≡ drop (b - a) (drop a xs) = ap (λ (k : ℕ). drop k xs) (omega (arith, p)) ∙ sym (drop-drop (b - a) a xs) in
    ap (λ (l : List ℕ). take (b - a) (drop a xs) ++ take (c - b) l) at ∙ (sym (take-add (b - a) (c - b) (drop a xs)) ∙ ap (λ (k : ℕ). take k (drop a xs)) (sym sum))

-- a part within the front of a longer text
part_within : (xs ys : List ℕ) (a b : ℕ) → a ≤ b → b ≤ length xs → slice_range (xs ++ ys) a b ≡ slice_range xs a b
part_within xs ys a b p q =
    ap (take (b - a)) (drop-append-le a xs ys (omega (arith, p, q))) ∙ take-append-le (b - a) (drop a xs) ys (omega (arith, p, q, length-drop a xs))

-- what was appended
part_behind : (xs ys : List ℕ) (a b : ℕ) → a ≡ length xs → b ≡ length (xs ++ ys) → slice_range (xs ++ ys) a b ≡ ys
part_behind xs ys a b p q =
    ap (take (b - a)) (drop_at xs ys a (sym p)) ∙ take_all (b - a) ys (omega (arith, p, q, length-append xs ys))

part_none : (xs : List ℕ) (a : ℕ) → slice_range xs a a ≡ []
part_none xs a =
    let none : a - a ≡ 0 = omega arith in
    ap (λ (k : ℕ). take k (drop a xs)) none

-- ---- one more line

pub ends_up : (from top : ℕ) (ms : List Mark) → AreEnds from ms top → from ≤ top
ends_up from top [] e = omega (arith, e)
ends_up from top (m ∷ ms) e = omega (arith, e.0, ends_up m.end top ms e.1)

pub more_ends : (from : ℕ) (ms : List Mark) (m : Mark) (text line : List ℕ) → AreEnds from ms (length text) → m.end ≡ length (text ++ line) → AreEnds from (ms ++ m ∷ []) (length (text ++ line))
more_ends from [] m text line e is = (omega (arith, e, is, length-append text line), is)
more_ends from (k ∷ ms) m text line e is = (e.0, more_ends k.end ms m text line e.1 is)

pub more_lines : (from : ℕ) (ms : List Mark) (m : Mark) (text line : List ℕ) → AreEnds from ms (length text) → m.end ≡ length (text ++ line)
    → lines_in from (ms ++ m ∷ []) (text ++ line) ≡ lines_in from ms text ++ record { entry = m.entry; count = m.count; short = m.short; text = line } ∷ []
more_lines from [] m text line e is = ap (λ (t : List ℕ). record { entry = m.entry; count = m.count; short = m.short; text = t } ∷ []) (part_behind text line from m.end e is)
more_lines from (k ∷ ms) m text line e is =
    ap₂ (λ (t : List ℕ) (r : List TextLine). record { entry = k.entry; count = k.count; short = k.short; text = t } ∷ r) (part_within text line from k.end e.0 (ends_up k.end (length text) ms e.1)) (more_lines k.end ms m text line e.1 is)

-- ---- what goes over

or_none : (b : Bool) → (b || false) ≡ b
or_none true = refl
or_none false = refl

-- lines from the front went over, and these are left
pub record GoesOver (from : ℕ) (ms : List Mark) (text : List ℕ) (told left : List TextLine) (len end : ℕ) (short : Bool) : Type 0 where
  pub text_is : texts told ≡ slice_range text from end
  pub short_is : are_short told ≡ short
  pub left_is : left ≡ lines_in end (drop len ms) text
  pub ends : AreEnds end (drop len ms) (length text)
  pub low : from ≤ end
  pub high : end ≤ length text
  pub some : len ≤ length ms

none_over : (from : ℕ) (ms : List Mark) (text : List ℕ) → AreEnds from ms (length text) → GoesOver from ms text [] (lines_in from ms text) 0 from false
none_over from ms text e = record { text_is = sym (part_none text from); short_is = refl; left_is = refl; ends = e; low = omega arith; high = ends_up from (length text) ms e; some = omega arith }

pub reads_over : (n from : ℕ) (ms : List Mark) (text : List ℕ) → AreEnds from ms (length text)
    → GoesOver from ms text (first_reads n (lines_in from ms text)) (past_reads n (lines_in from ms text)) (reads_len n ms) (reads_end n from ms) (reads_short n ms)
reads_over n from [] text e = none_over from [] text e
reads_over n from (m ∷ ms) text e = by (is_read_mark n m) refl (reads_over n m.end ms text e.1)
  where
    L : List TextLine
    L = lines_in m.end ms text

    l : TextLine
    l = record { entry = m.entry; count = m.count; short = m.short; text = slice_range text from m.end }

    Goal : Bool → Type 0
    Goal b = GoesOver from (m ∷ ms) text (if b then l ∷ first_reads n L else []) (if b then past_reads n L else l ∷ L) (if b then suc (reads_len n ms) else 0) (if b then reads_end n m.end ms else from) (if b then m.short || reads_short n ms else false)

    by : (b : Bool) → is_read_mark n m ≡ b → GoesOver m.end ms text (first_reads n L) (past_reads n L) (reads_len n ms) (reads_end n m.end ms) (reads_short n ms) → Goal b
    by true t g = record {
      text_is = ap (λ (r : List ℕ). slice_range text from m.end ++ r) g.text_is ∙ parts_join text from m.end (reads_end n m.end ms) e.0 g.low;
      short_is = ap (λ (b : Bool). m.short || b) g.short_is;
      left_is = g.left_is;
      ends = g.ends;
      low = omega (arith, e.0, g.low);
      high = g.high;
      some = omega (arith, g.some);
    }
    by false t g = none_over from (m ∷ ms) text e

pub entry_over : (n from : ℕ) (ms : List Mark) (text : List ℕ) → AreEnds from ms (length text)
    → GoesOver from ms text (first_entry n (lines_in from ms text)) (past_entry n (lines_in from ms text)) (entry_len n ms) (entry_end n from ms) (entry_short n ms)
entry_over n from [] text e = none_over from [] text e
entry_over n from (m ∷ ms) text e = by (is_entry_mark n m)
  where
    L : List TextLine
    L = lines_in m.end ms text

    l : TextLine
    l = record { entry = m.entry; count = m.count; short = m.short; text = slice_range text from m.end }

    by : (b : Bool) → GoesOver from (m ∷ ms) text (if b then take 1 (l ∷ L) else []) (if b then drop 1 (l ∷ L) else l ∷ L) (if b then 1 else 0) (if b then m.end else from) (if b then m.short else false)
    by true = record {
      text_is = append-nil (slice_range text from m.end);
      short_is = or_none m.short;
      left_is = refl;
      ends = e.1;
      low = e.0;
      high = ends_up m.end (length text) ms e.1;
      some = omega arith;
    }
    by false = none_over from (m ∷ ms) text e

-- ---- a run of marks behind those that have passed

-- these lines go over, and those are left, where the marks behind the first p, from this end of their text on, tell what is left
pub record Moved (from : ℕ) (marks : List Mark) (text : List ℕ) (told left : List TextLine) (p end : ℕ) (short : Bool) : Type 0 where
  pub text_is : slice_range text from end ≡ texts told
  pub short_is : short ≡ are_short told
  pub left_is : lines_in end (drop p marks) text ≡ left
  pub within : p ≤ length marks
  pub ends : AreEnds end (drop p marks) (length text)
  pub low : from ≤ end
  pub high : end ≤ length text

moved : (passed from len end p e : ℕ) (short s : Bool) (marks : List Mark) (text : List ℕ) (told left : List TextLine) → passed ≤ length marks → GoesOver from (drop passed marks) text told left len end short
    → p ≡ passed + len → e ≡ end → s ≡ short → Moved from marks text told left p e s
moved passed from len end p e short s marks text told left le g is_p is_e is_s =
    let rest : drop p marks ≡ drop len (drop passed marks) = ap (λ (k : ℕ). drop k marks) is_p ∙ sym (drop-drop len passed marks) in record {
      text_is = ap (λ (k : ℕ). slice_range text from k) is_e ∙ sym g.text_is;
      short_is = is_s ∙ sym g.short_is;
      left_is = ap₂ (λ (k : ℕ) (ms : List Mark). lines_in k ms text) is_e rest ∙ sym g.left_is;
      within = omega (arith, is_p, le, g.some, length-drop passed marks);
      ends = subst (λ (k : ℕ). AreEnds k (drop p marks) (length text)) (sym is_e) (subst (λ (ms : List Mark). AreEnds end ms (length text)) (sym rest) g.ends);
      low = omega (arith, is_e, g.low);
      high = omega (arith, is_e, g.high);
    }

-- the lines behind the marks that have passed
abbrev pub behind_passed : ℕ → ℕ → List Mark → List ℕ → List TextLine
behind_passed passed from marks text = lines_in from (drop passed marks) text

pub reads_moved : (n passed from p e : ℕ) (s : Bool) (marks now : List Mark) (text : List ℕ) (lines : List TextLine) → now ≡ marks → lines ≡ behind_passed passed from marks text → passed ≤ length marks → AreEnds from (drop passed marks) (length text)
    → p ≡ passed + reads_len n (drop passed now) → e ≡ reads_end n from (drop passed now) → s ≡ reads_short n (drop passed now)
    → Moved from marks text (first_reads n lines) (past_reads n lines) p e s
reads_moved n passed from p e s marks now text lines same is le ends is_p is_e is_s =
    let at : drop passed now ≡ drop passed marks = ap (drop passed) same in
    let all : Moved from marks text (first_reads n (behind_passed passed from marks text)) (past_reads n (behind_passed passed from marks text)) p e s =
    moved passed from _ _ p e _ s marks text _ _ le (reads_over n from (drop passed marks) text ends) (is_p ∙ ap (λ (ms : List Mark). passed + reads_len n ms) at) (is_e ∙ ap (reads_end n from) at) (is_s ∙ ap (reads_short n) at) in
    subst (λ (ls : List TextLine). Moved from marks text (first_reads n ls) (past_reads n ls) p e s) (sym is) all

pub entry_moved : (n passed from p e : ℕ) (s : Bool) (marks now : List Mark) (text : List ℕ) (lines : List TextLine) → now ≡ marks → lines ≡ behind_passed passed from marks text → passed ≤ length marks → AreEnds from (drop passed marks) (length text)
    → p ≡ passed + entry_len n (drop passed now) → e ≡ entry_end n from (drop passed now) → s ≡ entry_short n (drop passed now)
    → Moved from marks text (first_entry n lines) (past_entry n lines) p e s
entry_moved n passed from p e s marks now text lines same is le ends is_p is_e is_s =
    let at : drop passed now ≡ drop passed marks = ap (drop passed) same in
    let all : Moved from marks text (first_entry n (behind_passed passed from marks text)) (past_entry n (behind_passed passed from marks text)) p e s =
    moved passed from _ _ p e _ s marks text _ _ le (entry_over n from (drop passed marks) text ends) (is_p ∙ ap (λ (ms : List Mark). passed + entry_len n ms) at) (is_e ∙ ap (entry_end n from) at) (is_s ∙ ap (entry_short n) at) in
    subst (λ (ls : List TextLine). Moved from marks text (first_entry n ls) (past_entry n ls) p e s) (sym is) all

-- ---- one more line behind those that have passed

told_ends : (passed from : ℕ) (marks marks1 : List Mark) (m : Mark) (text line text1 : List ℕ) → passed ≤ length marks → AreEnds from (drop passed marks) (length text) → text1 ≡ text ++ line → m.end ≡ length text1 → marks1 ≡ marks ++ m ∷ []
    → (passed ≤ length marks1) × AreEnds from (drop passed marks1) (length text1)
told_ends passed from marks marks1 m text line text1 le ends t e is =
    let behind : drop passed marks1 ≡ drop passed marks ++ m ∷ [] = ap (drop passed) is ∙ drop-append-le passed marks (m ∷ []) le in (
      omega (arith, ap length is, length-append marks (m ∷ []), le),
      subst (λ (ms : List Mark). AreEnds from ms (length text1)) (sym behind) (subst (λ (u : List ℕ). AreEnds from (drop passed marks ++ m ∷ []) (length u)) (sym t) (more_ends from (drop passed marks) m text line ends (e ∙ ap length t))),
    )

told_lines : (passed from : ℕ) (marks marks1 : List Mark) (m : Mark) (text line text1 : List ℕ) → passed ≤ length marks → AreEnds from (drop passed marks) (length text) → text1 ≡ text ++ line → m.end ≡ length text1 → marks1 ≡ marks ++ m ∷ []
    → behind_passed passed from marks1 text1 ≡ behind_passed passed from marks text ++ record { entry = m.entry; count = m.count; short = m.short; text = line } ∷ []
told_lines passed from marks marks1 m text line text1 le ends t e is =
    let behind : drop passed marks1 ≡ drop passed marks ++ m ∷ [] = ap (drop passed) is ∙ drop-append-le passed marks (m ∷ []) le in
    ap₂ (λ (ms : List Mark) (u : List ℕ). lines_in from ms u) behind t ∙ more_lines from (drop passed marks) m text line ends (e ∙ ap length t)

-- the line's text was appended, and its mark, or the text was cut again
pub ends_stay : (r : Result (Unit {0}) NoMemory) (passed from len : ℕ) (marks marks1 : List Mark) (m : Mark) (text line longer text1 : List ℕ) → passed ≤ length marks → AreEnds from (drop passed marks) (length text) → longer ≡ text ++ line → len ≡ length text → m.end ≡ length longer
    → OnOk r (marks1 ≡ marks ++ m ∷ []) → OnOk r (text1 ≡ longer) → OnErr r (marks1 ≡ marks) → OnErr r (text1 ≡ take len longer)
    → (passed ≤ length marks1) × AreEnds from (drop passed marks1) (length text1)
ends_stay (Ok u) passed from len marks marks1 m text line longer text1 le ends t size e marked whole kept cut = told_ends passed from marks marks1 m text line text1 le ends (whole ∙ t) (e ∙ ap length (sym whole)) marked
ends_stay (Err u) passed from len marks marks1 m text line longer text1 le ends t size e marked whole kept cut =
    let same : text1 ≡ text = cut ∙ (ap (take len) t ∙ take_at text line len (sym size)) in
    (subst (λ (ms : List Mark). passed ≤ length ms) (sym kept) le, subst (λ (ms : List Mark). AreEnds from (drop passed ms) (length text1)) (sym kept) (subst (λ (u : List ℕ). AreEnds from (drop passed marks) (length u)) (sym same) ends))

pub line_told : (r : Result (Unit {0}) NoMemory) (passed from : ℕ) (marks marks1 : List Mark) (m : Mark) (text line longer text1 : List ℕ) (lines : List TextLine) (b : Bool) → passed ≤ length marks → AreEnds from (drop passed marks) (length text) → longer ≡ text ++ line → m.end ≡ length longer
    → behind_passed passed from marks text ≡ lines → m.short ≡ b → OnOk r (marks1 ≡ marks ++ m ∷ []) → OnOk r (text1 ≡ longer)
    → OnOk r (behind_passed passed from marks1 text1 ≡ lines ++ record { entry = m.entry; count = m.count; short = b; text = line } ∷ [])
line_told (Ok u) passed from marks marks1 m text line longer text1 lines b le ends t e is one marked whole =
    told_lines passed from marks marks1 m text line text1 le ends (whole ∙ t) (e ∙ ap length (sym whole)) marked ∙ ap₂ (λ (ls : List TextLine) (x : Bool). ls ++ record { entry = m.entry; count = m.count; short = x; text = line } ∷ []) is one
line_told (Err u) passed from marks marks1 m text line longer text1 lines b le ends t e is one marked whole = tt

-- ---- all lines

pub all_texts : (from : ℕ) (ms : List Mark) (text : List ℕ) → AreEnds from ms (length text) → texts (lines_in from ms text) ≡ slice_range text from (length text)
all_texts from [] text e = sym (ap (λ (k : ℕ). slice_range text from k) (sym e) ∙ part_none text from)
all_texts from (m ∷ ms) text e =
    ap (λ (t : List ℕ). slice_range text from m.end ++ t) (all_texts m.end ms text e.1) ∙ parts_join text from m.end (length text) e.0 (ends_up m.end (length text) ms e.1)

pub all_short : (from : ℕ) (ms : List Mark) (text : List ℕ) → are_short (lines_in from ms text) ≡ any_short ms
all_short from [] text = refl
all_short from (m ∷ ms) text = ap (λ (b : Bool). m.short || b) (all_short m.end ms text)

-- lines are left where marks are
some_left : (from k : ℕ) (ms : List Mark) (text : List ℕ) → k < length ms → has_lines (lines_in from (drop k ms) text) ≡ true
some_left from k [] text lt = absurd (omega (arith, lt))
some_left from zero (m ∷ ms) text lt = refl
some_left from (suc k) (m ∷ ms) text lt = some_left from k ms text (omega (arith, lt))

none_left : (from k : ℕ) (ms : List Mark) (text : List ℕ) → length ms ≤ k → has_lines (lines_in from (drop k ms) text) ≡ false
none_left from zero [] text le = refl
none_left from (suc k) [] text le = refl
none_left from zero (m ∷ ms) text le = absurd (omega (arith, le))
none_left from (suc k) (m ∷ ms) text le = none_left from k ms text (omega (arith, le))

pub lines_left : (from k : ℕ) (ms : List Mark) (text : List ℕ) → nat_lt k (length ms) ≡ has_lines (lines_in from (drop k ms) text)
lines_left from k ms text = by (nat_lt k (length ms)) refl
  where
    by : (b : Bool) → nat_lt k (length ms) ≡ b → nat_lt k (length ms) ≡ has_lines (lines_in from (drop k ms) text)
    by true e = e ∙ sym (some_left from k ms text (ltb-true k (length ms) e))
    by false e = e ∙ sym (none_left from k ms text (ltb-false k (length ms) e))
