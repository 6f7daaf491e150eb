-- What a reader that was fed these bytes and gave these records answers, and where it then stands.
use Rattle.std.proofs.Common.{◌≡◌, ◌≤◌, ◌<◌, ◌==◌, ℕ, ◌+◌, Bool, true, false, List, [], ◌++◌, length, drop, cond, not, ◌&&◌, Option, Some, None, Result, Ok, Err, IfOk, OnOk, inl, inr, subst, refl, sym, ◌∙◌, ap, arith, nat_lt}
use Rattle.std.proofs.lemmas.List.{drop-append-le, length-drop, length-append, drop-drop, nil_from_length}
use Rattle.std.proofs.lemmas.Bool.Decides.{nat_tests}
use Rattle.vsw_pcap.specs.Capture.{header_of, front_of, Splits, IsCapture}
use Rattle.vsw_base.specs.declared.fault.NoMemory.{NoMemory}
use Rattle.vsw_pcap.specs.Decides.{Decides}
use Rattle.vsw_pcap.specs.Progress.{Progress}
use Rattle.vsw_pcap.specs.Reader.{after_header, start_in, start_of, answer_at, answer_from, next_of, after_at, after_from, after_next, fed_with, finished_at, Gave, Stands, Moves, Tells}
use Rattle.vsw_pcap.specs.declared.capture.Form.{Form}
use Rattle.vsw_pcap.specs.declared.capture.Front.{Front}
use Rattle.vsw_pcap.specs.declared.capture.Front.TheVariants.{Whole, Part, Oversize}
use Rattle.vsw_pcap.specs.declared.capture.Record.{Record}
use Rattle.vsw_pcap.specs.declared.fault.BadTrace.{BadTrace}
use Rattle.vsw_pcap.specs.declared.fault.BadTrace.TheVariants.{NotPcap, Version, LinkType, Cut, Huge}
use Rattle.vsw_pcap.specs.declared.reader.Start.{Start}
use Rattle.vsw_pcap.specs.declared.reader.Start.TheVariants.{Records, Unknown, Refused}
use Rattle.vsw_pcap.specs.declared.reader.Next.{Next}
use Rattle.vsw_pcap.specs.declared.reader.Next.TheVariants as next
use Rattle.vsw_pcap.proofs.Decided.{decides}
use Rattle.vsw_pcap.proofs.Format.{not_cut, not_huge, whole_is, accepted_long, header_of-append, accepted-append, oversize-append, Splits-append, Splits-more}

Gave-append : (form : Option Form) (bytes : List ℕ) (rs : List Record) (left piece : List ℕ) → Gave form bytes rs left → Gave form (bytes ++ piece) rs (left ++ piece)
Gave-append None bytes rs left piece g = (ap (λ (t : List ℕ). t ++ piece) g.0, g.1)
Gave-append (Some form) bytes rs left piece g =
    let long = accepted_long bytes form g.0 in
    (accepted-append bytes piece form g.0, rw (drop-append-le 24 bytes piece long) (Splits-append form (drop 24 bytes) rs left piece g.1))

-- a piece more is in hand
pub Stands_fed : (p : Progress) (piece bytes : List ℕ) (rs : List Record) → Stands p bytes rs → Stands (fed_with piece p) (bytes ++ piece) rs
Stands_fed p piece bytes rs s = record {
  gave = Gave-append p.form bytes rs p.left piece s.gave;
  place = omega (arith, s.place, length-append p.left piece, length-append bytes piece);
}

-- bytes after the header that was passed, or that stands before them
record Place (p : Progress) (form : Form) (n : ℕ) (bytes : List ℕ) (rs : List Record) : Type 0 where
  header : header_of bytes ≡ Ok form
  splits : Splits form (drop 24 bytes) rs (drop n p.left)
  place : p.at + n + length (drop n p.left) ≡ length bytes

-- what an answer says of the bytes, but for when a fault is told
abbrev Shows : Progress → List ℕ → List Record → Next → Type 0
Shows p bytes rs (next.Record r) = Tells p bytes rs (next.Record r)
Shows p bytes rs next.More = Tells p bytes rs next.More
Shows p bytes rs next.End = Tells p bytes rs next.End
Shows p bytes rs (next.Bad bad) = IsCapture bytes rs (Some bad)

told_part : (p : Progress) (form : Form) (n : ℕ) (bytes : List ℕ) (rs : List Record) (finished none : Bool)
    → Place p form n bytes rs → front_of form (drop n p.left) ≡ Part → p.finished ≡ finished → (length (drop n p.left) == 0) ≡ none
    → Shows p bytes rs (cond (not finished) next.More (cond none next.End (next.Bad (Cut (p.at + n)))))
told_part p form n bytes rs false none w f b e =
    (b, inr (p.at + n, record { form = form; rest = drop n p.left; header = w.header; splits = w.splits; place = w.place; begins = f }))
told_part p form n bytes rs true true w f b e =
    let empty : drop n p.left ≡ [] = nil_from_length (drop n p.left) (grind (arith, nat_tests)) in
    (b, (form, w.header, rw empty at w.splits))
told_part p form n bytes rs true false w f b e =
    let some : 0 < length (drop n p.left) = grind (arith, nat_tests) in
    (record { form = form; rest = drop n p.left; header = w.header; splits = w.splits; place = w.place; begins = f }, omega (arith, w.place))

told_at : (p : Progress) (form : Form) (n : ℕ) (bytes : List ℕ) (rs : List Record) (f : Front)
    → Place p form n bytes rs → front_of form (drop n p.left) ≡ f
    → Shows (after_at f form n p) bytes rs (answer_at f form (p.at + n) (drop n p.left) p.finished)
told_at p form n bytes rs (Whole captured) w e =
    let fits = whole_is form (drop n p.left) captured e in
    let later : drop (16 + captured) (drop n p.left) ≡ drop (n + (16 + captured)) p.left = drop-drop (16 + captured) n p.left in
    record {
      gave = (w.header, rw later at (Splits-more form (drop 24 bytes) rs (drop n p.left) captured w.splits e));
      place = omega (arith, w.place, fits.0, length-drop (16 + captured) (drop n p.left), ap length later);
    }
told_at p form n bytes rs Oversize w e = record { form = form; rest = drop n p.left; header = w.header; splits = w.splits; place = w.place; begins = e }
told_at p form n bytes rs Part w e = told_part p form n bytes rs p.finished (length (drop n p.left) == 0) w e refl refl

-- a refused header has one of the first three faults
pub refused_is : (bytes : List ℕ) (rs : List Record) (bad : BadTrace) → header_of bytes ≡ Err bad → rs ≡ [] → IsCapture bytes rs (Some bad)
refused_is bytes rs NotPcap h e = (h, e)
refused_is bytes rs Version h e = (h, e)
refused_is bytes rs LinkType h e = (h, e)
refused_is bytes rs (Cut at) h e = absurd (not_cut bytes at h)
refused_is bytes rs (Huge at) h e = absurd (not_huge bytes at h)

-- what is known where the next record begins so
abbrev Knows : Progress → List ℕ → List Record → Start → Type 0
Knows p bytes rs (Records form n) = Place p form n bytes rs
Knows p bytes rs Unknown = (p.finished ≡ false) × (length bytes < 24) × (rs ≡ [])
Knows p bytes rs (Refused bad) = (header_of bytes ≡ Err bad) × (rs ≡ [])

told_from : (p : Progress) (bytes : List ℕ) (rs : List Record) (start : Start) → Knows p bytes rs start → Shows (after_from start p) bytes rs (answer_from start p)
told_from p bytes rs (Records form n) k = told_at p form n bytes rs (front_of form (drop n p.left)) k refl
told_from p bytes rs Unknown k = (k.0, inl (k.1, k.2))
told_from p bytes rs (Refused bad) k = refused_is bytes rs bad k.0 k.1

knows_header : (p : Progress) (bytes : List ℕ) (rs : List Record) (short : Bool) (header : Result Form BadTrace)
    → p.left ≡ bytes → rs ≡ [] → p.at + length p.left ≡ length bytes → (nat_lt (length p.left) 24 && not p.finished) ≡ short → header_of p.left ≡ header
    → Knows p bytes rs (cond short Unknown (after_header header))
knows_header p bytes rs true header l e a s h = (grind (arith, nat_tests), grind (arith, nat_tests), e)
knows_header p bytes rs false (Ok form) l e a s h =
    let accepted : header_of bytes ≡ Ok form = ap header_of (sym l) ∙ h in
    let long = accepted_long bytes form accepted in
    let P : List Record → Type 0 = λ t. Splits form (drop 24 bytes) t (drop 24 p.left) in
    record { header = accepted; splits = subst P (sym e) (ap (drop 24) (sym l)); place = omega (arith, length-drop 24 p.left, ap length l) }
knows_header p bytes rs false (Err bad) l e a s h = (ap header_of (sym l) ∙ h, e)

knows : (p : Progress) (o : Option Form) (bytes : List ℕ) (rs : List Record) → Gave o bytes rs p.left → p.at + length p.left ≡ length bytes
    → Knows p bytes rs (start_in o p.left p.finished)
knows p None bytes rs g a = knows_header p bytes rs (nat_lt (length p.left) 24 && not p.finished) (header_of p.left) g.0 g.1 a refl refl
knows p (Some form) bytes rs g a = record { header = g.0; splits = g.1; place = omega (arith, a) }

shown : (p : Progress) (bytes : List ℕ) (rs : List Record) → Stands p bytes rs → Shows (after_next p) bytes rs (next_of p)
unfolding next_of after_next
shown p bytes rs s = told_from p bytes rs (start_of p) (knows p p.form bytes rs s.gave s.place)

-- a record takes at least 16 bytes, and no other answer changes anything
moves_at : (p : Progress) (form : Form) (n : ℕ) (f : Front) → front_of form (drop n p.left) ≡ f → Moves p (after_at f form n p) (answer_at f form (p.at + n) (drop n p.left) p.finished)
moves_at p form n (Whole captured) e =
    let fits = whole_is form (drop n p.left) captured e in
    let some : n ≤ length p.left = omega (arith, fits.0, length-drop n p.left) in
    let gone = length-drop (n + (16 + captured)) p.left in
    record { shorter = omega (arith, fits.0, length-drop n p.left, gone); place = omega (arith, fits.0, length-drop n p.left, gone); finished = refl }
moves_at p form n Oversize e = refl
moves_at p form n Part e = moves_part p form n p.finished (length (drop n p.left) == 0)
  where
    moves_part : (p : Progress) (form : Form) (n : ℕ) (finished none : Bool) → Moves p p (cond (not finished) next.More (cond none next.End (next.Bad (Cut (p.at + n)))))
    moves_part p form n false none = refl
    moves_part p form n true true = refl
    moves_part p form n true false = refl

moves_from : (p : Progress) (start : Start) → Moves p (after_from start p) (answer_from start p)
moves_from p (Records form n) = moves_at p form n (front_of form (drop n p.left)) refl
moves_from p Unknown = refl
moves_from p (Refused bad) = refl

pub moves : (p : Progress) → Moves p (after_next p) (next_of p)
unfolding next_of after_next
moves p = moves_from p (start_of p)

-- no answer ends the bytes or takes their end back
pub same_end : (p q : Progress) (answer : Next) → Moves p q answer → q.finished ≡ p.finished
same_end p q (next.Record r) m = m.finished
same_end p q next.More m = ap (λ (t : Progress). t.finished) m
same_end p q next.End m = ap (λ (t : Progress). t.finished) m
same_end p q (next.Bad bad) m = ap (λ (t : Progress). t.finished) m

-- a fault is told as soon as the bytes show it
told_shown : (p q : Progress) (bytes : List ℕ) (rs : List Record) (answer : Next) → answer ≡ next_of p → Moves p q answer → Stands p bytes rs → Shows q bytes rs answer → Tells q bytes rs answer
told_shown p q bytes rs (next.Record r) e m s h = h
told_shown p q bytes rs next.More e m s h = h
told_shown p q bytes rs next.End e m s h = h
told_shown p q bytes rs (next.Bad bad) e m s h = let P : Progress → Type 0 = λ t. Decides bad t.finished (length bytes) in (h, subst P (sym m) (decides p bytes rs bad s e))

pub told : (p : Progress) (bytes : List ℕ) (rs : List Record) → Stands p bytes rs → Tells (after_next p) bytes rs (next_of p)
told p bytes rs s = told_shown p (after_next p) bytes rs (next_of p) refl (moves p) s (shown p bytes rs s)

-- more bytes, or the end, don't change what refuses the capture at this front
refused_front : (form : Form) (at : ℕ) (left piece : List ℕ) (bad : BadTrace) (f : Front) → front_of form left ≡ f → answer_at f form at left false ≡ next.Bad bad
    → answer_at (front_of form (left ++ piece)) form at (left ++ piece) false ≡ next.Bad bad
refused_front form at left piece bad (Whole captured) e a = cc
refused_front form at left piece bad Oversize e a = rw (oversize-append form left piece e) a
refused_front form at left piece bad Part e a = cc

refused_end : (form : Form) (at : ℕ) (left : List ℕ) (bad : BadTrace) (f : Front) → answer_at f form at left false ≡ next.Bad bad → answer_at f form at left true ≡ next.Bad bad
refused_end form at left bad (Whole captured) a = cc
refused_end form at left bad Oversize a = a
refused_end form at left bad Part a = cc

-- a reader that isn't finished
abbrev open_at : Option Form → ℕ → List ℕ → Progress
open_at o at left = record { form = o; at = at; left = left; finished = false }

refused_header : (at : ℕ) (left piece : List ℕ) (bad : BadTrace) (header : Result Form BadTrace) → 24 ≤ length left
    → answer_from (after_header header) (open_at None at left) ≡ next.Bad bad → answer_from (after_header header) (open_at None at (left ++ piece)) ≡ next.Bad bad
refused_header at left piece bad (Ok form) l a =
    rw (drop-append-le 24 left piece l) (refused_front form (at + 24) (drop 24 left) piece bad (front_of form (drop 24 left)) refl a)
refused_header at left piece bad (Err other) l a = a

-- a whole header is read
long_start : (left : List ℕ) (finished : Bool) → 24 ≤ length left → start_in None left finished ≡ after_header (header_of left)
long_start left finished l =
    let e : (nat_lt (length left) 24 && not finished) ≡ false = grind (arith, nat_tests) in
    ap (λ (short : Bool). cond short Unknown (after_header (header_of left))) e

refused_start : (at : ℕ) (left piece : List ℕ) (bad : BadTrace) (short : Bool) → nat_lt (length left) 24 ≡ short
    → answer_from (cond (short && true) Unknown (after_header (header_of left))) (open_at None at left) ≡ next.Bad bad
    → next_of (open_at None at (left ++ piece)) ≡ next.Bad bad
unfolding next_of
refused_start at left piece bad true e a = cc
refused_start at left piece bad false e a =
    let long : 24 ≤ length left = grind (arith, nat_tests) in
    let more : 24 ≤ length (left ++ piece) = omega (arith, length-append left piece) in
    let start = long_start (left ++ piece) false more ∙ ap after_header (header_of-append left piece long) in
    ap (λ (s : Start). answer_from s (open_at None at (left ++ piece))) start ∙ refused_header at left piece bad (header_of left) long a

refused_fed_in : (o : Option Form) (at : ℕ) (left piece : List ℕ) (bad : BadTrace) → next_of (open_at o at left) ≡ next.Bad bad → next_of (open_at o at (left ++ piece)) ≡ next.Bad bad
unfolding next_of
refused_fed_in None at left piece bad a = refused_start at left piece bad (nat_lt (length left) 24) refl a
refused_fed_in (Some form) at left piece bad a = refused_front form (at + 0) left piece bad (front_of form left) refl a

-- a capture that was refused stays refused, whatever is fed
pub refused_fed : (p : Progress) (piece : List ℕ) (bad : BadTrace) → p.finished ≡ false → next_of p ≡ next.Bad bad → next_of (fed_with piece p) ≡ next.Bad bad
unfolding next_of
refused_fed p piece bad f a =
    let P : Bool → Type 0 = λ b. next_of (record p { finished = b }) ≡ next.Bad bad → next_of (record p { left = p.left ++ piece; finished = b }) ≡ next.Bad bad in
    subst P (sym f) (refused_fed_in p.form p.at p.left piece bad) a

refused_header_end : (at : ℕ) (left : List ℕ) (bad : BadTrace) (header : Result Form BadTrace)
    → answer_from (after_header header) (open_at None at left) ≡ next.Bad bad → answer_from (after_header header) (finished_at (open_at None at left)) ≡ next.Bad bad
refused_header_end at left bad (Ok form) a = refused_end form (at + 24) (drop 24 left) bad (front_of form (drop 24 left)) a
refused_header_end at left bad (Err other) a = a

refused_start_end : (at : ℕ) (left : List ℕ) (bad : BadTrace) (short : Bool) → nat_lt (length left) 24 ≡ short
    → answer_from (cond (short && true) Unknown (after_header (header_of left))) (open_at None at left) ≡ next.Bad bad
    → next_of (finished_at (open_at None at left)) ≡ next.Bad bad
unfolding next_of
refused_start_end at left bad true e a = cc
refused_start_end at left bad false e a =
    let long : 24 ≤ length left = grind (arith, nat_tests) in
    ap (λ (s : Start). answer_from s (finished_at (open_at None at left))) (long_start left true long) ∙ refused_header_end at left bad (header_of left) a

refused_end_in : (o : Option Form) (at : ℕ) (left : List ℕ) (finished : Bool) (bad : BadTrace)
    → next_of (record { form = o; at = at; left = left; finished = finished }) ≡ next.Bad bad → next_of (finished_at (open_at o at left)) ≡ next.Bad bad
unfolding next_of
refused_end_in o at left true bad a = a
refused_end_in None at left false bad a = refused_start_end at left bad (nat_lt (length left) 24) refl a
refused_end_in (Some form) at left false bad a = refused_end form (at + 0) left bad (front_of form left) a

-- a capture that was refused stays refused at its end
pub refused_finished : (p : Progress) (bad : BadTrace) → next_of p ≡ next.Bad bad → next_of (finished_at p) ≡ next.Bad bad
unfolding next_of
refused_finished p bad a = refused_end_in p.form p.at p.left p.finished bad a

-- the same of an answer of `next`
pub moves_next : (p q : Progress) (r : Result Next NoMemory) → IfOk r (λ answer. answer ≡ next_of p) → OnOk r (q ≡ after_next p) → IfOk r (λ answer. Moves p q answer)
moves_next p q (Ok answer) h e =
    let P : Next × Progress → Type 0 = λ t. Moves p t.1 t.0 in
    let same : (next_of p, after_next p) ≡ (answer, q) = cc in
    subst P same (moves p)
moves_next p q (Err x) h e = tt

told_same : (p q : Progress) (answer : Next) → answer ≡ next_of p → q ≡ after_next p → (bytes : List ℕ) (rs : List Record) → Stands p bytes rs → Tells q bytes rs answer
told_same p q answer h e bytes rs s =
    let P : Next × Progress → Type 0 = λ t. Tells t.1 bytes rs t.0 in
    let same : (next_of p, after_next p) ≡ (answer, q) = cc in
    subst P same (told p bytes rs s)

pub told_next : (p q : Progress) (r : Result Next NoMemory) → IfOk r (λ answer. answer ≡ next_of p) → OnOk r (q ≡ after_next p)
    → IfOk r (λ answer. (bytes : List ℕ) (rs : List Record) → Stands p bytes rs → Tells q bytes rs answer)
told_next p q (Ok answer) h e = told_same p q answer h e
told_next p q (Err x) h e = tt

-- and of an answer of `feed`
pub stands_feed : (p q : Progress) (piece : List ℕ) (r : Result (Unit {0}) NoMemory) → OnOk r (q ≡ fed_with piece p)
    → OnOk r ((bytes : List ℕ) (rs : List Record) → Stands p bytes rs → Stands q (bytes ++ piece) rs)
stands_feed p q piece (Ok x) e = λ bytes rs s. rw e (Stands_fed p piece bytes rs s)
stands_feed p q piece (Err x) e = tt

pub refused_feed : (p q : Progress) (piece : List ℕ) (r : Result (Unit {0}) NoMemory) → p.finished ≡ false → OnOk r (q ≡ fed_with piece p)
    → OnOk r ((bad : BadTrace) → next_of p ≡ next.Bad bad → next_of q ≡ next.Bad bad)
refused_feed p q piece (Ok x) f e = λ bad a. ap next_of e ∙ refused_fed p piece bad f a
refused_feed p q piece (Err x) f e = tt
