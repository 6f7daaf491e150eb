-- What acts are counted to.
use Rattle.std.proofs.Common.{◌≡◌, ℕ, ◌+◌, ◌-◌, ◌*◌, ◌/◌, ◌%◌, ◌<◌, ◌||◌, List, [], ◌∷◌, ◌++◌, refl, sym, ◌∙◌, ap, subst, arith, length, drop, get_or, is_some, Bool, true, false, Some, None, nat_lt}
use Rattle.std.proofs.lemmas.Grind.{common_steps}
use Rattle.vsw_base.specs.declared.header.Header.{Header}
use Rattle.vsw_base.specs.Shape.{encaps, is_stack}
use Rattle.vsw_base.proofs.Truths.{both}
use Rattle.vsw_words.specs.Doing.{Moves, doing_by, edits}
use Rattle.vsw_words.specs.declared.doing.Doing.{Doing}
use Rattle.vsw_words.specs.Private.Acts.{counted, tallied}
use Rattle.vsw_words.proofs.OfKind.{Words, by_kind, ignores_at, pops_at, pushes_at, taken, words_of}
use Rattle.vsw_transpose.specs.declared.act.Change.{Change}
use Rattle.vsw_transpose.specs.declared.act.Change.TheVariants as of
use Rattle.vsw_transpose.specs.declared.act.Act.{Act}
use Rattle.vsw_transpose.specs.declared.act.Act.TheVariants.{Push, Pop, Modify, Ignore}
use Rattle.vsw_transpose.specs.Apply.{apply}
use Rattle.vsw_transpose.specs.Fits.{all_may, at_headers, fits, outer}
use Rattle.vsw_transpose.specs.Form.{are_late, are_ordered, are_stays, is_form, pops, pushed}
use Rattle.vsw_transpose.proofs.Encaps.{encaps_three}
use Rattle.vsw_transpose.proofs.Kept.{fits_parts, form_parts, rest_is}
use Rattle.vsw_transpose.proofs.Parts.{outer_after, stays_pops, stays_pushed}
use Rattle.vsw_words.specs.Reading.{or_none, read_act, read_acts}
use Rattle.vsw_words.specs.Row.{all_halves, change_halves}

-- whether acts of a row change anything is whether those of the transposition do
changes_halves : (c : Change) (ys : List Act) → edits (change_halves c ++ ys) ≡ true
changes_halves (of.Ether d s) ys = refl
changes_halves (of.Ip a b) ys = refl
changes_halves (of.Ports a b) ys = refl
changes_halves (of.Six None b) ys = refl
changes_halves (of.Six (Some a) None) ys = refl
changes_halves (of.Six (Some a) (Some b)) ys = refl

edits_halves : (xs : List Act) → edits (all_halves xs) ≡ edits xs
edits_halves [] = refl
edits_halves (Push h ∷ xs) = refl
edits_halves (Pop ∷ xs) = refl
edits_halves (Modify c ∷ xs) = changes_halves c (all_halves xs)
edits_halves (Ignore ∷ xs) = edits_halves xs

tallied_halves : (p q : ℕ) (c : Change) (ys : List Act) → tallied p q (change_halves c ++ ys) ≡ counted p q true
tallied_halves p q (of.Ether d s) ys = refl
tallied_halves p q (of.Ip a b) ys = refl
tallied_halves p q (of.Ports a b) ys = refl
tallied_halves p q (of.Six None b) ys = refl
tallied_halves p q (of.Six (Some a) None) ys = refl
tallied_halves p q (of.Six (Some a) (Some b)) ys = refl

-- behind an act at a header that stays nothing is popped or pushed
abbrev Counts : ℕ → ℕ → List Act → Type 0
Counts p q xs = tallied p q (all_halves xs) ≡ counted (p + pops xs) (q + length (pushed xs)) (edits xs)

no_more : (p q : ℕ) (e : Bool) (xs : List Act) → are_stays xs ≡ true → counted p q e ≡ counted (p + pops xs) (q + length (pushed xs)) e
no_more p q e xs o =
    let a : p ≡ p + pops xs = omega (arith, stays_pops xs o) in
    let b : q ≡ q + length (pushed xs) = omega (arith, ap (λ (hs : List Header). length hs) (stays_pushed xs o)) in
    ap (λ (n : ℕ). counted n q e) a ∙ ap (λ (n : ℕ). counted (p + pops xs) n e) b

stays_counts : (p q : ℕ) (xs : List Act) → are_stays xs ≡ true → Counts p q xs
stays_counts p q [] o = no_more p q false [] o
stays_counts p q (Push h ∷ xs) o = absurd (grind arith)
stays_counts p q (Pop ∷ xs) o = absurd (grind arith)
stays_counts p q (Modify c ∷ xs) o = tallied_halves p q c (all_halves xs) ∙ no_more p q true (Modify c ∷ xs) o
stays_counts p q (Ignore ∷ xs) o = ap (counted p q) (edits_halves xs) ∙ no_more p q (edits xs) (Ignore ∷ xs) o

-- what is changed by a pop or a push
some_edit : (p q : ℕ) (e : Bool) → 0 < p + q → counted p q e ≡ counted p q true
some_edit p q e l = let t : nat_lt 0 (p + q) ≡ true = grind (arith, common_steps) in ap (λ (b : Bool). record { pops = p / 3; pushes = q / 3; edits = b }) (ap (λ (b : Bool). b || e) t ∙ sym (ap (λ (b : Bool). b || true) t))

late_counts : (p q : ℕ) (xs : List Act) → are_late xs ≡ true → Counts p q xs
late_counts p q [] o = stays_counts p q [] o
late_counts p q (Push h ∷ xs) o =
    let more : q + 1 + length (pushed xs) ≡ q + length (pushed (Push h ∷ xs)) = omega arith in
    late_counts p (q + 1) xs o ∙ some_edit (p + pops xs) (q + 1 + length (pushed xs)) (edits xs) (omega arith) ∙ ap (λ (n : ℕ). counted (p + pops xs) n true) more
late_counts p q (Pop ∷ xs) o = stays_counts p q (Pop ∷ xs) o
late_counts p q (Modify c ∷ xs) o = stays_counts p q (Modify c ∷ xs) o
late_counts p q (Ignore ∷ xs) o = stays_counts p q (Ignore ∷ xs) o

all_counts : (p q : ℕ) (xs : List Act) → are_ordered xs ≡ true → Counts p q xs
all_counts p q [] o = late_counts p q [] o
all_counts p q (Push h ∷ xs) o = late_counts p q (Push h ∷ xs) o
all_counts p q (Modify c ∷ xs) o = late_counts p q (Modify c ∷ xs) o
all_counts p q (Ignore ∷ xs) o = late_counts p q (Ignore ∷ xs) o
all_counts p q (Pop ∷ xs) o =
    let more : p + 1 + pops xs ≡ p + pops (Pop ∷ xs) = omega arith in
    all_counts (p + 1) q xs o ∙ some_edit (p + 1 + pops xs) (q + length (pushed xs)) (edits xs) (omega arith) ∙ ap (λ (n : ℕ). counted n (q + length (pushed xs)) true) more

-- acts that pop or push change something
or_true : (b : Bool) → (b || true) ≡ true
or_true true = refl
or_true false = refl

own_edits : (xs : List Act) → (nat_lt 0 (pops xs + length (pushed xs)) || edits xs) ≡ edits xs
own_edits [] = refl
own_edits (Push h ∷ xs) = or_true (nat_lt 0 (pops xs + length (pushed (Push h ∷ xs))))
own_edits (Pop ∷ xs) = or_true (nat_lt 0 (pops (Pop ∷ xs) + length (pushed xs)))
own_edits (Modify c ∷ xs) = or_true (nat_lt 0 (pops xs + length (pushed xs)))
own_edits (Ignore ∷ xs) = own_edits xs

pub tallied_is : (xs : List Act) → is_form xs ≡ true → tallied 0 0 (all_halves xs) ≡ doing_by xs
tallied_is xs f =
    let a : 0 + pops xs ≡ pops xs = omega arith in
    let b : 0 + length (pushed xs) ≡ length (pushed xs) = omega arith in
    all_counts 0 0 xs (form_parts xs f).1 ∙ ap (λ (n : ℕ). counted n (0 + length (pushed xs)) (edits xs)) a ∙ ap (λ (n : ℕ). counted (pops xs) n (edits xs)) b
    ∙ ap (λ (e : Bool). record { pops = pops xs / 3; pushes = length (pushed xs) / 3; edits = e }) (own_edits xs)

-- what is said of a stack that the acts fit
same_stack : (n place : ℕ) (xs : List Act) (hs : List Header) → edits xs ≡ false → all_may n place (at_headers xs) hs ≡ true → apply xs hs ≡ hs
same_stack n place [] hs e m = refl
same_stack n place (Push g ∷ xs) hs e m = absurd (grind (arith, common_steps))
same_stack n place (Pop ∷ xs) hs e m = absurd (grind (arith, common_steps))
same_stack n place (Modify c ∷ xs) hs e m = absurd (grind (arith, common_steps))
same_stack n place (Ignore ∷ xs) [] e m = absurd (grind (arith, common_steps))
same_stack n place (Ignore ∷ xs) (h ∷ hs) e m = ap (λ (gs : List Header). h ∷ gs) (same_stack n (place + 1) xs hs e m)

none_popped : (xs : List Act) → edits xs ≡ false → pops xs ≡ 0
none_popped [] e = refl
none_popped (Push h ∷ xs) e = absurd (grind (arith, common_steps))
none_popped (Pop ∷ xs) e = absurd (grind (arith, common_steps))
none_popped (Modify c ∷ xs) e = absurd (grind (arith, common_steps))
none_popped (Ignore ∷ xs) e = none_popped xs e

pub moves : (xs : List Act) (hs : List Header) (doing : Doing) → doing ≡ doing_by xs → is_form xs ≡ true → is_stack hs ≡ true → fits xs hs ≡ true → Moves xs hs doing
moves xs hs doing is f s t =
    let form = form_parts xs f in
    let rest = rest_is xs hs f s t in
    let made = outer_after xs hs f s (fits_parts xs hs t).0 in
    let threes : length (pushed xs) ≡ 3 * encaps (pushed xs) = encaps_three (pushed xs) form.3 in
    let may : all_may (outer hs) 0 (at_headers xs) hs ≡ true = (both (all_may (outer hs) 0 (at_headers xs) hs) (is_stack (apply xs hs)) t).0 in
    subst (Moves xs hs) (sym is) (record {
      before = omega (arith, rest, form.2);
      after = omega (arith, rest, form.2, made, threes);
      same = λ e. same_stack (outer hs) 0 xs hs e may;
      all = λ e. omega (arith, rest, none_popped xs e);
    })

-- where a first word alone is read
pub words_at : (count : ℕ) (ws rest : List ℕ) (h : ℕ) → 0 < count → h ≡ get_or ws 0 0 → rest ≡ drop 3 ws → is_some (read_acts count ws) ≡ true → Words count ws rest (h, get_or ws 1 0, get_or ws 2 0)
words_at count ws rest h some e cut told = words_of count ws rest (h, get_or ws 1 0, get_or ws 2 0) some (ap (λ (n : ℕ). (n, get_or ws 1 0, get_or ws 2 0)) e) cut told

-- one act is counted
pub pop_counted : (count : ℕ) (ws rest : List ℕ) (w : ℕ × ℕ × ℕ) (p q : ℕ) → Words count ws rest w → w.0 % 16 ≡ 4 → tallied (p + 1) q (or_none (read_acts (count - 1) rest)) ≡ tallied p q (or_none (read_acts count ws))
pop_counted count ws rest w p q k e =
    let (x, read, others, all) = taken count ws rest w k in
    sym (ap (tallied p q) (all ∙ ap (λ (y : Act). y ∷ or_none (read_acts (count - 1) rest)) (pops_at w.0 w.1 w.2 x e read)))

pub push_counted : (count : ℕ) (ws rest : List ℕ) (w : ℕ × ℕ × ℕ) (p q : ℕ) → Words count ws rest w → w.0 % 16 < 4 → tallied p (q + 1) (or_none (read_acts (count - 1) rest)) ≡ tallied p q (or_none (read_acts count ws))
push_counted count ws rest w p q k e =
    let (x, read, others, all) = taken count ws rest w k in
    sym (ap (tallied p q) (all ∙ ap (λ (y : Act). y ∷ or_none (read_acts (count - 1) rest)) (pushes_at w.0 w.1 w.2 x e read)))

-- behind one at a header that stays it is over
Ends : ℕ → ℕ → Act → Type 0
Ends p q x = (xs : List Act) → counted p q (edits (x ∷ xs)) ≡ tallied p q (x ∷ xs)

ends_at : (p q h a b : ℕ) (x : Act) → 4 < h % 16 → read_act h a b ≡ Some x → Ends p q x
unfolding Ends
ends_at p q h a b x l = by_kind (Ends p q) h a b x (record {
  one = λ e. absurd (omega (arith, l, e));
  two = λ e. absurd (omega (arith, l, e));
  three = λ e. absurd (omega (arith, l, e));
  four = λ e. absurd (omega (arith, l, e));
  five = λ e xs. refl;
  six = λ e xs. refl;
  seven = λ e xs. refl;
  eight = λ e xs. refl;
  nine = λ e xs. refl;
  ten = λ e xs. refl;
})

pub stay_counted : (count : ℕ) (ws rest : List ℕ) (w : ℕ × ℕ × ℕ) (p q : ℕ) → Words count ws rest w → 4 < w.0 % 16 → counted p q (edits (or_none (read_acts count ws))) ≡ tallied p q (or_none (read_acts count ws))
unfolding Ends
stay_counted count ws rest w p q k e =
    let (x, read, others, all) = taken count ws rest w k in
    ap (λ (xs : List Act). counted p q (edits xs)) all ∙ ends_at p q w.0 w.1 w.2 x e read (or_none (read_acts (count - 1) rest)) ∙ sym (ap (tallied p q) all)

pub late_counted : (count : ℕ) (ws rest : List ℕ) (w : ℕ × ℕ × ℕ) (p q : ℕ) → 0 < p + q → Words count ws rest w → 4 < w.0 % 16 → counted p q true ≡ tallied p q (or_none (read_acts count ws))
late_counted count ws rest w p q l k e = sym (some_edit p q (edits (or_none (read_acts count ws))) l) ∙ stay_counted count ws rest w p q k e

-- an act of kind 8 changes nothing, and any other one does
pub none_edited : (count : ℕ) (ws rest : List ℕ) (w : ℕ × ℕ × ℕ) → Words count ws rest w → w.0 % 16 ≡ 8 → edits (or_none (read_acts (count - 1) rest)) ≡ edits (or_none (read_acts count ws))
none_edited count ws rest w k e =
    let (x, read, others, all) = taken count ws rest w k in
    sym (ap edits (all ∙ ap (λ (y : Act). y ∷ or_none (read_acts (count - 1) rest)) (ignores_at w.0 w.1 w.2 x e read)))

Changes : Act → Type 0
Changes x = (xs : List Act) → edits (x ∷ xs) ≡ true

changes_at : (h a b : ℕ) (x : Act) → (h % 16 ≡ 8 → ⊥) → read_act h a b ≡ Some x → Changes x
unfolding Changes
changes_at h a b x other = by_kind Changes h a b x (record {
  one = λ e xs. refl;
  two = λ e xs. refl;
  three = λ e xs. refl;
  four = λ e xs. refl;
  five = λ e xs. refl;
  six = λ e xs. refl;
  seven = λ e xs. refl;
  eight = λ e. absurd (other e);
  nine = λ e xs. refl;
  ten = λ e xs. refl;
})

pub one_edited : (count : ℕ) (ws rest : List ℕ) (w : ℕ × ℕ × ℕ) → Words count ws rest w → (w.0 % 16 ≡ 8 → ⊥) → true ≡ edits (or_none (read_acts count ws))
unfolding Changes
one_edited count ws rest w k other =
    let (x, read, others, all) = taken count ws rest w k in
    sym (ap edits all ∙ changes_at w.0 w.1 w.2 x other read (or_none (read_acts (count - 1) rest)))
