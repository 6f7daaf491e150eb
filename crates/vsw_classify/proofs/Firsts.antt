-- The first element that passes a test: where it is, what is changed or taken there, and what follows on an answer.
use Rattle.std.proofs.Common.{◌≡◌, zero, suc, ◌<◌, ◌+◌, ◌-◌, ℕ, Bool, true, false, cond, List, [], ◌∷◌, ◌++◌, length, take, drop, Option, Some, None, refl, ap, sym, ◌∙◌, arith, get_or}
use Rattle.std.specs.Prelude.{option_map, nat_lt, Result, Ok, Err, OnOk, OnErr}
use Rattle.std.specs.List.{slice_set, list_any, find, position, position_or_len, remove}
use Rattle.std.specs.Option.{is_some}
use Rattle.std.proofs.lemmas.Bool.Decides.{nat_tests}
use Rattle.std.proofs.Math.Numerals.{add-one}
use Rattle.std.proofs.lemmas.List.{take_rest}
use Rattle.std.proofs.lemmas.List.Quantifiers.{position-Some}
use Rattle.vsw_classify.specs.Groups.{changed, removed}

shifted : (n m : ℕ) → cond (nat_lt (1 + n) (suc m)) (Some (1 + n)) None ≡ option_map suc (cond (nat_lt n m) (Some n) None)
shifted n m = grind (arith, nat_tests)

position-step : {A : Type 0} (p : A → Bool) (x : A) (xs : List A) → p x ≡ false → position p (x ∷ xs) ≡ option_map suc (position p xs)
position-step p x xs e = rw e (shifted (position_or_len p xs) (length xs))

position-here : {A : Type 0} (p : A → Bool) (x : A) (xs : List A) → p x ≡ true → position p (x ∷ xs) ≡ Some 0
position-here p x xs e = rw e (grind (arith, nat_tests))

some-suc : (o : Option ℕ) → is_some (option_map suc o) ≡ is_some o
some-suc None = refl
some-suc (Some n) = refl

-- there is a place where there is an element that passes
pub some-any : {A : Type 0} (p : A → Bool) (xs : List A) → is_some (position p xs) ≡ list_any p xs
some-any p [] = refl
some-any p (x ∷ xs) = by (p x) refl (some-any p xs)
  where
    by : (b : Bool) → p x ≡ b → is_some (position p xs) ≡ list_any p xs → is_some (position p (x ∷ xs)) ≡ list_any p (x ∷ xs)
    by true e ih = ap is_some (position-here p x xs e) ∙ rw e refl
    by false e ih = ap is_some (position-step p x xs e) ∙ some-suc (position p xs) ∙ ih ∙ rw e refl

-- what is found stands at that place
pub find-none : {A : Type 0} (p : A → Bool) (xs : List A) → position p xs ≡ None → find p xs ≡ None
find-none p [] h = refl
find-none p (x ∷ xs) h = by (p x) refl (position p xs) refl (find-none p xs)
  where
    by : (b : Bool) → p x ≡ b → (o : Option ℕ) → position p xs ≡ o → (position p xs ≡ None → find p xs ≡ None) → find p (x ∷ xs) ≡ None
    by true e o i ih = let never = sym (position-here p x xs e) ∙ h in absurd (cc)
    by false e None i ih = rw e (ih i)
    by false e (Some n) i ih = let s = sym (position-step p x xs e ∙ ap (option_map suc) i) ∙ h in absurd (cc)

find-index : {A : Type 0} (p : A → Bool) (xs : List A) (i : ℕ) (d : A) → i < length xs → p (get_or xs i d) ≡ true → ((k : ℕ) → k < i → p (get_or xs k d) ≡ false) → find p xs ≡ Some (get_or xs i d)
find-index p [] i d lt here before = absurd (omega arith)
find-index p (x ∷ xs) zero d lt here before = rw here refl
find-index p (x ∷ xs) (suc i) d lt here before =
    let e = before 0 (omega arith) in
    let ih = find-index p xs i d (omega arith) here (λ k l. before (suc k) (omega arith)) in
    rw e ih

pub find-some : {A : Type 0} (p : A → Bool) (xs : List A) (i : ℕ) (d : A) → position p xs ≡ Some i → find p xs ≡ Some (get_or xs i d)
find-some p xs i d h = let t = position-Some p xs i d h in find-index p xs i d t.0 t.1 t.2

-- where nothing passes, nothing is changed
pub changed-none : {A : Type 0} (p : A → Bool) (f : A → A) (xs : List A) → position p xs ≡ None → changed p f xs ≡ xs
changed-none p f [] h = refl
changed-none p f (x ∷ xs) h = by (p x) refl (position p xs) refl (changed-none p f xs)
  where
    by : (b : Bool) → p x ≡ b → (o : Option ℕ) → position p xs ≡ o → (position p xs ≡ None → changed p f xs ≡ xs) → changed p f (x ∷ xs) ≡ x ∷ xs
    by true e o i ih = let never = sym (position-here p x xs e) ∙ h in absurd (cc)
    by false e None i ih = rw e (ap (λ ys. x ∷ ys) (ih i))
    by false e (Some n) i ih = let s = sym (position-step p x xs e ∙ ap (option_map suc) i) ∙ h in absurd (cc)

-- two changes that agree on what is found are one
pub changed-as : {A : Type 0} (p : A → Bool) (f g : A → A) (xs : List A) → ((x : A) → find p xs ≡ Some x → f x ≡ g x) → changed p f xs ≡ changed p g xs
changed-as p f g [] h = refl
changed-as {A} p f g (x ∷ xs) h = by (p x) refl (changed-as p f g xs)
  where
    by : (b : Bool) → p x ≡ b → (((y : A) → find p xs ≡ Some y → f y ≡ g y) → changed p f xs ≡ changed p g xs) → changed p f (x ∷ xs) ≡ changed p g (x ∷ xs)
    by true e ih = let i = h x (rw e refl) in rw e (ap (λ y. y ∷ xs) i)
    by false e ih = rw e (ap (λ ys. x ∷ ys) (ih (λ y i. h y (rw e i))))

at-index : {A : Type 0} (p : A → Bool) (f : A → A) (xs : List A) (i : ℕ) (d : A) → i < length xs → p (get_or xs i d) ≡ true → ((k : ℕ) → k < i → p (get_or xs k d) ≡ false) → slice_set xs i (f (get_or xs i d)) ≡ changed p f xs
at-index p f [] i d lt here before = absurd (omega arith)
at-index p f (x ∷ xs) zero d lt here before = rw here refl
at-index p f (x ∷ xs) (suc i) d lt here before =
    let e = before 0 (omega arith) in
    let ih = at-index p f xs i d (omega arith) here (λ k l. before (suc k) (omega arith)) in
    rw e (ap (λ ys. x ∷ ys) ih)

-- what stands at the place of the first is changed
pub changed-at : {A : Type 0} (p : A → Bool) (f : A → A) (xs : List A) (i : ℕ) (d : A) → position p xs ≡ Some i → slice_set xs i (f (get_or xs i d)) ≡ changed p f xs
changed-at p f xs i d h = let t = position-Some p xs i d h in at-index p f xs i d t.0 t.1 t.2

-- where nothing passes, nothing goes
pub removed-none : {A : Type 0} (p : A → Bool) (xs : List A) → position p xs ≡ None → removed p xs ≡ xs
removed-none p [] h = refl
removed-none p (x ∷ xs) h = by (p x) refl (position p xs) refl (removed-none p xs)
  where
    by : (b : Bool) → p x ≡ b → (o : Option ℕ) → position p xs ≡ o → (position p xs ≡ None → removed p xs ≡ xs) → removed p (x ∷ xs) ≡ x ∷ xs
    by true e o i ih = let never = sym (position-here p x xs e) ∙ h in absurd (cc)
    by false e None i ih = rw e (ap (λ ys. x ∷ ys) (ih i))
    by false e (Some n) i ih = let s = sym (position-step p x xs e ∙ ap (option_map suc) i) ∙ h in absurd (cc)

gone-index : {A : Type 0} (p : A → Bool) (xs : List A) (i : ℕ) (d : A) → i < length xs → p (get_or xs i d) ≡ true → ((k : ℕ) → k < i → p (get_or xs k d) ≡ false) → remove xs i ≡ removed p xs
gone-index p [] i d lt here before = absurd (omega arith)
gone-index p (x ∷ xs) zero d lt here before = rw here refl
gone-index p (x ∷ xs) (suc i) d lt here before =
    let e = before 0 (omega arith) in
    let ih = gone-index p xs i d (omega arith) here (λ k l. before (suc k) (omega arith)) in
    rw e (ap (λ ys. x ∷ ys) ih)

-- what stands at the place of the first goes
pub removed-at : {A : Type 0} (p : A → Bool) (xs : List A) (i : ℕ) → position p xs ≡ Some i → remove xs i ≡ removed p xs
removed-at p [] i h = absurd (cc)
removed-at p (x ∷ xs) i h = let t = position-Some p (x ∷ xs) i x h in gone-index p (x ∷ xs) i x t.0 t.1 t.2

-- what follows on an answer
pub on_ok : {A E P Q : Type 0} (r : Result A E) → (P → Q) → OnOk r P → OnOk r Q
on_ok (Ok x) f p = f p
on_ok (Err e) f p = p

pub on_err : {A E P Q : Type 0} (r : Result A E) → (P → Q) → OnErr r P → OnErr r Q
on_err (Ok x) f p = p
on_err (Err e) f p = f p

-- what stands before a place and behind it is left when what stands there goes
pub but-one : {A : Type 0} (xs : List A) (i : ℕ) → take i xs ++ take (length xs - (i + 1)) (drop (i + 1) xs) ≡ remove xs i
but-one xs i = ap (λ ys. take i xs ++ ys) (take_rest xs (i + 1) ∙ ap (λ n. drop n xs) (add-one i))
