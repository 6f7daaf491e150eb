-- The first layer that passes a test, seen through a view: where it is, what is changed or taken there, and where a new one goes.
use Rattle.std.proofs.Common.{◌≡◌, suc, ◌<◌, ◌+◌, ℕ, Bool, true, false, not, cond, List, [], ◌∷◌, ◌++◌, map, length, take, drop, Option, Some, None, refl, ap, sym, ◌∙◌, arith, get_or}
use Rattle.std.specs.Prelude.{nat_lt, if◌then◌else◌}
use Rattle.std.specs.List.{slice_set, find, position, position_or_len, insert, remove}
use Rattle.std.proofs.lemmas.Bool.Decides.{nat_tests}
use Rattle.std.proofs.lemmas.List.{map-set, get_or-map, length-map, map-append, take-map, drop-map}
use Rattle.std.proofs.lemmas.List.Sums.{prefix_len-le-length}
use Rattle.std.proofs.lemmas.List.Quantifiers.{position-Some}
use Rattle.vsw_policy.specs.declared.layer.Layer.{Layer}
use Rattle.vsw_policy.specs.Groups.{changed, removed}
use Rattle.vsw_policy.specs.Layer.{LayerSeen, seen}
use Rattle.vsw_policy.proofs.LayerFirsts.{find-some, changed-none, changed-at, removed-at}
use Rattle.vsw_policy.specs.Layers.{is_before}
use Rattle.vsw_policy.specs.Obey.{placed}

pub first-map : {A B : Type 0} (s : A → B) (p : B → Bool) (xs : List A) → position_or_len (λ x. p (s x)) xs ≡ position_or_len p (map s xs)
first-map s p [] = refl
first-map s p (x ∷ xs) =
    let ih = first-map s p xs in
    elim (p (s x)) as (λ b. cond (not b) (1 + position_or_len (λ x. p (s x)) xs) 0 ≡ cond (not b) (1 + position_or_len p (map s xs)) 0) [ true ↦ refl | false ↦ ap (λ n. 1 + n) ih ]

pub position-map : {A B : Type 0} (s : A → B) (p : B → Bool) (xs : List A) → position (λ x. p (s x)) xs ≡ position p (map s xs)
position-map s p xs = rw (first-map s p xs, length-map xs s) refl

-- what is found through a view stands at the place of the first
pub found-seen : {A B : Type 0} (s : A → B) (p : B → Bool) (xs : List A) (i : ℕ) (d : A) → position p (map s xs) ≡ Some i → find p (map s xs) ≡ Some (s (get_or xs i d))
found-seen s p xs i d h =
    let t = position-Some p (map s xs) i (s d) h in
    let n = length-map xs s in
    let lt : i < length xs = omega arith in
    find-some p (map s xs) i (s d) h ∙ ap (λ y. Some y) (get_or-map s xs i d (s d) lt)

-- what stands at that place is changed
pub changed-seen : {A B : Type 0} (s : A → B) (p : B → Bool) (f : B → B) (xs : List A) (i : ℕ) (y d : A) → position p (map s xs) ≡ Some i → s y ≡ f (s (get_or xs i d)) → map s (slice_set xs i y) ≡ changed p f (map s xs)
changed-seen s p f xs i y d h e =
    let t = position-Some p (map s xs) i (s d) h in
    let n = length-map xs s in
    let lt : i < length xs = omega arith in
    map-set s xs i y ∙ ap (λ z. slice_set (map s xs) i z) (e ∙ ap f (sym (get_or-map s xs i d (s d) lt))) ∙ changed-at p f (map s xs) i (s d) h

pub removed-seen : {A B : Type 0} (s : A → B) (p : B → Bool) (xs : List A) (i : ℕ) → position p (map s xs) ≡ Some i → map s (remove xs i) ≡ removed p (map s xs)
removed-seen s p xs i h =
    let e : map s (take i xs) ++ map s (drop (suc i) xs) ≡ remove (map s xs) i = rw (take-map s i xs, drop-map s (suc i) xs) refl in
    map-append s (take i xs) (drop (suc i) xs) ∙ e ∙ removed-at p (map s xs) i h

-- a layer stands in front of the first that it comes before
pub placed-at : (cs : List ℕ) (l : LayerSeen) (ls : List LayerSeen) → insert ls (position_or_len (is_before cs l) ls) l ≡ placed cs l ls
placed-at cs l [] = refl
placed-at cs l (m ∷ ms) =
    let ih = placed-at cs l ms in
    let e : 1 + position_or_len (is_before cs l) ms ≡ suc (position_or_len (is_before cs l) ms) = omega arith in
    elim (is_before cs l m) as (λ b. insert (m ∷ ms) (cond (not b) (1 + position_or_len (is_before cs l) ms) 0) l ≡ (if b then l ∷ m ∷ ms else m ∷ placed cs l ms)) [ true ↦ refl | false ↦ rw e (ap (λ xs. m ∷ xs) ih) ]

-- the place of the first, from what a search answers
pub place-some : {A : Type 0} (p : A → Bool) (xs : List A) (i : ℕ) → position p xs ≡ Some i → i ≡ position_or_len p xs
place-some p xs i h = by (nat_lt (position_or_len p xs) (length xs)) refl
  where
    by : (b : Bool) → nat_lt (position_or_len p xs) (length xs) ≡ b → i ≡ position_or_len p xs
    by true e = let s = rw e at h in cc
    by false e = let s = rw e at h in absurd (cc)

pub place-none : {A : Type 0} (p : A → Bool) (xs : List A) → position p xs ≡ None → length xs ≡ position_or_len p xs
place-none p xs h = by (nat_lt (position_or_len p xs) (length xs)) refl
  where
    by : (b : Bool) → nat_lt (position_or_len p xs) (length xs) ≡ b → length xs ≡ position_or_len p xs
    by true e = let s = rw e at h in absurd (cc)
    by false e = let le = prefix_len-le-length (λ x. not (p x)) xs in grind (arith, nat_tests, e, le)

pub map-insert : {A B : Type 0} (s : A → B) (xs : List A) (i : ℕ) (y : A) → map s (insert xs i y) ≡ insert (map s xs) i (s y)
map-insert s xs i y = map-append s (take i xs) (y ∷ drop i xs) ∙ rw (take-map s i xs, drop-map s i xs) refl

-- what a search answered, of a list that is the given one
pub none-seen : {A B : Type 0} (s : A → B) (p : B → Bool) (f : B → B) (xs ys : List A) (o : Option ℕ) → o ≡ position p (map s ys) → ys ≡ xs → o ≡ None → map s xs ≡ changed p f (map s xs)
none-seen s p f xs ys o e same none = sym (changed-none p f (map s xs) (ap (λ zs. position p (map s zs)) (sym same) ∙ sym e ∙ none))

pub some-seen : {A B : Type 0} (s : A → B) (p : B → Bool) (f : B → B) (xs ys : List A) (o : Option ℕ) (i : ℕ) (x y : A) → o ≡ position p (map s ys) → ys ≡ xs → o ≡ Some i → x ≡ get_or xs i x → s y ≡ f (s x) → map s (slice_set xs i y) ≡ changed p f (map s xs)
some-seen s p f xs ys o i x y e same some here given =
    changed-seen s p f xs i y x (ap (λ zs. position p (map s zs)) (sym same) ∙ sym e ∙ some) (given ∙ ap (λ z. f (s z)) here)

-- a layer that was put in its place
pub inserted : (cs : List ℕ) (l : LayerSeen) (ls ms new : List Layer) (y : Layer) (i : ℕ) → new ≡ insert ls i y → i ≡ position_or_len (is_before cs l) (map seen ms) → ms ≡ ls → seen y ≡ l → map seen new ≡ placed cs l (map seen ls)
inserted cs l ls ms new y i put place same looks =
    ap (map seen) put ∙ map-insert seen ls i y ∙ ap (λ z. insert (map seen ls) i z) looks
    ∙ ap (λ k. insert (map seen ls) k l) (place ∙ ap (λ zs. position_or_len (is_before cs l) (map seen zs)) same)
    ∙ placed-at cs l (map seen ls)
