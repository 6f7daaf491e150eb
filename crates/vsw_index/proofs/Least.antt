-- The least place of the items that pass a test.
use Rattle.std.proofs.Common.{◌≡◌, ◌≤◌, ◌<◌, ◌+◌, ◌-◌, ◌&&◌, ℕ, leb, min, suc, Bool, true, false, cond, List, [], ◌∷◌, Option, Some, None, length, get_or, map, filter, take, drop, refl, sym, ap, subst, ◌∙◌, inl, inr, arith, true≢false}
use Rattle.std.specs.List.{All, AllWithin, HoldsAt, Contains}
use Rattle.std.specs.List.Sorted.{IsPermutation}
use Rattle.std.proofs.lemmas.Bool.{cases_lt, le-leb, leb-true, leb-false, and_from, and_parts}
use Rattle.std.proofs.lemmas.List.{get_or-take, get_or-drop, get_or_default, length-take-le, length-drop}
use Rattle.std.proofs.lemmas.List.Elements.{All-nil, All-cons, All-contains, Contains-get_or}
use Rattle.std.proofs.lemmas.List.Sorted.{All-permutation, Contains-permutation}
use Rattle.vsw_index.specs.Least.{lesser, lesser_of, least, least_by, Answers}

-- an item that passes has this place, and none that passes a lesser one
pub record IsBest {X : Type 0} (t : X → Bool) (p : X → ℕ) (xs : List X) (n : ℕ) : Type 0 where
  pub item : X
  pub is_item : Contains xs item
  pub passes : t item ≡ true
  pub at_place : p item ≡ n
  pub none_before : All (λ x. t x ≡ true → n ≤ p x) xs

abbrev pub Best : {X : Type 0} → (X → Bool) → (X → ℕ) → List X → Option ℕ → Type 0
Best t p xs None = All (λ x. t x ≡ false) xs
Best t p xs (Some n) = IsBest t p xs n

contains_head : {X : Type 0} (x : X) (xs : List X) → Contains (x ∷ xs) x
contains_head x xs = (0, omega arith, refl)

contains_tail : {X : Type 0} (x y : X) (xs : List X) → Contains xs y → Contains (x ∷ xs) y
contains_tail x y xs c = (suc c.0, (let u : c.0 < length xs = c.1 in omega arith), c.2)

-- a test can't be both
unpassed : (b : Bool) {A : Type 0} → b ≡ false → b ≡ true → A
unpassed b fails_it passes_it = absurd (true≢false (sym passes_it ∙ fails_it))

later : {X : Type 0} (t : X → Bool) (p : X → ℕ) (x : X) (xs : List X) (o : Option ℕ) → t x ≡ false → Best t p xs o → Best t p (x ∷ xs) o
later t p x xs None fails_it all = All-cons (λ y. t y ≡ false) x xs fails_it all
later {X} t p x xs (Some n) fails_it b =
    let P : X → Type 0 = λ y. t y ≡ true → n ≤ p y in
    let first : P x = λ passes_it. unpassed (t x) fails_it passes_it in
    record {
      item = b.item;
      is_item = contains_tail x b.item xs b.is_item;
      passes = b.passes;
      at_place = b.at_place;
      none_before = All-cons P x xs first b.none_before;
    }

sooner : {X : Type 0} (t : X → Bool) (p : X → ℕ) (x : X) (xs : List X) (o : Option ℕ) → t x ≡ true → Best t p xs o → Best t p (x ∷ xs) (lesser (p x) o)
sooner {X} t p x xs None passes_it all =
    let P : X → Type 0 = λ y. t y ≡ true → p x ≤ p y in
    let first : P x = λ y. omega arith in
    record {
      item = x;
      is_item = contains_head x xs;
      passes = passes_it;
      at_place = refl;
      none_before = All-cons P x xs first (λ k d u w. unpassed (t (get_or xs k d)) (all k d u) w);
    }
sooner {X} t p x xs (Some n) passes_it b =
    let P : X → Type 0 = λ y. t y ≡ true → min (p x) n ≤ p y in
    let first : P x = λ y. omega arith in
    let rest : All P xs = λ k d u w. let le : n ≤ p (get_or xs k d) = b.none_before k d u w in omega arith in
    let all : All P (x ∷ xs) = All-cons P x xs first rest in
    elim (cases_lt n (p x)) [
      | inl less ↦ record {
        item = b.item;
        is_item = contains_tail x b.item xs b.is_item;
        passes = b.passes;
        at_place = b.at_place ∙ (let e : n ≡ min (p x) n = omega arith in e);
        none_before = all;
      }
      | inr le ↦ record {
        item = x;
        is_item = contains_head x xs;
        passes = passes_it;
        at_place = omega arith;
        none_before = all;
      }
    ]

step : {X : Type 0} (t : X → Bool) (p : X → ℕ) (x : X) (xs : List X) (b : Bool) → t x ≡ b → Best t p xs (least_by t p xs) → Best t p (x ∷ xs) (least (map p (cond b (x ∷ filter t xs) (filter t xs))))
step t p x xs true is best = sooner t p x xs (least_by t p xs) is best
step t p x xs false is best = later t p x xs (least_by t p xs) is best

pub stands : {X : Type 0} (t : X → Bool) (p : X → ℕ) (xs : List X) → Best t p xs (least_by t p xs)
stands t p [] = All-nil (λ x. t x ≡ false)
stands t p (x ∷ xs) = step t p x xs (t x) refl (stands t p xs)

-- there is one answer
passed_none : {X A : Type 0} (t : X → Bool) (p : X → ℕ) (xs : List X) (n : ℕ) → All (λ x. t x ≡ false) xs → IsBest t p xs n → A
passed_none t p xs n all b = unpassed (t b.item) (All-contains (λ x. t x ≡ false) xs b.item all b.is_item) b.passes

under : {X : Type 0} (t : X → Bool) (p : X → ℕ) (xs : List X) (n m : ℕ) → IsBest t p xs n → IsBest t p xs m → n ≤ m
under t p xs n m a b =
    let le : n ≤ p b.item = All-contains (λ x. t x ≡ true → n ≤ p x) xs b.item a.none_before b.is_item b.passes in
    let at : p b.item ≡ m = b.at_place in
    omega arith

pub one : {X : Type 0} (t : X → Bool) (p : X → ℕ) (xs : List X) (o q : Option ℕ) → Best t p xs o → Best t p xs q → o ≡ q
one t p xs None None a b = refl
one t p xs None (Some n) a b = passed_none t p xs n a b
one t p xs (Some n) None a b = passed_none t p xs n b a
one t p xs (Some n) (Some m) a b =
    let le : n ≤ m = under t p xs n m a b in
    let ge : m ≤ n = under t p xs m n b a in
    let e : n ≡ m = omega arith in
    ap Some e

-- another order gives the same
moved : {X : Type 0} (t : X → Bool) (p : X → ℕ) (xs ys : List X) (o : Option ℕ) → IsPermutation xs ys → Best t p xs o → Best t p ys o
moved t p xs ys None moves all = All-permutation (λ x. t x ≡ false) xs ys moves all
moved t p xs ys (Some n) moves b = record {
  item = b.item;
  is_item = Contains-permutation xs ys b.item moves b.is_item;
  passes = b.passes;
  at_place = b.at_place;
  none_before = All-permutation (λ x. t x ≡ true → n ≤ p x) xs ys moves b.none_before;
}

pub least_by-IsPermutation : {X : Type 0} (t : X → Bool) (p : X → ℕ) (xs ys : List X) → IsPermutation xs ys → least_by t p ys ≡ least_by t p xs
least_by-IsPermutation t p xs ys moves = one t p ys (least_by t p ys) (least_by t p xs) (stands t p ys) (moved t p xs ys (least_by t p xs) moves (stands t p xs))

-- of the items from one place up to another
pub record IsBestWithin {X : Type 0} (t : X → Bool) (p : X → ℕ) (xs : List X) (low high n : ℕ) : Type 0 where
  pub at : ℕ
  pub from : low ≤ at
  pub before : at < high
  pub passes : HoldsAt (λ x. (t x ≡ true) × (p x ≡ n)) xs at
  pub none_before : AllWithin (λ x. t x ≡ true → n ≤ p x) xs low high

abbrev pub BestWithin : {X : Type 0} → (X → Bool) → (X → ℕ) → List X → ℕ → ℕ → Option ℕ → Type 0
BestWithin t p xs low high None = AllWithin (λ x. t x ≡ false) xs low high
BestWithin t p xs low high (Some n) = IsBestWithin t p xs low high n

pub none_within : {X : Type 0} (t : X → Bool) (p : X → ℕ) (xs : List X) (i : ℕ) → BestWithin t p xs i i None
none_within t p xs i k d from before = absurd (omega arith)

-- what is before all of the front is before all, where the rest has no lesser one
pub front_first : {X : Type 0} (t : X → Bool) (p : X → ℕ) (xs : List X) (low mid high n : ℕ) → low ≤ mid → mid ≤ high → IsBestWithin t p xs low mid n → AllWithin (λ x. t x ≡ true → n ≤ p x) xs mid high → IsBestWithin t p xs low high n
front_first t p xs low mid high n le up a rest = record {
  at = a.at;
  from = a.from;
  before = let u : a.at < mid = a.before in omega arith;
  passes = a.passes;
  none_before = λ k d from before passes_it. elim (cases_lt k mid) [ inl u ↦ a.none_before k d from u passes_it | inr v ↦ rest k d v before passes_it ];
}

pub back_first : {X : Type 0} (t : X → Bool) (p : X → ℕ) (xs : List X) (low mid high n : ℕ) → low ≤ mid → mid ≤ high → AllWithin (λ x. t x ≡ true → n ≤ p x) xs low mid → IsBestWithin t p xs mid high n → IsBestWithin t p xs low high n
back_first t p xs low mid high n le up front b = record {
  at = b.at;
  from = let u : mid ≤ b.at = b.from in omega arith;
  before = b.before;
  passes = b.passes;
  none_before = λ k d from before passes_it. elim (cases_lt k mid) [ inl u ↦ front k d from u passes_it | inr v ↦ b.none_before k d v before passes_it ];
}

pub joined : {X : Type 0} (t : X → Bool) (p : X → ℕ) (xs : List X) (low mid high : ℕ) (o q : Option ℕ) → low ≤ mid → mid ≤ high → BestWithin t p xs low mid o → BestWithin t p xs mid high q → BestWithin t p xs low high (lesser_of o q)
joined t p xs low mid high None None le up a b = λ k d from before. elim (cases_lt k mid) [ inl u ↦ a k d from u | inr v ↦ b k d v before ]
joined t p xs low mid high None (Some m) le up a b = back_first t p xs low mid high m le up (λ k d from before passes_it. unpassed (t (get_or xs k d)) (a k d from before) passes_it) b
joined t p xs low mid high (Some n) None le up a b = front_first t p xs low mid high n le up a (λ k d from before passes_it. unpassed (t (get_or xs k d)) (b k d from before) passes_it)
joined t p xs low mid high (Some n) (Some m) le up a b =
    elim (cases_lt m n) [
      | inl less ↦
          let e : m ≡ min n m = omega arith in
          let P : ℕ → Type 0 = λ x. IsBestWithin t p xs low high x in
          subst P e (back_first t p xs low mid high m le up (λ k d from before passes_it. let l : n ≤ p (get_or xs k d) = a.none_before k d from before passes_it in omega arith) b)
      | inr more ↦
          let e : n ≡ min n m = omega arith in
          let P : ℕ → Type 0 = λ x. IsBestWithin t p xs low high x in
          subst P e (front_first t p xs low mid high n le up a (λ k d from before passes_it. let l : m ≤ p (get_or xs k d) = b.none_before k d from before passes_it in omega arith))
    ]

-- the best of all the places is the best of the list
whole : {X : Type 0} (t : X → Bool) (p : X → ℕ) (xs : List X) (o : Option ℕ) → BestWithin t p xs 0 (length xs) o → Best t p xs o
whole t p xs None all = λ k d u. all k d (omega arith) u
whole {X} t p [] (Some n) b = absurd (let u : b.at < 0 = b.before in omega arith)
whole {X} t p (x ∷ xs) (Some n) b = record {
  item = get_or (x ∷ xs) b.at x;
  is_item = Contains-get_or (x ∷ xs) b.at x b.before;
  passes = (b.passes x).0;
  at_place = (b.passes x).1;
  none_before = λ k d u. b.none_before k d (omega arith) u;
}

pub found : {X : Type 0} (t : X → Bool) (p : X → ℕ) (xs : List X) (o : Option ℕ) → BestWithin t p xs 0 (length xs) o → o ≡ least_by t p xs
found t p xs o b = one t p xs o (least_by t p xs) (whole t p xs o b) (stands t p xs)

-- the best of a part, by a test that agrees there
pub part_at : {X : Type 0} (xs : List X) (low m k : ℕ) (d : X) → k < m → get_or (take m (drop low xs)) k d ≡ get_or xs (low + k) d
part_at xs low m k d u = get_or-take m (drop low xs) k d u ∙ get_or-drop low xs k d

pub part : {X : Type 0} (t s : X → Bool) (p : X → ℕ) (xs : List X) (low high : ℕ) → low ≤ high → high ≤ length xs → AllWithin (λ x. t x ≡ s x) xs low high → (o : Option ℕ) → Best s p (take (high - low) (drop low xs)) o → BestWithin t p xs low high o
part {X} t s p xs low high le up agree None all = λ k d from before.
    let at : k - low < high - low = omega arith in
    let size : length (take (high - low) (drop low xs)) ≡ high - low = length-take-le (high - low) (drop low xs) (omega (arith, length-drop low xs)) in
    let in' : k - low < length (take (high - low) (drop low xs)) = omega arith in
    let e : low + (k - low) ≡ k = omega arith in
    let P : X → Type 0 = λ x. s x ≡ false in
    let Q : ℕ → Type 0 = λ i. s (get_or xs i d) ≡ false in
    agree k d from before ∙ subst Q e (subst P (part_at xs low (high - low) (k - low) d at) (all (k - low) d in'))
part {X} t s p xs low high le up agree (Some n) b =
    let size : length (take (high - low) (drop low xs)) ≡ high - low = length-take-le (high - low) (drop low xs) (omega (arith, length-drop low xs)) in
    let inside : b.is_item.0 < length (take (high - low) (drop low xs)) = b.is_item.1 in
    let at : b.is_item.0 < high - low = omega arith in
    let there : get_or xs (low + b.is_item.0) b.item ≡ b.item = sym (part_at xs low (high - low) b.is_item.0 b.item at) ∙ b.is_item.2 in
    let within : low + b.is_item.0 < length xs = omega arith in
    record {
      at = low + b.is_item.0;
      from = omega arith;
      before = omega arith;
      passes = λ d.
          let here : get_or xs (low + b.is_item.0) d ≡ b.item = get_or_default xs (low + b.is_item.0) d b.item within ∙ there in
          let same : t (get_or xs (low + b.is_item.0) d) ≡ s (get_or xs (low + b.is_item.0) d) = agree (low + b.is_item.0) d (omega arith) (omega arith) in
          (same ∙ ap s here ∙ b.passes, ap p here ∙ b.at_place);
      none_before = λ k d from before passes_it.
          let under' : k - low < high - low = omega arith in
          let in' : k - low < length (take (high - low) (drop low xs)) = omega arith in
          let e : low + (k - low) ≡ k = omega arith in
          let P : X → Type 0 = λ x. s x ≡ true → n ≤ p x in
          let Q : ℕ → Type 0 = λ i. s (get_or xs i d) ≡ true → n ≤ p (get_or xs i d) in
          subst Q e (subst P (part_at xs low (high - low) (k - low) d under') (b.none_before (k - low) d in')) (sym (agree k d from before) ∙ passes_it);
    }

-- the least place from `from` on, in the words of the list
pub answers : {X : Type 0} (h : X → Bool) (p : X → ℕ) (xs : List X) (f : ℕ) → Answers h p xs f (least_by (λ x. h x && leb f (p x)) p xs)
answers {X} h p xs f = by (least_by (λ x. h x && leb f (p x)) p xs) (stands (λ x. h x && leb f (p x)) p xs)
  where
    by : (o : Option ℕ) → Best (λ (x : X). h x && leb f (p x)) p xs o → Answers h p xs f o
    by None all = λ k d u held. leb-false f (p (get_or xs k d)) (let e = all k d u in let t = ap (λ (b : Bool). b && leb f (p (get_or xs k d))) held in sym t ∙ e)
    by (Some n) b =
        let parts = and_parts (h b.item) (leb f (p b.item)) b.passes in
        record {
          item = b.item;
          is_item = b.is_item;
          at_place = b.at_place;
          passes = parts.0;
          from_on = subst (λ (m : ℕ). f ≤ m) b.at_place (leb-true f (p b.item) parts.1);
          none_before = λ k d u held le. b.none_before k d u (and_from (h (get_or xs k d)) (leb f (p (get_or xs k d))) held (le-leb f (p (get_or xs k d)) le));
        }
