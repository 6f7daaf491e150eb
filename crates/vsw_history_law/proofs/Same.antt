-- As many entries were added to a history as its calls have.
use Rattle.std.proofs.Common.{◌≡◌, ◌≢◌, ◌≤◌, ℕ, zero, suc, ◌+◌, ◌==◌, Bool, true, false, if◌then◌else◌, List, [], ◌∷◌, ◌++◌, length, drop, filter, Some, slice_get, refl, ap, sym, ◌∙◌, subst, arith, length-append, ne_eqb, eq-eqb}
use native.Mathlib.Decide.{ℕ_discrete}
use mathlib.Core.List.{IsPrefix}
use Rattle.vsw_policy.specs.Sound.{Each}
use Rattle.vsw_port.specs.declared.event.Event.{Event}
use Rattle.vsw_port.specs.Calls.{Call, named, calls_of, event_of, next_count, entries_of, entries_naming, IsCall, Entry, Read, Short, InOrder, HasBytes, AreShares, IsOneOrder}
use Rattle.vsw_port.specs.History.{Opening}
use Rattle.vsw_port.proofs.Fronts.{prefix_trans, prefix_length}
use Rattle.vsw_port.proofs.Calls.{call_later, order_lower}
use Rattle.vsw_port.proofs.Next.{bytes_later, naming_calls, naming_append}

-- a list without its first element of a name
record Found {A : Type 0} (key : A → ℕ) (k : ℕ) (x : A) (xs ys : List A) : Type 0 where
  without : List A
  shorter : length ys ≡ suc (length without)
  same : filter (λ y. key y == k) without ≡ xs
  others : (j : ℕ) → j ≢ k → filter (λ y. key y == j) without ≡ filter (λ y. key y == j) ys

skip_by : {A : Type 0} (key : A → ℕ) (k : ℕ) (y : A) (ys : List A) → key y ≢ k → filter (λ y. key y == k) (y ∷ ys) ≡ filter (λ y. key y == k) ys
skip_by key k y ys ne = let t : (key y == k) ≡ false = ne_eqb (key y) k ne in rw t refl

find_first : {A : Type 0} (key : A → ℕ) (k : ℕ) (x : A) (xs ys : List A) → filter (λ y. key y == k) ys ≡ x ∷ xs → Found key k x xs ys
find_first key k x xs [] e = absurd (cc e)
find_first {A = A} key k x xs (y ∷ ys) e = by (ℕ_discrete (key y) k) (λ f. find_first key k x xs ys f)
  where
    by : Dec (key y ≡ k) → (filter (λ y. key y == k) ys ≡ x ∷ xs → Found key k x xs ys) → Found key k x xs (y ∷ ys)
    by (yes same) more =
        let t : (key y == k) ≡ true = eq-eqb (key y) k same in
        let rest : y ∷ filter (λ y. key y == k) ys ≡ x ∷ xs = subst (λ b. (if b then y ∷ filter (λ y. key y == k) ys else filter (λ y. key y == k) ys) ≡ x ∷ xs) t e in
        record { without = ys; shorter = refl; same = cc rest; others = λ j ne. sym (let u : (key y == j) ≡ false = ne_eqb (key y) j (λ f. ne (sym f ∙ same)) in rw u refl) }
    by (no ne) more =
        let f = more (sym (skip_by key k y ys ne) ∙ e) in
        record {
          without = y ∷ f.without;
          shorter = ap suc f.shorter;
          same = skip_by key k y f.without ne ∙ f.same;
          others = λ j nj. ap (λ w. if key y == j then y ∷ w else w) (f.others j nj);
        }

abbrev SameBy : {A : Type 0} → (A → ℕ) → List A → List A → Type 0
SameBy key xs ys = (k : ℕ) → filter (λ y. key y == k) xs ≡ filter (λ y. key y == k) ys

same_none : {A : Type 0} (key : A → ℕ) (ys : List A) → SameBy key [] ys → 0 ≡ length ys
same_none key [] e = refl
same_none key (y ∷ ys) e = absurd (let t : (key y == key y) ≡ true = eq-eqb (key y) (key y) refl in let f : [] ≡ y ∷ filter (λ z. key z == key y) ys = subst (λ b. [] ≡ (if b then y ∷ filter (λ z. key z == key y) ys else filter (λ z. key z == key y) ys)) t (e (key y)) in cc f)

-- two lists with the same elements of each name are equally long
pub same_length : {A : Type 0} (key : A → ℕ) (xs ys : List A) → SameBy key xs ys → length xs ≡ length ys
same_length key [] ys e = same_none key ys e
same_length key (x ∷ xs) ys e = ap suc (same_length key xs f.without (λ j. by j (ℕ_discrete j (key x)))) ∙ sym f.shorter
  where
    own : (if key x == key x then x ∷ filter (λ y. key y == key x) xs else filter (λ y. key y == key x) xs) ≡ x ∷ filter (λ y. key y == key x) xs
    own = let t : (key x == key x) ≡ true = eq-eqb (key x) (key x) refl in rw t refl

    f : Found key (key x) x (filter (λ y. key y == key x) xs) ys
    f = find_first key (key x) x (filter (λ y. key y == key x) xs) ys (sym (e (key x)) ∙ own)

    by : (j : ℕ) → Dec (j ≡ key x) → filter (λ y. key y == j) xs ≡ filter (λ y. key y == j) f.without
    by j (yes same) = subst (λ k. filter (λ y. key y == k) xs ≡ filter (λ y. key y == k) f.without) (sym same) (sym f.same)
    by j (no ne) =
        let t : (key x == j) ≡ false = ne_eqb (key x) j (λ g. ne (sym g)) in
        let skip : filter (λ y. key y == j) xs ≡ (if key x == j then x ∷ filter (λ y. key y == j) xs else filter (λ y. key y == j) xs) = sym (rw t refl) in
        skip ∙ (e j ∙ sym (f.others j ne))

tail_same : {A : Type 0} (xs ys zs : List A) → xs ++ ys ≡ xs ++ zs → ys ≡ zs
tail_same [] ys zs e = e
tail_same (x ∷ xs) ys zs e = tail_same xs ys zs (cc e)

-- what was added to a history has of each name the entries of its calls
pub added_same : (o : Opening) (h g d : List Event) (cs : List Call) → h ++ d ≡ g → AreShares o h g cs → SameBy (named o.controllers) d (entries_of cs)
added_same o h g d cs is s k =
    let here : entries_naming o.controllers k h ++ entries_naming o.controllers k d ≡ entries_naming o.controllers k h ++ entries_of (calls_of o.controllers k cs) = sym (naming_append o.controllers k h d) ∙ (ap (entries_naming o.controllers k) is ∙ (s k).entries) in
    tail_same (entries_naming o.controllers k h) (entries_naming o.controllers k d) (entries_of (calls_of o.controllers k cs)) here ∙ sym (naming_calls o.controllers k cs)

pub added_length : (o : Opening) (h g : List Event) (cs : List Call) → IsPrefix h g → AreShares o h g cs → length g ≡ length h + length (entries_of cs)
added_length o h g cs p s = sym (ap length p.1) ∙ (length-append h p.0 ∙ ap (λ n. length h + n) (same_length (named o.controllers) p.0 (entries_of cs) (added_same o h g p.0 cs p.1 s)))
