-- Lists that are read item by item.
use Rattle.std.proofs.Common.{◌≡◌, ◌≢◌, ◌==◌, ◌&&◌, ℕ, ◌+◌, ◌≤◌, ◌<◌, List, [], ◌∷◌, ◌++◌, length, Bool, true, false, nat_le, Result, Ok, refl, subst, arith, get_or, if◌then◌else◌}
use Rattle.std.specs.List.{list_any, AllPairs}
use Rattle.std.proofs.lemmas.Bool.Decides.{nat_tests}
use Rattle.std.proofs.lemmas.List.Folds.{list_any_at}
use Rattle.std.proofs.lemmas.List.Quantifiers.{all_pairs_push}
use Rattle.std.proofs.lemmas.List.{length_push}
use Rattle.serde_json.specs.Data.{Data}
use Rattle.vsw_base.proofs.Truths.{both}
use Rattle.vsw_config.specs.declared.fault.Step.TheVariants.{Place}
use Rattle.vsw_config.specs.declared.fault.Fault.{Fault}
use Rattle.vsw_config.specs.Fault.{◌>>=◌, under}
use Rattle.vsw_config.specs.Value.{whole_of, number_from}
use Rattle.vsw_config.specs.List.{items_in, items_to, items_after}
use Rattle.vsw_config.proofs.Steps.{taken, same_value, from_under, passed}

-- what each item keeps holds of the list
pub kept : {A : Type 0} (Q : List A → Type 0) (f : List A → Data → Result A Fault) → ((done : List A) (d : Data) (x : A) → Q done → f done d ≡ Ok x → Q (done ++ x ∷ [])) → (done : List A) (ds : List Data) (xs : List A) → Q done → items_after f done ds ≡ Ok xs → Q xs
kept Q f step done [] xs q h = subst Q (same_value done xs h) q
kept Q f step done (d ∷ ds) xs q h =
    taken (under (Place (length done)) (f done d)) _ xs h (λ x e h.
    kept Q f step (done ++ x ∷ []) ds xs (step done d x q (from_under _ _ x e)) h)

-- each item is one item of the list
counted : {A : Type 0} (f : List A → Data → Result A Fault) (done : List A) (ds : List Data) (xs : List A) → items_after f done ds ≡ Ok xs → length xs ≡ length done + length ds
counted f done [] xs h = let same = same_value done xs h in rw (← same) (omega arith)
counted f done (d ∷ ds) xs h =
    taken (under (Place (length done)) (f done d)) _ xs h (λ x e h.
    let rest = counted f (done ++ x ∷ []) ds xs h in
    omega (arith, rest, length_push done x))

-- all items of a list are items of what is read
pub as_many : {A : Type 0} (f : List A → Data → Result A Fault) (ds : List Data) (xs : List A) → items_after f [] ds ≡ Ok xs → length xs ≡ length ds
as_many f ds xs h = let count = counted f [] ds xs h in omega (arith, count)

pub at_most : (n most : ℕ) → nat_le n most ≡ true → n ≤ most
at_most n most h = grind (arith, nat_tests)

within_both : (low n high : ℕ) → nat_le low n && nat_le n high ≡ true → (low ≤ n) × (n ≤ high)
within_both low n high h =
    let (from, to) = both (nat_le low n) (nat_le n high) h in
    (at_most low n from, at_most n high to)

-- a number between two
pub between : (low high : ℕ) (d : Data) (n : ℕ) → number_from low high d ≡ Ok n → (low ≤ n) × (n ≤ high)
unfolding number_from
between low high d n h =
    taken (whole_of d) _ n h (λ m e h.
    let (fits, same) = passed (nat_le low m && nat_le m high) m n _ h in
    subst (λ k. (low ≤ k) × (k ≤ high)) same (within_both low m high fits))

-- a list of so many items at most
pub limited : {A : Type 0} (most : ℕ) (d : Data) (f : List A → Data → Result A Fault) (xs : List A) → (items_to most d >>= items_after f []) ≡ Ok xs → length xs ≤ most
unfolding items_to
limited most d f xs h =
    taken (items_in d >>= (λ ds. if nat_le (length ds) most then Ok ds else _)) _ xs h (λ ds e h.
    taken (items_in d) _ ds e (λ es g e.
    let (few, same) = passed (nat_le (length es) most) es ds _ e in
    let count = as_many f ds xs h in
    let bound = at_most (length es) most few in
    rw (count, ← same) bound))

-- the items of such a list, each of which keeps what holds
pub kept_in : {A : Type 0} (most : ℕ) (d : Data) (Q : List A → Type 0) (f : List A → Data → Result A Fault) → ((done : List A) (d : Data) (x : A) → Q done → f done d ≡ Ok x → Q (done ++ x ∷ [])) → (xs : List A) → Q [] → (items_to most d >>= items_after f []) ≡ Ok xs → Q xs
kept_in most d Q f step xs q h = taken (items_to most d) _ xs h (λ ds e h. kept Q f step [] ds xs q h)

pub no_pairs : {A : Type 0} (R : A → A → Type 0) → AllPairs R []
no_pairs R i j d lower within = absurd (omega (arith, within))

-- no element passes the test, so this one doesn't
none_at : {A : Type 0} (t : A → Bool) (xs : List A) (k : ℕ) (d : A) → k < length xs → list_any t xs ≡ false → (b : Bool) → t (get_or xs k d) ≡ b → b ≡ false
none_at t xs k d within none true e = let some = list_any_at t xs k d within e in cc
none_at t xs k d within none false e = refl

-- an element that stands apart from those before it
pub pairs_push : {A : Type 0} (R : A → A → Type 0) (t : A → Bool) (done : List A) (x : A) → ((a : A) → t a ≡ false → R a x) → AllPairs R done → list_any t done ≡ false → AllPairs R (done ++ x ∷ [])
pairs_push R t done x tells pairs none = all_pairs_push R done x pairs (λ k d within. tells (get_or done k d) (none_at t done k d within none (t (get_or done k d)) refl))

pub apart : (m n : ℕ) → (m == n) ≡ false → m ≢ n
apart m n h e = grind (arith, nat_tests)
