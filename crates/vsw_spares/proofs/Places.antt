-- What stands at a place of a list of which one element was changed.
use Rattle.std.proofs.Common.{◌≡◌, ℕ, zero, suc, Bool, true, false, List, [], ◌∷◌, Option, Some, refl}
use Rattle.std.specs.Prelude.{if◌then◌else◌}
use Rattle.std.specs.List.{slice_get}
use Rattle.vsw_policy.specs.Groups.{changed}

-- what stood there, or that element changed
pub at_changed : {A : Type 0} (p : A → Bool) (f : A → A) (Q : Option A → Type 0) (xs : List A) (n : ℕ) → Q (slice_get xs n) → ((x : A) → slice_get xs n ≡ Some x → p x ≡ true → Q (Some (f x))) → Q (slice_get (changed p f xs) n)
at_changed p f Q [] n g h = g
at_changed p f Q (x ∷ xs) zero g h = by (p x) refl
  where
    by : (b : Bool) → p x ≡ b → Q (slice_get (if b then f x ∷ xs else x ∷ changed p f xs) 0)
    by true e = h x refl e
    by false e = g
at_changed p f Q (x ∷ xs) (suc n) g h = by (p x) (at_changed p f Q xs n g h)
  where
    by : (b : Bool) → Q (slice_get (changed p f xs) n) → Q (slice_get (if b then f x ∷ xs else x ∷ changed p f xs) (suc n))
    by true ih = g
    by false ih = ih
