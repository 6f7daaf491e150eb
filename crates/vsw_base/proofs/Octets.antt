-- The octets of a text by the places of its bytes.
use Rattle.std.proofs.Common.{◌≡◌, ◌≤◌, ◌<◌, ℕ, List, [], ◌∷◌, length, slice_index, Bool, true, false, if◌then◌else◌, Option, None, refl, ap, ◌∙◌, arith}
use Rattle.vsw_base.specs.Hexadecimal.{octet_of}
use Rattle.vsw_base.specs.Spelling.{all_of, are_colons, octets_of}

abbrev at : List ℕ → ℕ → ℕ
at t i = slice_index t i

abbrev pub colons_in : List ℕ → Bool
colons_in t = are_colons (at t 2 ∷ at t 5 ∷ at t 8 ∷ at t 11 ∷ at t 14 ∷ [])

abbrev pub pairs_in : List ℕ → List (Option ℕ)
pairs_in t = octet_of (at t 0) (at t 1) ∷ octet_of (at t 3) (at t 4) ∷ octet_of (at t 6) (at t 7) ∷ octet_of (at t 9) (at t 10) ∷ octet_of (at t 12) (at t 13) ∷ octet_of (at t 15) (at t 16) ∷ []

octets_in : (t : List ℕ) → length t ≡ 17 → octets_of t ≡ (if colons_in t then all_of (pairs_in t) else None)
unfolding octets_of
octets_in (a ∷ b ∷ v ∷ c ∷ d ∷ w ∷ e ∷ f ∷ x ∷ g ∷ h ∷ y ∷ i ∷ j ∷ z ∷ k ∷ l ∷ []) n = refl
octets_in t n = absurd (omega (arith, n))

pub with_colons : (t : List ℕ) → length t ≡ 17 → colons_in t ≡ true → octets_of t ≡ all_of (pairs_in t)
with_colons t n all = octets_in t n ∙ ap (λ (b : Bool). if b then all_of (pairs_in t) else None) all

pub without_colons : (t : List ℕ) → length t ≡ 17 → colons_in t ≡ false → octets_of t ≡ None
without_colons t n none = octets_in t n ∙ ap (λ (b : Bool). if b then all_of (pairs_in t) else None) none

pub of_less : (t : List ℕ) → length t < 17 → octets_of t ≡ None
unfolding octets_of
of_less (a ∷ b ∷ v ∷ c ∷ d ∷ w ∷ e ∷ f ∷ x ∷ g ∷ h ∷ y ∷ i ∷ j ∷ z ∷ k ∷ l ∷ []) n = absurd (omega (arith, n))
of_less t n = refl

pub of_more : (t : List ℕ) → 18 ≤ length t → octets_of t ≡ None
unfolding octets_of
of_more (a ∷ b ∷ v ∷ c ∷ d ∷ w ∷ e ∷ f ∷ x ∷ g ∷ h ∷ y ∷ i ∷ j ∷ z ∷ k ∷ l ∷ []) n = absurd (omega (arith, n))
of_more t n = refl
