-- A row is found by its key.
use Rattle.std.specs.Prelude.{◌≡◌, ℕ, List, ◌∷◌, ◌++◌}
use Rattle.vsw_offload.specs.Rows.{key_of}
use Rattle.vsw_policy.specs.Sound.{Each}

-- these words are among the rows
pub record HasOne (rows : List (List ℕ)) (words : List ℕ) : Type 0 where
  pub front : List (List ℕ)
  pub back : List (List ℕ)
  pub is : rows ≡ front ++ words ∷ back

-- no row has the key
abbrev pub HasNone : List (List ℕ) → List ℕ → Type 0
HasNone rows key = Each (λ r. key_of r ≡ key → ⊥) rows
