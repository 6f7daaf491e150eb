-- The least number of a list, and the least place of the items that pass a test.
use Rattle.std.specs.Prelude.{◌≡◌, ◌≤◌, ◌<◌, ℕ, List, [], ◌∷◌, Bool, true, min, map, filter, Option, Some, None, All}
use Rattle.std.specs.List.{Contains}

-- the lesser of a number and one that may be missing
abbrev pub lesser : ℕ → Option ℕ → Option ℕ
lesser n None = Some n
lesser n (Some m) = Some (min n m)

-- the lesser of two numbers that may be missing
abbrev pub lesser_of : Option ℕ → Option ℕ → Option ℕ
lesser_of None found = found
lesser_of (Some n) found = lesser n found

-- the least number of a list, if there is any
abbrev pub least : List ℕ → Option ℕ
least [] = None
least (n ∷ ns) = lesser n (least ns)

-- the least place of the items that pass a test
abbrev pub least_by : {X : Type 0} → (X → Bool) → (X → ℕ) → List X → Option ℕ
least_by test place xs = least (map place (filter test xs))

-- an item of this place passes the test, and none that passes has a lesser place from `from` on
pub record IsLeast {X : Type 0} (test : X → Bool) (place_of : X → ℕ) (items : List X) (from place : ℕ) : Type 0 where
  pub item : X
  pub is_item : Contains items item
  pub at_place : place_of item ≡ place
  pub passes : test item ≡ true
  pub from_on : from ≤ place
  pub none_before : All (λ x. test x ≡ true → from ≤ place_of x → place ≤ place_of x) items

-- every item that passes the test is before `from`
abbrev pub AreBefore : {X : Type 0} → (X → Bool) → (X → ℕ) → List X → ℕ → Type 0
AreBefore test place_of items from = All (λ x. test x ≡ true → place_of x < from) items

-- what the least place from `from` on of an item that passes tells, or that there is none
abbrev pub Answers : {X : Type 0} → (X → Bool) → (X → ℕ) → List X → ℕ → Option ℕ → Type 0
Answers test place_of items from None = AreBefore test place_of items from
Answers test place_of items from (Some place) = IsLeast test place_of items from place
