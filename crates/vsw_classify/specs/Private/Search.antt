-- What an index offers to a packet, and what a search among it finds.
use Rattle.std.specs.Prelude.{◌≡◌, ◌<◌, ◌≤◌, ◌%◌, ◌⊎◌, ◌^◌, ℕ, List, Bool, true, Option, Some, None}
use Rattle.std.specs.List.{Contains}
use Rattle.std.specs.List.Sorted.{IsNonDecreasing}
use Rattle.vsw_base.specs.declared.header.Header.{Header}
use Rattle.vsw_rule.specs.declared.rule.Rule.{Rule}
use Rattle.vsw_rule.specs.Field.{value_of, is_ip}
use Rattle.vsw_index.specs.RangeLeast as interval
use Rattle.vsw_index.specs.declared.placed_range.PlacedRange.{PlacedRange}
use Rattle.vsw_index.specs.PrefixLeast as trie
use Rattle.vsw_index.specs.declared.placed_prefix.PlacedPrefix.{PlacedPrefix}
use Rattle.vsw_classify.specs.declared.field_index.FieldIndex.{FieldIndex}
use Rattle.vsw_classify.specs.Private.Rank.{IsRanked, meets_at}

-- one of the prefixes is at this rank and holds the address
pub record OffersPrefix (prefixes : List PlacedPrefix) (address rank : ℕ) : Type 0 where
  pub prefix : PlacedPrefix
  pub is_one : Contains prefixes prefix
  pub at : prefix.place ≡ rank
  pub holds : trie.holds address prefix ≡ true

-- one of the ranges is at this rank and holds the value
pub record OffersRange (ranges : List PlacedRange) (value rank : ℕ) : Type 0 where
  pub range : PlacedRange
  pub is_one : Contains ranges range
  pub at : range.place ≡ rank
  pub holds : interval.holds value range ≡ true

-- what a field's index offers where the field has this value
abbrev pub Offers : FieldIndex → ℕ → ℕ → Type 0
Offers index value rank = OffersPrefix index.prefixes (value % 4294967296) rank ⊎ OffersRange index.ranges value rank

-- the field is there, and its index offers the rank; an IPv4 address fits 32 bits
pub record Offered (hs : List Header) (index : FieldIndex) (rank : ℕ) : Type 0 where
  pub value : ℕ
  pub is_value : value_of index.field hs ≡ Some value
  pub offers : (is_ip index.field ≡ true → value < 2 ^ 32) → Offers index value rank

-- one of the fields' indexes offers the rank
pub record OfferedIn (fields : List FieldIndex) (hs : List Header) (rank : ℕ) : Type 0 where
  pub index : FieldIndex
  pub is_one : Contains fields index
  pub offered : Offered hs index rank

-- what is offered from `from` on is not below the answer
abbrev pub IsNext : (ℕ → Type 0) → ℕ → Option ℕ → Type 0
IsNext S from None = (k : ℕ) → S k → k < from
IsNext S from (Some n) = (from ≤ n) × ((k : ℕ) → S k → from ≤ k → n ≤ k)

-- a rank that matches, or the limit; no rank that is offered and matches is below it
pub record Narrows (meets : ℕ → Bool) (S : ℕ → Type 0) (limit found : ℕ) : Type 0 where
  pub within : found ≤ limit
  pub is : (found ≡ limit) ⊎ (meets found ≡ true)
  pub first : (k : ℕ) → S k → meets k ≡ true → found ≤ k

-- each rank that matches is listed or offered
abbrev pub IsComplete : List Rule → List ℕ → List ℕ → List FieldIndex → Type 0
IsComplete rules keys listed fields = (hs : List Header) (rank : ℕ) → meets_at rules keys hs rank ≡ true → Contains listed rank ⊎ OfferedIn fields hs rank

-- an index of these rules
pub record IsIndex (rules : List Rule) (keys listed : List ℕ) (fields : List FieldIndex) : Type 0 where
  pub ranked : IsRanked rules keys
  pub rises : IsNonDecreasing listed
  pub complete : IsComplete rules keys listed fields
