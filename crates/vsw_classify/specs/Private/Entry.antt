-- What is entered of a group's rules.
use Rattle.std.specs.Prelude.{◌≡◌, ◌<◌, ◌++◌, ◌⊎◌, ◌+◌, ℕ, List, [], ◌∷◌, length, map, filter_map, All, slice_get, Bool, true, false, not, Option, Some, None, if◌then◌else◌}
use Rattle.std.specs.List.{Contains}
use Rattle.std.specs.List.Sorted.{IsNonDecreasing}
use Rattle.vsw_base.specs.declared.header.Header.{Header}
use Rattle.vsw_rule.specs.contracts.field.FieldPartialEq.TheImpl as field
use Rattle.vsw_rule.specs.declared.field.Field.{Field}
use Rattle.vsw_rule.specs.declared.rule.Item.{Item}
use Rattle.vsw_rule.specs.declared.rule.Item.TheVariants as item
use Rattle.vsw_rule.specs.declared.rule.Cond.{Cond}
use Rattle.vsw_rule.specs.declared.rule.Rule.{Rule}
use Rattle.vsw_rule.specs.Field.{value_of, is_ip6}
use Rattle.vsw_rule.specs.Match.{in_items}
use Rattle.vsw_index.specs.declared.placed_range.PlacedRange.{PlacedRange}
use Rattle.vsw_index.specs.declared.placed_prefix.PlacedPrefix.{PlacedPrefix}
use Rattle.vsw_classify.specs.declared.entry.Entry.{Entry}
use Rattle.vsw_classify.specs.declared.field_index.FieldIndex.{FieldIndex}
use Rattle.vsw_classify.specs.Private.Rank.{meets_at}

abbrev pub entry_of : ℕ → Field → Item → Entry
entry_of rank f i = record { rank = rank; field = f; item = i }

-- the items of a condition, entered at a rank
abbrev pub entries_of : ℕ → Option Cond → List Entry
entries_of rank None = []
entries_of rank (Some c) = map (entry_of rank c.field) c.items

-- a rule may be entered under this condition: under none on IPv6 addresses, of which there is no index
abbrev pub may_enter : Option Cond → Bool
may_enter None = false
may_enter (Some c) = not (is_ip6 c.field)

-- what a rule adds that is entered under the condition at a place, or listed
abbrev pub Enters : Option ℕ → Rule → ℕ → List ℕ → List Entry → List ℕ → List Entry → Type 0
Enters None r rank listed entries then_listed then_entries = (then_listed ≡ listed ++ rank ∷ []) × (then_entries ≡ entries)
Enters (Some at) r rank listed entries then_listed then_entries = (then_listed ≡ listed) × (then_entries ≡ entries ++ entries_of rank (slice_get r.when at))

-- an entry at this rank holds of the packet
pub record IsHeld (entries : List Entry) (hs : List Header) (rank : ℕ) : Type 0 where
  pub entry : Entry
  pub is_one : Contains entries entry
  pub at : entry.rank ≡ rank
  pub holds : in_items entry.field (value_of entry.field hs) (entry.item ∷ []) ≡ true

-- where the rule at this rank matches, the rank is listed, or an entry of it holds
abbrev pub IsCovered : List Rule → List ℕ → List ℕ → List Entry → ℕ → Type 0
IsCovered rules keys listed entries rank = (hs : List Header) → meets_at rules keys hs rank ≡ true → Contains listed rank ⊎ IsHeld entries hs rank

-- each rank is covered, and those that are listed rise
pub record IsGathered (rules : List Rule) (keys listed : List ℕ) (entries : List Entry) : Type 0 where
  pub rises : IsNonDecreasing listed
  pub covers : (rank : ℕ) → rank < length keys → IsCovered rules keys listed entries rank

abbrev pub prefix_at : ℕ → Item → Option PlacedPrefix
prefix_at rank (item.Range low high) = None
prefix_at rank (item.Prefix p) = Some (record { place = rank; prefix = p })
prefix_at rank (item.Prefix6 p) = None

abbrev pub range_at : ℕ → Item → Option PlacedRange
range_at rank (item.Range low high) = Some (record { place = rank; low = low; high = high })
range_at rank (item.Prefix p) = None
range_at rank (item.Prefix6 p) = None

-- the prefix of an entry under this field
abbrev pub prefix_in : Field → Entry → Option PlacedPrefix
prefix_in f e = if field.eq-value.it e.field f then prefix_at e.rank e.item else None

-- the range of an entry under this field
abbrev pub range_in : Field → Entry → Option PlacedRange
range_in f e = if field.eq-value.it e.field f then range_at e.rank e.item else None

-- the index of the entries under this field
pub record IsIndexOf (entries : List Entry) (f : Field) (index : FieldIndex) : Type 0 where
  pub of_field : index.field ≡ f
  pub prefixes : index.prefixes ≡ filter_map (prefix_in f) entries
  pub ranges : index.ranges ≡ filter_map (range_in f) entries

-- one of the indexes is of this field
pub record HasField (fields : List FieldIndex) (f : Field) : Type 0 where
  pub index : FieldIndex
  pub is_one : Contains fields index
  pub of_field : index.field ≡ f

-- there is an index of the entry's field
pub record IsServed (entries : List Entry) (fields : List FieldIndex) (e : Entry) : Type 0 where
  pub index : FieldIndex
  pub is_one : Contains fields index
  pub is_index : IsIndexOf entries e.field index

abbrev pub AreServed : List Entry → List FieldIndex → Type 0
AreServed entries fields = All (λ e. IsServed entries fields e) entries

-- each index is of the entries under its own field
abbrev pub AreIndexes : List Entry → List FieldIndex → Type 0
AreIndexes entries fields = All (λ x. IsIndexOf entries x.field x) fields

-- a further field is served, and those before still are
pub record Serves (entries : List Entry) (f : Field) (fields then_fields : List FieldIndex) : Type 0 where
  pub built : AreIndexes entries fields → AreIndexes entries then_fields
  pub kept : (e : Entry) → IsServed entries fields e → IsServed entries then_fields e
  pub served : AreIndexes entries fields → (e : Entry) → e.field ≡ f → IsServed entries then_fields e

-- what is gathered with the rule at a rank: it covers this one too, and what is listed still rises
pub record Steps (rules : List Rule) (keys : List ℕ) (rank : ℕ) (listed : List ℕ) (entries : List Entry) (then_listed : List ℕ) (then_entries : List Entry) : Type 0 where
  pub kept : (k : ℕ) → IsCovered rules keys listed entries k → IsCovered rules keys then_listed then_entries k
  pub covers : IsCovered rules keys then_listed then_entries rank
  pub rises : All (λ k. k < rank) listed → IsNonDecreasing listed → IsNonDecreasing then_listed
  pub below : All (λ k. k < rank) listed → All (λ k. k < rank + 1) then_listed
