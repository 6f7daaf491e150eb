-- An index of what is gathered offers each rule that matches.
use Rattle.std.proofs.Common.{◌≡◌, ◌≤◌, ◌<◌, ◌%◌, ◌^◌, ◌||◌, ℕ, Bool, true, false, suc, zero, List, [], ◌∷◌, length, get_or, Option, Some, None, refl, sym, ap, subst, ◌∙◌, ◌⊎◌, inl, inr, arith}
use Rattle.std.specs.List.{Contains, filter_map, cons_option}
use Rattle.std.proofs.lemmas.Bool.{cases_lt}
use Rattle.std.proofs.lemmas.List.Elements.{All-contains}
use Rattle.std.proofs.lemmas.Option.{slice_get_cases}
use Rattle.vsw_base.proofs.Truths.{both}
use Rattle.vsw_base.specs.Prefix.{in_prefix}
use Rattle.vsw_base.specs.declared.header.Header.{Header}
use Rattle.vsw_rule.proofs.Same.{field_knows}
use Rattle.vsw_rule.specs.declared.field.Field.{Field}
use Rattle.vsw_rule.specs.declared.rule.Item.{Item}
use Rattle.vsw_rule.specs.declared.rule.Item.TheVariants as item
use Rattle.vsw_rule.specs.declared.rule.Rule.{Rule}
use Rattle.vsw_rule.specs.Field.{value_of, is_ip}
use Rattle.vsw_rule.specs.Match.{in_item, in_items}
use Rattle.vsw_index.specs.declared.placed_range.PlacedRange.{PlacedRange}
use Rattle.vsw_index.specs.declared.placed_prefix.PlacedPrefix.{PlacedPrefix}
use Rattle.vsw_classify.specs.declared.entry.Entry.{Entry}
use Rattle.vsw_classify.specs.declared.field_index.FieldIndex.{FieldIndex}
use Rattle.vsw_classify.specs.Private.Entry.{AreServed, IsGathered, IsHeld, IsIndexOf, IsServed, prefix_in, range_in}
use Rattle.vsw_classify.specs.Private.Rank.{IsRanked, is_met, meets_at, place_in, rule_in}
use Rattle.vsw_classify.specs.Private.Search.{IsComplete, IsIndex, OfferedIn, Offers}
use Rattle.vsw_classify.proofs.Ranked.{contains_head, contains_tail}

-- what is made of an element is among what is made of all
contains_made : {X Y : Type 0} (h : X → Option Y) (xs : List X) (i : ℕ) (x : X) (y : Y) → i < length xs → get_or xs i x ≡ x → h x ≡ Some y → Contains (filter_map h xs) y
contains_made h [] i x y u e m = absurd (let v : i < 0 = u in omega (arith, v))
contains_made {X} {Y} h (z ∷ zs) zero x y u e m =
    let made : h z ≡ Some y = ap h e ∙ m in
    subst (λ (o : Option Y). Contains (cons_option o (filter_map h zs)) y) (sym made) (contains_head y (filter_map h zs))
contains_made {X} {Y} h (z ∷ zs) (suc i) x y u e m = by (h z) (contains_made h zs i x y (omega (arith, u)) e m)
  where
    by : (o : Option Y) → Contains (filter_map h zs) y → Contains (cons_option o (filter_map h zs)) y
    by None c = c
    by (Some w) c = contains_tail w y (filter_map h zs) c

-- an entry that holds is offered by the index of its field
offers : (entries : List Entry) (index : FieldIndex) (e : Entry) (v : ℕ) (i : Item) → e.item ≡ i → IsIndexOf entries e.field index → Contains entries e → in_item e.field v i ≡ true → (is_ip index.field ≡ true → v < 2 ^ 32) → Offers index v e.rank
offers entries index e v (item.Range low high) is x has holds small =
    let range : PlacedRange = record { place = e.rank; low = low; high = high } in
    let made : range_in e.field e ≡ Some range = rw (field_knows e.field, is) refl in
    inr (record { range = range; is_one = subst (λ (ranges : List PlacedRange). Contains ranges range) (sym x.ranges) (contains_made (range_in e.field) entries has.0 e range has.1 has.2 made); at = refl; holds = holds })
offers entries index e v (item.Prefix p) is x has holds small =
    let prefix : PlacedPrefix = record { place = e.rank; prefix = p } in
    let made : prefix_in e.field e ≡ Some prefix = rw (field_knows e.field, is) refl in
    let parts = both (is_ip e.field) (in_prefix p v) holds in
    let ip : is_ip index.field ≡ true = ap is_ip x.of_field ∙ parts.0 in
    let below : v < 2 ^ 32 = small ip in
    let same : v % 4294967296 ≡ v = omega (arith, below) in
    inl (record { prefix = prefix; is_one = subst (λ (prefixes : List PlacedPrefix). Contains prefixes prefix) (sym x.prefixes) (contains_made (prefix_in e.field) entries has.0 e prefix has.1 has.2 made); at = refl; holds = ap (in_prefix p) same ∙ parts.1 })
offers entries index e v (item.Prefix6 p) is x has holds small = absurd (grind (arith, holds))

-- a value that is there
record IsThere (f : Field) (o : Option ℕ) (i : Item) : Type 0 where
  value : ℕ
  is_value : o ≡ Some value
  holds : in_item f value i ≡ true

there : (f : Field) (o : Option ℕ) (i : Item) → in_items f o (i ∷ []) ≡ true → IsThere f o i
there f None i h = absurd (grind (arith, h))
there f (Some v) i h = record { value = v; is_value = refl; holds = by (in_item f v i) h }
  where
    by : (b : Bool) → (b || false) ≡ true → b ≡ true
    by true h = refl
    by false h = h

offered : (entries : List Entry) (fields : List FieldIndex) (hs : List Header) (rank : ℕ) → AreServed entries fields → IsHeld entries hs rank → OfferedIn fields hs rank
offered entries fields hs rank served h =
    let s : IsServed entries fields h.entry = All-contains (λ (e : Entry). IsServed entries fields e) entries h.entry served h.is_one in
    let t = there h.entry.field (value_of h.entry.field hs) h.entry.item h.holds in
    record {
      index = s.index;
      is_one = s.is_one;
      offered = record {
        value = t.value;
        is_value = ap (λ (f : Field). value_of f hs) s.is_index.of_field ∙ t.is_value;
        offers = λ small. subst (λ (n : ℕ). Offers s.index t.value n) h.at (offers entries s.index h.entry t.value h.entry.item refl s.is_index h.is_one t.holds small);
      };
    }

no_rank : {A : Type 0} (rules : List Rule) (keys : List ℕ) (hs : List Header) (rank : ℕ) → length keys ≤ rank → meets_at rules keys hs rank ≡ true → A
no_rank rules keys hs rank past m = elim (slice_get_cases keys rank).1 [
  | inl there ↦ absurd (let u : rank < length keys = there.1 in omega (arith, past, u))
  | inr none ↦ let never : false ≡ true = sym (ap (λ (o : Option ℕ). is_met hs (rule_in rules (place_in o))) none.1) ∙ m in absurd (grind (arith, never))
]

pub complete : (rules : List Rule) (keys listed : List ℕ) (entries : List Entry) (fields : List FieldIndex) → IsGathered rules keys listed entries → AreServed entries fields → IsComplete rules keys listed fields
complete rules keys listed entries fields g served hs rank m = by (cases_lt rank (length keys))
  where
    by : (rank < length keys) ⊎ (length keys ≤ rank) → Contains listed rank ⊎ OfferedIn fields hs rank
    by (inl within) = elim (g.covers rank within hs m) [ inl c ↦ inl c | inr h ↦ inr (offered entries fields hs rank served h) ]
    by (inr past) = no_rank rules keys hs rank past m

pub index_is : (rules : List Rule) (keys listed : List ℕ) (entries : List Entry) (fields : List FieldIndex) → IsRanked rules keys → IsGathered rules keys listed entries → AreServed entries fields → IsIndex rules keys listed fields
index_is rules keys listed entries fields ranked g served = record { ranked = ranked; rises = g.rises; complete = complete rules keys listed entries fields g served }
