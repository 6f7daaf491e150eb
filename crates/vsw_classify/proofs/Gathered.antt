-- What is gathered of a group's rules covers each of them.
use Rattle.std.proofs.Common.{◌≡◌, ◌≤◌, ◌<◌, ◌+◌, ◌++◌, ◌&&◌, ◌||◌, ℕ, Bool, true, false, not, suc, zero, List, [], ◌∷◌, length, get_or, map, Option, Some, None, Result, Ok, Err, OnOk, refl, sym, ap, subst, ◌∙◌, inl, inr, arith}
use Rattle.std.specs.List.{All, Contains, list_any, slice_get}
use Rattle.std.specs.List.Sorted.{IsNonDecreasing}
use Rattle.std.specs.Option.{IfSome}
use Rattle.std.proofs.lemmas.Bool.{cases_lt}
use Rattle.std.proofs.lemmas.List.{get_or_append_left, length-append}
use Rattle.std.proofs.Math.Seq.{get_or-append_seam}
use Rattle.std.proofs.lemmas.List.Elements.{All-append, All-contains, All-cons, All-nil, Contains-append_left, Contains-append_right}
use Rattle.vsw_base.proofs.Truths.{both}
use Rattle.vsw_base.specs.declared.header.Header.{Header}
use Rattle.vsw_rule.specs.declared.field.Field.{Field}
use Rattle.vsw_rule.specs.declared.rule.Item.{Item}
use Rattle.vsw_rule.specs.declared.rule.Cond.{Cond}
use Rattle.vsw_rule.specs.declared.rule.Rule.{Rule}
use Rattle.vsw_rule.specs.declared.field.Field.TheVariants as field
use Rattle.vsw_rule.specs.Field.{value_of, address_of, is_ip6}
use Rattle.vsw_rule.specs.Match.{all_hold, holds, in_item, in_items, matches}
use Rattle.vsw_classify.specs.declared.entry.Entry.{Entry}
use Rattle.vsw_classify.specs.declared.field_index.FieldIndex.{FieldIndex}
use Rattle.vsw_classify.specs.Private.Entry.{Enters, HasField, IsHeld, IsIndexOf, Serves, Steps, entries_of, entry_of, may_enter}
use Rattle.vsw_classify.specs.Private.Rank.{is_met, meets_at, rule_at}
use Rattle.vsw_classify.proofs.Ranked.{contains_head, contains_tail, none_some, some_same}

-- a condition that holds has an item that does
record IsOne (rank : ℕ) (f : Field) (value : Option ℕ) (items : List Item) : Type 0 where
  item : Item
  is_one : Contains (map (entry_of rank f) items) (entry_of rank f item)
  holds : in_items f value (item ∷ []) ≡ true

one_of : (rank : ℕ) (f : Field) (v : ℕ) (items : List Item) → list_any (in_item f v) items ≡ true → IsOne rank f (Some v) items
one_of rank f v [] h = absurd (grind (arith, h))
one_of rank f v (i ∷ is) h = by (in_item f v i) refl h (one_of rank f v is)
  where
    by : (b : Bool) → in_item f v i ≡ b → (b || list_any (in_item f v) is) ≡ true → (list_any (in_item f v) is ≡ true → IsOne rank f (Some v) is) → IsOne rank f (Some v) (i ∷ is)
    by true e h later = record { item = i; is_one = contains_head (entry_of rank f i) (map (entry_of rank f) is); holds = ap (λ (b : Bool). b || false) e }
    by false e h later =
        let o = later h in
        record { item = o.item; is_one = contains_tail (entry_of rank f i) (entry_of rank f o.item) (map (entry_of rank f) is) o.is_one; holds = o.holds }

one_in : (rank : ℕ) (f : Field) (value : Option ℕ) (items : List Item) → in_items f value items ≡ true → IsOne rank f value items
one_in rank f None items h = absurd (grind (arith, h))
one_in rank f (Some v) items h = one_of rank f v items h

-- a condition on no IPv6 address holds by the field's value
no_address : (f : Field) (hs : List Header) → not (is_ip6 f) ≡ true → address_of f hs ≡ None
no_address field.DstMac hs may = refl
no_address field.SrcMac hs may = refl
no_address field.Kind hs may = refl
no_address field.SrcIp hs may = refl
no_address field.DstIp hs may = refl
no_address field.Proto hs may = refl
no_address field.Part hs may = refl
no_address field.SrcPort hs may = refl
no_address field.DstPort hs may = refl
no_address field.OuterDstMac hs may = refl
no_address field.OuterSrcMac hs may = refl
no_address field.OuterSrcIp hs may = refl
no_address field.OuterDstIp hs may = refl
no_address field.Vni hs may = refl
no_address field.SrcIp6 hs may = absurd (grind (arith, may))
no_address field.DstIp6 hs may = absurd (grind (arith, may))

by_value : (c : Cond) (hs : List Header) → not (is_ip6 c.field) ≡ true → holds c hs ≡ true → in_items c.field (value_of c.field hs) c.items ≡ true
by_value c hs may h = first (in_items c.field (value_of c.field hs) c.items) (rw (no_address c.field hs may) at h)
  where
    first : (b : Bool) → (b || false) ≡ true → b ≡ true
    first true h = refl
    first false h = h

-- each condition of a rule that matches holds
held_at : (cs : List Cond) (hs : List Header) (at : ℕ) (c : Cond) → all_hold cs hs ≡ true → slice_get cs at ≡ Some c → holds c hs ≡ true
held_at [] hs at c h e = none_some c e
held_at (d ∷ ds) hs zero c h e = subst (λ (x : Cond). holds x hs ≡ true) (some_same d c e) (both (holds d hs) (all_hold ds hs) h).0
held_at (d ∷ ds) hs (suc at) c h e = held_at ds hs at c (both (holds d hs) (all_hold ds hs) h).1 e

conditions : (a b c : Bool) → (a && b && c) ≡ true → a ≡ true
conditions a b c h = (both a b (both (a && b) c h).0).0

there : {X A : Type 0} (xs : List X) (i : ℕ) → i < length xs → slice_get xs i ≡ None → A
there [] i u e = absurd (let v : i < 0 = u in omega (arith, v))
there (x ∷ xs) zero u e = none_some x (sym e)
there (x ∷ xs) (suc i) u e = there xs i (omega (arith, u)) e

-- the entry of a condition that holds
entered_at : (rank : ℕ) (hs : List Header) (entries : List Entry) (when : List Cond) (at : ℕ) (o : Option Cond) → at < length when → may_enter o ≡ true → slice_get when at ≡ o → all_hold when hs ≡ true → IsHeld (entries ++ entries_of rank o) hs rank
entered_at rank hs entries when at None within may e h = there when at within e
entered_at rank hs entries when at (Some c) within may e h =
    let o = one_in rank c.field (value_of c.field hs) c.items (by_value c hs may (held_at when hs at c h e)) in
    record { entry = entry_of rank c.field o.item; is_one = Contains-append_right entries (entries_of rank (Some c)) (entry_of rank c.field o.item) o.is_one; at = refl; holds = o.holds }

held_more : (entries more : List Entry) (hs : List Header) (rank : ℕ) → IsHeld entries hs rank → IsHeld (entries ++ more) hs rank
held_more entries more hs rank h = record { entry = h.entry; is_one = Contains-append_left entries more h.entry h.is_one; at = h.at; holds = h.holds }

one_below : (rank : ℕ) → All (λ (k : ℕ). k < rank + 1) (rank ∷ [])
one_below rank = All-cons (λ (k : ℕ). k < rank + 1) rank [] (omega arith) (All-nil (λ (k : ℕ). k < rank + 1))

below_more : (rank : ℕ) (listed : List ℕ) → All (λ (k : ℕ). k < rank) listed → All (λ (k : ℕ). k < rank + 1) listed
below_more rank listed all k d u = let b : get_or listed k d < rank = all k d u in omega (arith, b)

rises_more : (rank : ℕ) (listed : List ℕ) → All (λ (k : ℕ). k < rank) listed → IsNonDecreasing listed → IsNonDecreasing (listed ++ rank ∷ [])
rises_more rank listed all rises i j d le u =
    let size : length (listed ++ rank ∷ []) ≡ length listed + 1 = length-append listed (rank ∷ []) in
    elim (cases_lt j (length listed)) [
      | inl before ↦
          let a : get_or (listed ++ rank ∷ []) i d ≡ get_or listed i d = get_or_append_left listed (rank ∷ []) d i (omega (arith, le, before)) in
          let b : get_or (listed ++ rank ∷ []) j d ≡ get_or listed j d = get_or_append_left listed (rank ∷ []) d j before in
          let o : get_or listed i d ≤ get_or listed j d = rises i j d le before in
          omega (arith, a, b, o)
      | inr past ↦
          let last : j ≡ length listed = omega (arith, past, u, size) in
          let b : get_or (listed ++ rank ∷ []) j d ≡ rank = ap (λ (n : ℕ). get_or (listed ++ rank ∷ []) n d) last ∙ get_or-append_seam listed rank [] d in
          elim (cases_lt i (length listed)) [
            | inl under ↦
                let a : get_or (listed ++ rank ∷ []) i d ≡ get_or listed i d = get_or_append_left listed (rank ∷ []) d i under in
                let o : get_or listed i d < rank = all i d under in
                omega (arith, a, b, o)
            | inr over ↦
                let same : i ≡ length listed = omega (arith, over, le, last) in
                let a : get_or (listed ++ rank ∷ []) i d ≡ rank = ap (λ (n : ℕ). get_or (listed ++ rank ∷ []) n d) same ∙ get_or-append_seam listed rank [] d in
                omega (arith, a, b)
          ]
    ]

matched : (rules : List Rule) (keys : List ℕ) (hs : List Header) (rank : ℕ) (r : Rule) → rule_at rules keys rank ≡ Some r → meets_at rules keys hs rank ≡ true → matches r hs ≡ true
matched rules keys hs rank r e m = sym (ap (is_met hs) e) ∙ m

unmatched : {A : Type 0} (rules : List Rule) (keys : List ℕ) (hs : List Header) (rank : ℕ) → rule_at rules keys rank ≡ None → meets_at rules keys hs rank ≡ true → A
unmatched rules keys hs rank e m = let never : false ≡ true = sym (ap (is_met hs) e) ∙ m in absurd (grind (arith, never))

-- nothing is added where there is no rule
pub steps_none : (rules : List Rule) (keys : List ℕ) (rank : ℕ) (listed : List ℕ) (entries : List Entry) → rule_at rules keys rank ≡ None → Steps rules keys rank listed entries listed entries
steps_none rules keys rank listed entries e = record {
  kept = λ k covered. covered;
  covers = λ hs m. unmatched rules keys hs rank e m;
  rises = λ all rises. rises;
  below = below_more rank listed;
}

-- a rule that is listed
steps_listed : (rules : List Rule) (keys : List ℕ) (rank : ℕ) (listed : List ℕ) (entries : List Entry) → Steps rules keys rank listed entries (listed ++ rank ∷ []) entries
steps_listed rules keys rank listed entries = record {
  kept = λ k covered hs m. elim (covered hs m) [ inl c ↦ inl (Contains-append_left listed (rank ∷ []) k c) | inr h ↦ inr h ];
  covers = λ hs m. inl (Contains-append_right listed (rank ∷ []) rank (contains_head rank []));
  rises = rises_more rank listed;
  below = λ all. All-append (λ (k : ℕ). k < rank + 1) listed (rank ∷ []) (below_more rank listed all) (one_below rank);
}

-- a rule that is entered under a condition
steps_under : (rules : List Rule) (keys : List ℕ) (rank : ℕ) (listed : List ℕ) (entries : List Entry) (r : Rule) (at : ℕ) → rule_at rules keys rank ≡ Some r → at < length r.when → may_enter (slice_get r.when at) ≡ true → Steps rules keys rank listed entries listed (entries ++ entries_of rank (slice_get r.when at))
steps_under rules keys rank listed entries r at e within may = record {
  kept = λ k covered hs m. elim (covered hs m) [ inl c ↦ inl c | inr h ↦ inr (held_more entries (entries_of rank (slice_get r.when at)) hs k h) ];
  covers = λ hs m. inr (entered_at rank hs entries r.when at (slice_get r.when at) within may refl (conditions (all_hold r.when hs) _ _ (matched rules keys hs rank r e m)));
  rises = λ all rises. rises;
  below = below_more rank listed;
}

pub steps : (under : Option ℕ) (rules : List Rule) (keys : List ℕ) (rank : ℕ) (r : Rule) (listed : List ℕ) (entries : List Entry) (then_listed : List ℕ) (then_entries : List Entry) → rule_at rules keys rank ≡ Some r → IfSome under (λ at. at < length r.when) → IfSome under (λ at. may_enter (slice_get r.when at) ≡ true) → Enters under r rank listed entries then_listed then_entries → Steps rules keys rank listed entries then_listed then_entries
steps None rules keys rank r listed entries then_listed then_entries e within may s = rw (s.0, s.1) (steps_listed rules keys rank listed entries)
steps (Some at) rules keys rank r listed entries then_listed then_entries e within may s = rw (s.0, s.1) (steps_under rules keys rank listed entries r at e within may)

-- a field that has an index is served
pub serves_same : (entries : List Entry) (f : Field) (fields : List FieldIndex) → HasField fields f → Serves entries f fields fields
serves_same entries f fields has = record {
  built = λ all. all;
  kept = λ e s. s;
  served = λ all e is.
      let own : IsIndexOf entries has.index.field has.index = All-contains (λ (x : FieldIndex). IsIndexOf entries x.field x) fields has.index all has.is_one in
      record { index = has.index; is_one = has.is_one; is_index = subst (λ (g : Field). IsIndexOf entries g has.index) (has.of_field ∙ sym is) own };
}

pub serves_more : (entries : List Entry) (f : Field) (fields then_fields : List FieldIndex) (index : FieldIndex) → IsIndexOf entries f index → then_fields ≡ fields ++ index ∷ [] → Serves entries f fields then_fields
serves_more entries f fields then_fields index is more = rw more (record {
  built = λ all. All-append (λ (x : FieldIndex). IsIndexOf entries x.field x) fields (index ∷ []) all (All-cons (λ (x : FieldIndex). IsIndexOf entries x.field x) index [] (subst (λ (g : Field). IsIndexOf entries g index) (sym is.of_field) is) (All-nil (λ (x : FieldIndex). IsIndexOf entries x.field x)));
  kept = λ e s. record { index = s.index; is_one = Contains-append_left fields (index ∷ []) s.index s.is_one; is_index = s.is_index };
  served = λ all e at. record { index = index; is_one = Contains-append_right fields (index ∷ []) index (contains_head index []); is_index = subst (λ (g : Field). IsIndexOf entries g index) (sym at) is };
})

-- a fact of success is one of what follows from it
pub on_ok : {T E A B : Type 0} (r : Result T E) → OnOk r A → (A → B) → OnOk r B
on_ok (Ok v) h f = f h
on_ok (Err e) h f = tt

-- what holds below a number, and at it
pub one_more : (C D : ℕ → Type 0) (n : ℕ) → ((k : ℕ) → C k → D k) → D n → ((k : ℕ) → k < n → C k) → (k : ℕ) → k < n + 1 → D k
one_more C D n kept at under k u = elim (cases_lt k n) [
  | inl before ↦ kept k (under k before)
  | inr past ↦ let same : n ≡ k = omega (arith, u, past) in subst D same at
]
