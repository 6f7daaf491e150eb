-- What a key tells of the fields, conditions and rules of the packets that have it.
use Rattle.std.proofs.Common.{◌≡◌, ℕ, ◌==◌, ◌&&◌, ◌||◌, Bool, true, false, not, List, [], ◌∷◌, take, Option, Some, None, option_map, refl, sym, ap, ◌∙◌, true≢false}
use Rattle.std.specs.Prelude.{if◌then◌else◌}
use Rattle.std.specs.List.{list_all, list_any}
use Rattle.std.specs.Option.{option_or}
use Rattle.vsw_base.proofs.Truths.{both}
use Rattle.vsw_base.specs.declared.address.Addr.{Addr}
use Rattle.vsw_base.specs.declared.address.Addr.TheVariants as addr
use Rattle.vsw_base.specs.declared.header.Header.{Header}
use Rattle.vsw_base.specs.declared.header.Header.TheVariants.{Ether, Ip, Vxlan, Ports, Six}
use Rattle.vsw_base.specs.Shape.{destination_of, encaps, inner, is_stack, source_of}
use Rattle.vsw_header.specs.Key as key
use Rattle.vsw_header.specs.Key.{key_from}
use Rattle.vsw_rule.specs.declared.field.Field.{Field}
use Rattle.vsw_rule.specs.declared.field.Field.TheVariants.{DstMac, SrcMac, Kind, SrcIp, DstIp, Proto, Part, SrcPort, DstPort, OuterDstMac, OuterSrcMac, OuterSrcIp, OuterDstIp, Vni, SrcIp6, DstIp6}
use Rattle.vsw_rule.specs.declared.rule.Action.{Action}
use Rattle.vsw_rule.specs.declared.rule.Action.TheVariants as action
use Rattle.vsw_rule.specs.declared.rule.Cond.{Cond}
use Rattle.vsw_rule.specs.declared.rule.Item.{Item}
use Rattle.vsw_rule.specs.declared.rule.Rule.{Rule}
use Rattle.vsw_rule.specs.Field as field
use Rattle.vsw_rule.specs.Field.{address_of, first_encap, value_of}
use Rattle.vsw_rule.specs.Match.{all_hold, can_do, has_ip, holds, in_item6, in_items, in_items6, matches}
use Rattle.vsw_spares.specs.Keyed.{is_four, is_in, is_six, may_be, may_do, may_hold, may_match}

got : {A : Type 0} (a b : A) → Some a ≡ Some b → a ≡ b
got a b e = ap (λ o. elim o [ None ↦ a | Some z ↦ z ]) e

some_none : {A B : Type 0} (a : A) → ◌≡◌ {A = Option A} None (Some a) → B
some_none a e = absurd (true≢false (sym (ap (λ o. elim o [ None ↦ false | Some z ↦ true ]) e)))

-- where a rule reads a field of the inner headers, the key has its value
abbrev four_of : ℕ × ℕ × ℕ × Bool → Addr × Addr × ℕ × Bool
four_of p = (addr.Four p.0, addr.Four p.1, p.2, p.3)

abbrev six_of : ℕ × ℕ × ℕ → Addr × Addr × ℕ × Bool
six_of p = (addr.Six p.0, addr.Six p.1, p.2, false)

packet_same : (hs : List Header) (p : ℕ × ℕ × ℕ × Bool) → field.packet_of hs ≡ Some p → key.packet_of hs ≡ four_of p
packet_same [] p e = some_none p e
packet_same (Ether d s k ∷ []) p e = some_none p e
packet_same (Ether d s k ∷ Ether a b c ∷ hs) p e = some_none p e
packet_same (Ether d s k ∷ Ip a b q r ∷ hs) p e = ap four_of (got (a, b, q, r) p e)
packet_same (Ether d s k ∷ Vxlan v ∷ hs) p e = some_none p e
packet_same (Ether d s k ∷ Ports q x y ∷ hs) p e = some_none p e
packet_same (Ether d s k ∷ Six a b q ∷ hs) p e = some_none p e
packet_same (Ip a b q r ∷ hs) p e = some_none p e
packet_same (Vxlan v ∷ hs) p e = some_none p e
packet_same (Ports q x y ∷ hs) p e = some_none p e
packet_same (Six a b q ∷ hs) p e = some_none p e

six_same : (hs : List Header) (p : ℕ × ℕ × ℕ) → field.six_of hs ≡ Some p → key.packet_of hs ≡ six_of p
six_same [] p e = some_none p e
six_same (Ether d s k ∷ []) p e = some_none p e
six_same (Ether d s k ∷ Ether a b c ∷ hs) p e = some_none p e
six_same (Ether d s k ∷ Ip a b q r ∷ hs) p e = some_none p e
six_same (Ether d s k ∷ Vxlan v ∷ hs) p e = some_none p e
six_same (Ether d s k ∷ Ports q x y ∷ hs) p e = some_none p e
six_same (Ether d s k ∷ Six a b q ∷ hs) p e = ap six_of (got (a, b, q) p e)
six_same (Ip a b q r ∷ hs) p e = some_none p e
six_same (Vxlan v ∷ hs) p e = some_none p e
six_same (Ports q x y ∷ hs) p e = some_none p e
six_same (Six a b q ∷ hs) p e = some_none p e

ports_same : (hs : List Header) (p : ℕ × ℕ) → field.ports_of hs ≡ Some p → key.ports_of hs ≡ p
ports_same [] p e = some_none p e
ports_same (a ∷ []) p e = some_none p e
ports_same (a ∷ b ∷ []) p e = some_none p e
ports_same (a ∷ b ∷ Ether d s k ∷ hs) p e = some_none p e
ports_same (a ∷ b ∷ Ip s d q r ∷ hs) p e = some_none p e
ports_same (a ∷ b ∷ Vxlan v ∷ hs) p e = some_none p e
ports_same (a ∷ b ∷ Ports q x y ∷ hs) p e = got (x, y) p e
ports_same (a ∷ b ∷ Six s d q ∷ hs) p e = some_none p e

-- what holds of the value that a rule reads holds of the key's
in_packet : (f : Field) (g : ℕ × ℕ × ℕ × Bool → ℕ) (P : Addr × Addr × ℕ × Bool → Bool) (hs : List Header) (items : List Item) → ((p : ℕ × ℕ × ℕ × Bool) → P (four_of p) ≡ is_in f (g p) items) → in_items f (option_map g (field.packet_of hs)) items ≡ true → P (key.packet_of hs) ≡ true
in_packet f g P hs items are h = by (field.packet_of hs) refl h
  where
    by : (o : Option (ℕ × ℕ × ℕ × Bool)) → field.packet_of hs ≡ o → in_items f (option_map g o) items ≡ true → P (key.packet_of hs) ≡ true
    by None e i = absurd (true≢false (sym i))
    by (Some p) e i = ap P (packet_same hs p e) ∙ are p ∙ i

in_six : (g : ℕ × ℕ × ℕ → ℕ) (P : Addr × Addr × ℕ × Bool → Bool) (hs : List Header) (items : List Item) → ((p : ℕ × ℕ × ℕ) → P (six_of p) ≡ list_any (in_item6 (g p)) items) → in_items6 (option_map g (field.six_of hs)) items ≡ true → P (key.packet_of hs) ≡ true
in_six g P hs items are h = by (field.six_of hs) refl h
  where
    by : (o : Option (ℕ × ℕ × ℕ)) → field.six_of hs ≡ o → in_items6 (option_map g o) items ≡ true → P (key.packet_of hs) ≡ true
    by None e i = absurd (true≢false (sym i))
    by (Some p) e i = ap P (six_same hs p e) ∙ are p ∙ i

-- the protocol is that of IPv4, or else that of IPv6
in_proto : (hs : List Header) (items : List Item) → in_items Proto (field.proto hs) items ≡ true → is_in Proto (key.packet_of hs).2 items ≡ true
in_proto hs items h = by (field.packet_of hs) refl (field.six_of hs) refl h
  where
    by : (o : Option (ℕ × ℕ × ℕ × Bool)) → field.packet_of hs ≡ o → (s : Option (ℕ × ℕ × ℕ)) → field.six_of hs ≡ s → in_items Proto (option_or (option_map (λ p. p.2) o) (option_map (λ p. p.2) s)) items ≡ true → is_in Proto (key.packet_of hs).2 items ≡ true
    by (Some p) e s f i = ap (λ q. is_in Proto q.2 items) (packet_same hs p e) ∙ i
    by None e (Some p) f i = ap (λ q. is_in Proto q.2 items) (six_same hs p f) ∙ i
    by None e None f i = absurd (true≢false (sym i))

in_ports : (f : Field) (g : ℕ × ℕ → ℕ) (hs : List Header) (items : List Item) → in_items f (option_map g (field.ports_of hs)) items ≡ true → is_in f (g (key.ports_of hs)) items ≡ true
in_ports f g hs items h = by (field.ports_of hs) refl h
  where
    by : (o : Option (ℕ × ℕ)) → field.ports_of hs ≡ o → in_items f (option_map g o) items ≡ true → is_in f (g (key.ports_of hs)) items ≡ true
    by None e i = absurd (true≢false (sym i))
    by (Some p) e i = ap (λ q. is_in f (g q) items) (ports_same hs p e) ∙ i

-- a field of the first encapsulation is read only where there is one
in_first : (f : Field) (read : List Header → Option ℕ) (hs : List Header) (items : List Item) → read [] ≡ None → in_items f (read (first_encap hs)) items ≡ true → not (encaps hs == 0) ≡ true
in_first f read hs items none h = by (encaps hs == 0) h
  where
    by : (b : Bool) → in_items f (read (if b then [] else take 3 hs)) items ≡ true → not b ≡ true
    by true i = absurd (true≢false (sym i ∙ ap (λ o. in_items f o items) none))
    by false i = refl

-- and its network is the key's first
neither : (a b : Bool) → ((if a then false else if b then false else false) || false) ≡ false
neither true b = refl
neither false true = refl
neither false false = refl

vni_same : (hs : List Header) (v : ℕ) → is_stack hs ≡ true → field.vni (take 3 hs) ≡ Some v → key.vni_at 0 hs ≡ v
vni_same [] v s e = some_none v e
vni_same (a ∷ []) v s e = some_none v e
vni_same (a ∷ b ∷ []) v s e = some_none v e
vni_same (a ∷ b ∷ Ether d m k ∷ hs) v s e = some_none v e
vni_same (a ∷ b ∷ Ip x y q r ∷ hs) v s e = some_none v e
vni_same (a ∷ b ∷ Ports q x y ∷ hs) v s e = some_none v e
vni_same (a ∷ b ∷ Six x y q ∷ hs) v s e = some_none v e
vni_same (Ether d m k ∷ Ip x y q r ∷ Vxlan w ∷ hs) v s e = got w v e
vni_same (Ether d m k ∷ Ether d' m' k' ∷ Vxlan w ∷ hs) v s e = got w v e
vni_same (Ether d m k ∷ Ports q x y ∷ Vxlan w ∷ hs) v s e = got w v e
vni_same (Ether d m k ∷ Six x y q ∷ Vxlan w ∷ hs) v s e = got w v e
vni_same (Ether d m k ∷ Vxlan u ∷ Vxlan w ∷ hs) v s e = absurd (true≢false (sym s ∙ neither (k == 2048) (k == 34525)))
vni_same (Ip x y q r ∷ b ∷ Vxlan w ∷ hs) v s e = absurd (true≢false (sym s))
vni_same (Vxlan u ∷ b ∷ Vxlan w ∷ hs) v s e = absurd (true≢false (sym s))
vni_same (Ports q x y ∷ b ∷ Vxlan w ∷ hs) v s e = absurd (true≢false (sym s))
vni_same (Six x y q ∷ b ∷ Vxlan w ∷ hs) v s e = absurd (true≢false (sym s))

in_vni : (hs : List Header) (items : List Item) → is_stack hs ≡ true → in_items Vni (field.vni (first_encap hs)) items ≡ true → (not (encaps hs == 0) && is_in Vni (key.vni_at 0 hs) items) ≡ true
in_vni hs items s h = by (encaps hs == 0) h
  where
    found : (o : Option ℕ) → field.vni (take 3 hs) ≡ o → in_items Vni o items ≡ true → is_in Vni (key.vni_at 0 hs) items ≡ true
    found None e i = absurd (true≢false (sym i))
    found (Some v) e i = ap (λ n. is_in Vni n items) (vni_same hs v s e) ∙ i

    by : (b : Bool) → in_items Vni (field.vni (if b then [] else take 3 hs)) items ≡ true → (not b && is_in Vni (key.vni_at 0 hs) items) ≡ true
    by true i = absurd (true≢false (sym i))
    by false i = found (field.vni (take 3 hs)) refl i

be_value : (f : Field) (hs : List Header) (items : List Item) → is_stack hs ≡ true → in_items f (value_of f hs) items ≡ true → may_be (key_from hs) f items ≡ true
be_value DstMac hs items s h = refl
be_value SrcMac hs items s h = refl
be_value Kind hs items s h = refl
be_value SrcIp hs items s h = in_packet SrcIp (λ p. p.0) (λ p. is_four SrcIp p.0 items) (inner hs) items (λ p. refl) h
be_value DstIp hs items s h = in_packet DstIp (λ p. p.1) (λ p. is_four DstIp p.1 items) (inner hs) items (λ p. refl) h
be_value Proto hs items s h = in_proto (inner hs) items h
be_value Part hs items s h = in_packet Part (λ p. if p.3 then 1 else 0) (λ p. is_in Part (if p.3 then 1 else 0) items) (inner hs) items (λ p. refl) h
be_value SrcPort hs items s h = in_ports SrcPort (λ p. p.0) (inner hs) items h
be_value DstPort hs items s h = in_ports DstPort (λ p. p.1) (inner hs) items h
be_value OuterDstMac hs items s h = in_first OuterDstMac destination_of hs items refl h
be_value OuterSrcMac hs items s h = in_first OuterSrcMac source_of hs items refl h
be_value OuterSrcIp hs items s h = in_first OuterSrcIp field.src_ip hs items refl h
be_value OuterDstIp hs items s h = in_first OuterDstIp field.dst_ip hs items refl h
be_value Vni hs items s h = in_vni hs items s h
be_value SrcIp6 hs items s h = absurd (true≢false (sym h))
be_value DstIp6 hs items s h = absurd (true≢false (sym h))

be_address : (f : Field) (hs : List Header) (items : List Item) → in_items6 (address_of f hs) items ≡ true → may_be (key_from hs) f items ≡ true
be_address DstMac hs items h = absurd (true≢false (sym h))
be_address SrcMac hs items h = absurd (true≢false (sym h))
be_address Kind hs items h = absurd (true≢false (sym h))
be_address SrcIp hs items h = absurd (true≢false (sym h))
be_address DstIp hs items h = absurd (true≢false (sym h))
be_address Proto hs items h = absurd (true≢false (sym h))
be_address Part hs items h = absurd (true≢false (sym h))
be_address SrcPort hs items h = absurd (true≢false (sym h))
be_address DstPort hs items h = absurd (true≢false (sym h))
be_address OuterDstMac hs items h = absurd (true≢false (sym h))
be_address OuterSrcMac hs items h = absurd (true≢false (sym h))
be_address OuterSrcIp hs items h = absurd (true≢false (sym h))
be_address OuterDstIp hs items h = absurd (true≢false (sym h))
be_address Vni hs items h = absurd (true≢false (sym h))
be_address SrcIp6 hs items h = in_six (λ p. p.0) (λ p. is_six p.0 items) (inner hs) items (λ p. refl) h
be_address DstIp6 hs items h = in_six (λ p. p.1) (λ p. is_six p.1 items) (inner hs) items (λ p. refl) h

be : (f : Field) (hs : List Header) (items : List Item) → is_stack hs ≡ true → (in_items f (value_of f hs) items || in_items6 (address_of f hs) items) ≡ true → may_be (key_from hs) f items ≡ true
be f hs items s h = by (in_items f (value_of f hs) items) refl h
  where
    by : (b : Bool) → in_items f (value_of f hs) items ≡ b → (b || in_items6 (address_of f hs) items) ≡ true → may_be (key_from hs) f items ≡ true
    by true e i = be_value f hs items s e
    by false e i = be_address f hs items i

joins : (a b : Bool) → a ≡ true → b ≡ true → (a && b) ≡ true
joins true b e f = f
joins false b e f = e

-- conditions that hold may hold
pub hold : (cs : List Cond) (hs : List Header) → is_stack hs ≡ true → all_hold cs hs ≡ true → list_all (may_hold (key_from hs)) cs ≡ true
hold [] hs s h = refl
hold (c ∷ cs) hs s h =
    let t = both (holds c hs) (all_hold cs hs) h in
    joins (may_hold (key_from hs) c) (list_all (may_hold (key_from hs)) cs) (be c.field hs c.items s t.0) (hold cs hs s t.1)

does : (a : Action) (hs : List Header) → can_do a hs ≡ true → may_do (key_from hs) a ≡ true
does action.Allow hs h = refl
does action.Drop hs h = refl
does (action.Edit true set encap) hs h = h
does (action.Edit false set None) hs h = refl
does (action.Edit false set (Some outer)) hs h = h

-- a rule that matches may match
meets : (r : Rule) (hs : List Header) → is_stack hs ≡ true → matches r hs ≡ true → may_match (key_from hs) r ≡ true
meets r hs s h =
    let t = both (all_hold r.when hs && can_do r.action hs) (not r.stateful || has_ip (inner hs)) h in
    let u = both (all_hold r.when hs) (can_do r.action hs) t.0 in
    joins (list_all (may_hold (key_from hs)) r.when) (may_do (key_from hs) r.action) (hold r.when hs s u.0) (does r.action hs u.1)

-- so one that can't match doesn't
pub misses : (r : Rule) (hs : List Header) → is_stack hs ≡ true → may_match (key_from hs) r ≡ false → matches r hs ≡ false
misses r hs s h = by (matches r hs) refl
  where
    by : (b : Bool) → matches r hs ≡ b → b ≡ false
    by true e = absurd (true≢false (sym (meets r hs s e) ∙ h))
    by false e = refl
