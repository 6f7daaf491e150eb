-- A reply with the reverse set written has the mirror of the forward key.
use Rattle.std.proofs.Common.{◌≡◌, ℕ, ◌||◌, ◌++◌, Bool, true, false, true≢false, List, [], ◌∷◌, Option, Some, None, refl, sym, ap, ◌∙◌, subst, map, take, arith}
use Rattle.std.specs.Prelude.{get_or}
use Rattle.std.proofs.lemmas.List.{take-append-drop}
use Rattle.vsw_base.specs.declared.address.Addr.{Addr}
use Rattle.vsw_base.specs.declared.address.Addr.TheVariants as addr
use Rattle.vsw_base.specs.declared.flow.LayerKey.{LayerKey}
use Rattle.vsw_base.specs.declared.flow.Set.{Set}
use Rattle.vsw_base.specs.declared.header.Header.{Header}
use Rattle.vsw_base.specs.declared.header.Header.TheVariants.{Ether, Ip, Vxlan, Ports, Six}
use Rattle.vsw_base.specs.declared.packet.Control.{Control}
use Rattle.vsw_base.specs.declared.packet.Dir.{Dir}
use Rattle.vsw_base.specs.Shape.{destination_of, is_stack, is_plain, encaps, inner, source_of, vnis}
use Rattle.vsw_base.proofs.Stacks.{stack_cases, plain_cases, encapped}
use Rattle.vsw_rule.specs.Edit.{written, with_set, edited}
use Rattle.vsw_header.specs.Key.{packet_of, ports_of, key_from, mirror_of}
use Rattle.vsw_layerflow.specs.Pairs.{holds, probe, turned, front, back}
use Rattle.vsw_layerflow.proofs.Lists.{same_self}
use Rattle.vsw_rule.specs.declared.rule.Action.{Action}
use Rattle.vsw_rule.specs.declared.rule.Action.TheVariants.{Allow, Drop, Edit}
use Rattle.vsw_rule.specs.declared.rule.Rule.{Rule}
use Rattle.vsw_rule.specs.Check.{is_stateless}
use Rattle.vsw_rule.specs.Field as field
use Rattle.vsw_transpose.specs.Apply.{or_old}
use Rattle.vsw_transpose.specs.Fits.{alike, outer}
use Rattle.vsw_walk.specs.Wanted.{nothing, set_of, undone, reverse_set_of, wanted_pair}

-- inner headers are a frame without encapsulation, and writing them leaves the encapsulations
abbrev pub Writes : List Header → Type 0
Writes hs = (is_plain (inner hs) ≡ true) × ((set : Set) → (encaps (with_set set hs) ≡ encaps hs) × (vnis (with_set set hs) ≡ vnis hs) × (inner (with_set set hs) ≡ map (written set) (inner hs)))

abbrev pub OnceWrites : List Header → Type 0
OnceWrites hs = (d s a b v : ℕ) → Writes (encapped d s a b v hs)

abbrev pub TwiceWrites : List Header → Type 0
TwiceWrites hs = (d s a b v : ℕ) → OnceWrites (encapped d s a b v hs)

plain_writes : (hs : List Header) → is_plain hs ≡ true → Writes hs
plain_writes = plain_cases Writes
    (λ d s k t. (t, λ set. (refl, refl, refl)))
    (λ d s k a b p q t. (t, λ set. (refl, refl, refl)))
    (λ d s k a b p q x y t. (t, λ set. (refl, refl, refl)))
    (λ d s k a b p t. (t, λ set. (refl, refl, refl)))
    (λ d s k a b p x y t. (t, λ set. (refl, refl, refl)))

once_writes : (hs : List Header) → is_plain hs ≡ true → OnceWrites hs
once_writes = plain_cases OnceWrites
    (λ d s k t d' s' a' b' v. (t, λ set. (refl, refl, refl)))
    (λ d s k a b p q t d' s' a' b' v. (t, λ set. (refl, refl, refl)))
    (λ d s k a b p q x y t d' s' a' b' v. (t, λ set. (refl, refl, refl)))
    (λ d s k a b p t d' s' a' b' v. (t, λ set. (refl, refl, refl)))
    (λ d s k a b p x y t d' s' a' b' v. (t, λ set. (refl, refl, refl)))

twice_writes : (hs : List Header) → is_plain hs ≡ true → TwiceWrites hs
twice_writes = plain_cases TwiceWrites
    (λ d s k t d' s' a' b' v d'' s'' a'' b'' w. (t, λ set. (refl, refl, refl)))
    (λ d s k a b p q t d' s' a' b' v d'' s'' a'' b'' w. (t, λ set. (refl, refl, refl)))
    (λ d s k a b p q x y t d' s' a' b' v d'' s'' a'' b'' w. (t, λ set. (refl, refl, refl)))
    (λ d s k a b p t d' s' a' b' v d'' s'' a'' b'' w. (t, λ set. (refl, refl, refl)))
    (λ d s k a b p x y t d' s' a' b' v d'' s'' a'' b'' w. (t, λ set. (refl, refl, refl)))

writes : (hs : List Header) → is_stack hs ≡ true → Writes hs
writes = stack_cases Writes plain_writes (λ hs t d s a b v n. once_writes hs t d s a b v) (λ hs t d' s' a' b' w m d s a b v n. twice_writes hs t d' s' a' b' w d s a b v)

-- the addresses and ports of the one are those of the other, exchanged
abbrev pub Answers : List Header → List Header → Type 0
Answers ks hs = ((packet_of ks).0 ≡ (packet_of hs).1) × ((packet_of ks).1 ≡ (packet_of hs).0) × ((packet_of ks).2 ≡ (packet_of hs).2) × ((packet_of ks).3 ≡ (packet_of hs).3)
    × ((ports_of ks).0 ≡ (ports_of hs).1) × ((ports_of ks).1 ≡ (ports_of hs).0)

-- the reverse set by inner headers
abbrev pub reverse_for : Set → List Header → Set
reverse_for set hs = record {
  dst_mac = undone set.src_mac (source_of hs);
  src_mac = undone set.dst_mac (destination_of hs);
  src_ip = undone set.dst_ip (field.dst_ip hs);
  dst_ip = undone set.src_ip (field.src_ip hs);
  src_port = undone set.dst_port (field.dst_port hs);
  dst_port = undone set.src_port (field.src_port hs);
  src_ip6 = undone set.dst_ip6 (field.dst_ip6 hs);
  dst_ip6 = undone set.src_ip6 (field.src_ip6 hs);
}

-- inner headers of the same kinds that answer the edited ones answer, with the reverse set written, those from before
abbrev pub Returns : List Header → Type 0
Returns hs = (set : Set) (ks : List Header) → alike ks hs → Answers ks (map (written set) hs) → Answers (map (written (reverse_for set hs)) ks) hs

-- a field that was written gets its old value back
restored : (new : Option ℕ) (old x : ℕ) → x ≡ or_old new old → or_old (undone new (Some old)) x ≡ old
restored None old x e = e
restored (Some new) old x e = refl

abbrev pub number_in : Addr → ℕ
number_in addr.Absent = 0
number_in (addr.Four a) = a
number_in (addr.Six a) = a

four_restored : (new : Option ℕ) (old x : ℕ) → addr.Four x ≡ addr.Four (or_old new old) → addr.Four (or_old (undone new (Some old)) x) ≡ addr.Four old
four_restored new old x e = ap addr.Four (restored new old x (ap number_in e))

six_restored : (new : Option ℕ) (old x : ℕ) → addr.Six x ≡ addr.Six (or_old new old) → addr.Six (or_old (undone new (Some old)) x) ≡ addr.Six old
six_restored new old x e = ap addr.Six (restored new old x (ap number_in e))

ether_returns : (d s k : ℕ) → Returns (Ether d s k ∷ [])
ether_returns d s k set [] a m = absurd a
ether_returns d s k set (h ∷ []) a m = m
ether_returns d s k set (h ∷ g ∷ ks) a m = absurd a.1

ip_returns : (d s k a b p : ℕ) (q : Bool) → Returns (Ether d s k ∷ Ip a b p q ∷ [])
ip_returns d s k a b p q set (h ∷ Ip a' b' p' q' ∷ []) l m = (four_restored set.dst_ip b a' m.0, four_restored set.src_ip a b' m.1, m.2, m.3, m.4, m.5)
ip_returns d s k a b p q set ks l m = absurd (grind arith)

ports_return : (d s k a b p : ℕ) (q : Bool) (x y : ℕ) → Returns (Ether d s k ∷ Ip a b p q ∷ Ports p x y ∷ [])
ports_return d s k a b p q x y set (h ∷ Ip a' b' p' q' ∷ Ports r x' y' ∷ []) l m = (four_restored set.dst_ip b a' m.0, four_restored set.src_ip a b' m.1, m.2, m.3, restored set.dst_port y x' m.4, restored set.src_port x y' m.5)
ports_return d s k a b p q x y set ks l m = absurd (grind arith)

six_returns : (d s k a b p : ℕ) → Returns (Ether d s k ∷ Six a b p ∷ [])
six_returns d s k a b p set (h ∷ Six a' b' p' ∷ []) l m = (six_restored set.dst_ip6 b a' m.0, six_restored set.src_ip6 a b' m.1, m.2, m.3, m.4, m.5)
six_returns d s k a b p set ks l m = absurd (grind arith)

six_ports_return : (d s k a b p x y : ℕ) → Returns (Ether d s k ∷ Six a b p ∷ Ports p x y ∷ [])
six_ports_return d s k a b p x y set (h ∷ Six a' b' p' ∷ Ports r x' y' ∷ []) l m = (six_restored set.dst_ip6 b a' m.0, six_restored set.src_ip6 a b' m.1, m.2, m.3, restored set.dst_port y x' m.4, restored set.src_port x y' m.5)
six_ports_return d s k a b p x y set ks l m = absurd (grind arith)

returns : (hs : List Header) → is_plain hs ≡ true → Returns hs
returns = plain_cases Returns (λ d s k t. ether_returns d s k) (λ d s k a b p q t. ip_returns d s k a b p q) (λ d s k a b p q x y t. ports_return d s k a b p q x y)
    (λ d s k a b p t. six_returns d s k a b p) (λ d s k a b p x y t. six_ports_return d s k a b p x y)

-- two lists of inner headers by what their keys tell of them
by_key : (hs ks : List Header) → key_from ks ≡ mirror_of (key_from hs) → Answers (inner ks) (inner hs)
by_key hs ks e = (ap (λ (k : LayerKey). k.src) e, ap (λ (k : LayerKey). k.dst) e, ap (λ (k : LayerKey). k.proto) e, ap (λ (k : LayerKey). k.part) e, ap (λ (k : LayerKey). k.src_port) e, ap (λ (k : LayerKey). k.dst_port) e)

to_key : (hs ks : List Header) → encaps ks ≡ encaps hs → get_or (vnis ks) 0 0 ≡ get_or (vnis hs) 0 0 → get_or (vnis ks) 1 0 ≡ get_or (vnis hs) 1 0 → Answers (inner ks) (inner hs) → key_from ks ≡ mirror_of (key_from hs)
to_key hs ks e0 e1 e2 m = let (e3, e4, e5, e6, e7, e8) = m in (λ j. record { encaps = e0 j; vni_outer = e1 j; vni_second = e2 j; src = e3 j; dst = e4 j; proto = e5 j; part = e6 j; src_port = e7 j; dst_port = e8 j })

-- of a set that is written
set_turned : (set : Set) (hs ks : List Header) → is_stack hs ≡ true → is_stack ks ≡ true → alike (inner ks) (inner hs) → key_from ks ≡ mirror_of (key_from (with_set set hs)) → key_from (with_set (reverse_set_of set hs) ks) ≡ mirror_of (key_from hs)
set_turned set hs ks t u l e =
    let w = writes hs t in
    let x = writes ks u in
    let there = w.1 set in
    let back = x.1 (reverse_set_of set hs) in
    let before : Answers (inner ks) (map (written set) (inner hs)) = subst (Answers (inner ks)) there.2 (by_key (with_set set hs) ks e) in
    let after : Answers (map (written (reverse_set_of set hs)) (inner ks)) (inner hs) = returns (inner hs) w.0 set (inner ks) l before in
    let P : List Header → Type 0 = λ js. Answers js (inner hs) in
    to_key hs (with_set (reverse_set_of set hs) ks)
    (back.0 ∙ ap (λ (k : LayerKey). k.encaps) e ∙ there.0)
    (ap (λ (vs : List ℕ). get_or vs 0 0) back.1 ∙ ap (λ (k : LayerKey). k.vni_outer) e ∙ ap (λ (vs : List ℕ). get_or vs 0 0) there.1)
    (ap (λ (vs : List ℕ). get_or vs 1 0) back.1 ∙ ap (λ (k : LayerKey). k.vni_second) e ∙ ap (λ (vs : List ℕ). get_or vs 1 0) there.1)
    (subst P (sym back.2) after)

header_stays : (h : Header) → written nothing h ≡ h
header_stays (Ether d s k) = refl
header_stays (Ip a b p q) = refl
header_stays (Vxlan v) = refl
header_stays (Ports p x y) = refl
header_stays (Six a b p) = refl

headers_stay : (hs : List Header) → map (written nothing) hs ≡ hs
headers_stay [] = refl
headers_stay (h ∷ hs) = rw (header_stays h, headers_stay hs) refl

pub stack_stays : (hs : List Header) → with_set nothing hs ≡ hs
stack_stays hs = ap (λ (ks : List Header). take (outer hs) hs ++ ks) (headers_stay (inner hs)) ∙ take-append-drop (outer hs) hs

action_turned : (action : Action) (hs ks : List Header) → is_stack hs ≡ true → is_stateless action ≡ false → is_stack ks ≡ true → alike (inner ks) (inner hs) → key_from ks ≡ mirror_of (key_from (edited action hs)) → key_from (with_set (reverse_set_of (set_of action) hs) ks) ≡ mirror_of (key_from hs)
action_turned Allow hs ks t s u l e =
    let P : List Header → Type 0 = λ js. key_from ks ≡ mirror_of (key_from js) in
    set_turned nothing hs ks t u l (subst P (sym (stack_stays hs)) e)
action_turned Drop hs ks t s u l e = absurd (true≢false s)
action_turned (Edit true set encap) hs ks t s u l e = absurd (true≢false s)
action_turned (Edit false set (Some o)) hs ks t s u l e = absurd (true≢false s)
action_turned (Edit false set None) hs ks t s u l e = set_turned set hs ks t u l e

pub turns_back : (number : ℕ) (d : Dir) (c : Control) (moment : ℕ) (hs : List Header) (group : ℕ) (r : Rule) → is_stack hs ≡ true → is_stateless r.action ≡ false
    → (ks : List Header) → is_stack ks ≡ true → alike (inner ks) (inner hs) → key_from ks ≡ (wanted_pair number d c moment hs group r).reverse
    → key_from (with_set (wanted_pair number d c moment hs group r).reverse_set ks) ≡ mirror_of (wanted_pair number d c moment hs group r).forward
turns_back number d c moment hs group r t s ks u l e = action_turned r.action hs ks t s u l e

or_true : (a b : Bool) → b ≡ true → (a || b) ≡ true
or_true true b t = refl
or_true false b t = t

true_or : (a b : Bool) → a ≡ true → (a || b) ≡ true
true_or a b t = rw t refl

pub holds_both : (number : ℕ) (d : Dir) (c : Control) (moment : ℕ) (hs : List Header) (group : ℕ) (r : Rule)
    → (holds (probe d (key_from hs)) (wanted_pair number d c moment hs group r) ≡ true)
    × (holds (probe (turned d) (wanted_pair number d c moment hs group r).reverse) (wanted_pair number d c moment hs group r) ≡ true)
holds_both number d c moment hs group r =
    let p = wanted_pair number d c moment hs group r in
    (true_or _ _ (same_self (front p)), or_true _ _ (same_self (back p)))
