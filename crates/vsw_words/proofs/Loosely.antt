-- What is read loosely is the identity where the words are its key.
use Rattle.std.proofs.Common.{◌≡◌, ℕ, zero, suc, ◌/◌, ◌%◌, ◌^◌, ◌≤◌, ◌==◌, ◌&&◌, ◌||◌, List, [], ◌∷◌, refl, sym, ◌∙◌, ap, subst, arith, length, true, false, Bool, take, get_or}
use Rattle.std.specs.Prelude.{not}
use Rattle.std.proofs.lemmas.Grind.{common_steps}
use Rattle.std.proofs.Math.Nat.{mod-eq_of_lt}
use Rattle.vsw_base.specs.declared.header.Header.{Header}
use Rattle.vsw_base.specs.declared.flow.Ufid.{Ufid}
use Rattle.vsw_base.specs.declared.header.Header.TheVariants.{Ether, Ip, Ports, Six}
use Rattle.vsw_base.specs.declared.packet.Dir.{Dir}
use Rattle.vsw_base.specs.declared.packet.Dir.TheVariants.{Out}
use Rattle.vsw_base.specs.Shape.{is_stack, is_plain, is_encap}
use Rattle.vsw_base.specs.Fits.{AreFit}
use Rattle.vsw_words.specs.declared.head.Head.{Head}
use Rattle.vsw_words.specs.Loose.{head_of, inner_by, headers_by, six_by, stack_by}
use Rattle.vsw_words.specs.Id.{id_of, split, dir_of, inner_from, outer_from, six_from, stack_from}
use Rattle.vsw_words.specs.Key.{key_words, head_bounds}
use Rattle.vsw_words.specs.Law.{IsId}
use Rattle.vsw_words.proofs.Decoded.{decodes}

-- inner headers of these fields, as they are read loosely and exactly
loose : Dir → (count part proto kind x y d s p : ℕ) → List ℕ → List Header
loose dir count part proto kind x y d s p ws = inner_by (record { dir = dir; count = count; part = part == 1; proto = proto; kind = kind; src = x; dst = y }) d s p ws

exact : (ip ports part six proto kind x y d s p : ℕ) → List ℕ → List Header
exact ip ports part six proto kind x y d s p ss = inner_from (ip ∷ ports ∷ part ∷ six ∷ proto ∷ kind ∷ x ∷ y ∷ []) d s p ss

bare_kind : (kind : ℕ) (d s : ℕ) → is_plain (Ether d s kind ∷ []) ≡ true → ((kind == 2048) ≡ false) × ((kind == 34525) ≡ false)
bare_kind kind d s t = (grind (arith, common_steps), grind (arith, common_steps))

packet_kind : (d s kind a b p : ℕ) (q : Bool) (hs : List Header) → is_plain (Ether d s kind ∷ Ip a b p q ∷ hs) ≡ true → (kind == 2048) ≡ true
packet_kind d s kind a b p q hs t = grind (arith, common_steps)

six_kind : (d s kind a b p : ℕ) (hs : List Header) → is_plain (Ether d s kind ∷ Six a b p ∷ hs) ≡ true → ((kind == 2048) ≡ false) × ((kind == 34525) ≡ true)
six_kind d s kind a b p hs t = (grind (arith, common_steps), grind (arith, common_steps))

whole_none : (d s kind a b proto : ℕ) (q : Bool) → is_plain (Ether d s kind ∷ Ip a b proto q ∷ []) ≡ true → (not q && ((proto == 6) || (proto == 17))) ≡ false
whole_none d s kind a b proto q t = grind (arith, common_steps)

whole_ports : (d s kind a b proto : ℕ) (q : Bool) (h : Header) → is_plain (Ether d s kind ∷ Ip a b proto q ∷ h ∷ []) ≡ true → (not q && ((proto == 6) || (proto == 17))) ≡ true
whole_ports d s kind a b proto q h t = grind (arith, common_steps)

six_none : (d s kind a b proto : ℕ) → is_plain (Ether d s kind ∷ Six a b proto ∷ []) ≡ true → ((proto == 6) || (proto == 17)) ≡ false
six_none d s kind a b proto t = grind (arith, common_steps)

six_ports : (d s kind a b proto : ℕ) (h : Header) → is_plain (Ether d s kind ∷ Six a b proto ∷ h ∷ []) ≡ true → ((proto == 6) || (proto == 17)) ≡ true
six_ports d s kind a b proto h t = grind (arith, common_steps)

inner_same : (dir : Dir) (count ip ports part six proto kind x y d s p : ℕ) (ws ss : List ℕ) → six_by ws 11 ≡ six_from ss 0 → six_by ws 13 ≡ six_from ss 2 → is_plain (exact ip ports part six proto kind x y d s p ss) ≡ true
    → AreFit (exact ip ports part six proto kind x y d s p ss) → loose dir count part proto kind x y d s p ws ≡ exact ip ports part six proto kind x y d s p ss
unfolding exact loose
inner_same dir count zero zero part zero proto kind x y d s p ws ss e g t f = let k = bare_kind kind d s t in rw (k.0, k.1, mod-eq_of_lt f.0.0, mod-eq_of_lt f.0.1) refl
inner_same dir count zero (suc ports) part zero proto kind x y d s p ws ss e g t f = let k = bare_kind kind d s t in rw (k.0, k.1, mod-eq_of_lt f.0.0, mod-eq_of_lt f.0.1) refl
inner_same dir count zero zero part (suc six) proto kind x y d s p ws ss e g t f =
    let k = six_kind d s kind (six_from ss 0) (six_from ss 2) proto [] t in
    rw (k.0, k.1, six_none d s kind (six_from ss 0) (six_from ss 2) proto t, e, g, mod-eq_of_lt f.0.0, mod-eq_of_lt f.0.1) refl
inner_same dir count zero (suc ports) part (suc six) proto kind x y d s p ws ss e g t f =
    let k = six_kind d s kind (six_from ss 0) (six_from ss 2) proto (Ports proto x y ∷ []) t in
    rw (k.0, k.1, six_ports d s kind (six_from ss 0) (six_from ss 2) proto (Ports proto x y) t, e, g, mod-eq_of_lt f.0.0, mod-eq_of_lt f.0.1) refl
inner_same dir count (suc ip) zero part six proto kind x y d s p ws ss e g t f =
    rw (packet_kind d s kind (p / 2 ^ 32) (p % 2 ^ 32) proto (part == 1) [] t, whole_none d s kind (p / 2 ^ 32) (p % 2 ^ 32) proto (part == 1) t, mod-eq_of_lt f.0.0, mod-eq_of_lt f.0.1) refl
inner_same dir count (suc ip) (suc ports) part six proto kind x y d s p ws ss e g t f =
    rw (packet_kind d s kind (p / 2 ^ 32) (p % 2 ^ 32) proto (part == 1) (Ports proto x y ∷ []) t, whole_ports d s kind (p / 2 ^ 32) (p % 2 ^ 32) proto (part == 1) (Ports proto x y) t, mod-eq_of_lt f.0.0, mod-eq_of_lt f.0.1) refl

no_encap : (ip ports part six proto kind x y d s p : ℕ) (ss : List ℕ) → is_encap (take 3 (exact ip ports part six proto kind x y d s p ss)) ≡ false
unfolding exact
no_encap zero zero part zero proto kind x y d s p ss = refl
no_encap zero (suc ports) part zero proto kind x y d s p ss = refl
no_encap zero zero part (suc six) proto kind x y d s p ss = refl
no_encap zero (suc ports) part (suc six) proto kind x y d s p ss = refl
no_encap (suc ip) zero part six proto kind x y d s p ss = refl
no_encap (suc ip) (suc ports) part six proto kind x y d s p ss = refl

none_of : (a b c : Bool) → b ≡ false → (a || (b && c)) ≡ true → a ≡ true
none_of a b c e t = grind (arith, common_steps)

one_of : (x a b c : Bool) → b ≡ false → (x && (a || (b && c))) ≡ true → a ≡ true
one_of x a b c e t = grind (arith, common_steps)

two_of : (x y a : Bool) → (x && (y && a)) ≡ true → a ≡ true
two_of x y a t = grind (arith, common_steps)

no_zero : (n : ℕ) → (suc (suc n) == 0) ≡ false
no_zero n = grind (arith, common_steps)

no_one : (n : ℕ) → (suc (suc n) == 1) ≡ false
no_one n = grind (arith, common_steps)

-- the stack of these fields and words
told : (one side count ip ports part six proto kind x y v w d s d' s' d'' s'' p p' p'' : ℕ) → List ℕ → List Header
told one side count ip ports part six proto kind x y v w d s d' s' d'' s'' p p' p'' ss =
    stack_from (one ∷ side ∷ count ∷ ip ∷ ports ∷ part ∷ six ∷ proto ∷ kind ∷ x ∷ y ∷ []) (v ∷ w ∷ []) (d ∷ s ∷ d' ∷ s' ∷ d'' ∷ s'' ∷ []) (p ∷ p' ∷ p'' ∷ []) ss

stack_same : (dir : Dir) (one side count ip ports part six proto kind x y first second d s d' s' d'' s'' p p' p'' a b a' b' : ℕ) (rest : List ℕ)
    → is_stack (told one side count ip ports part six proto kind x y (second % 2 ^ 24) (second / 2 ^ 24 % 2 ^ 24) d s d' s' d'' s'' p p' p'' (a ∷ b ∷ a' ∷ b' ∷ [])) ≡ true
    → AreFit (told one side count ip ports part six proto kind x y (second % 2 ^ 24) (second / 2 ^ 24 % 2 ^ 24) d s d' s' d'' s'' p p' p'' (a ∷ b ∷ a' ∷ b' ∷ []))
    → headers_by (record { dir = dir; count = count; part = part == 1; proto = proto; kind = kind; src = x; dst = y }) (first ∷ second ∷ d ∷ s ∷ d' ∷ s' ∷ d'' ∷ s'' ∷ p ∷ p' ∷ p'' ∷ a ∷ b ∷ a' ∷ b' ∷ rest)
    ≡ told one side count ip ports part six proto kind x y (second % 2 ^ 24) (second / 2 ^ 24 % 2 ^ 24) d s d' s' d'' s'' p p' p'' (a ∷ b ∷ a' ∷ b' ∷ [])
unfolding told exact loose
stack_same dir one side zero ip ports part six proto kind x y first second d s d' s' d'' s'' p p' p'' a b a' b' rest t f =
    let ws : List ℕ = first ∷ second ∷ d ∷ s ∷ d' ∷ s' ∷ d'' ∷ s'' ∷ p ∷ p' ∷ p'' ∷ a ∷ b ∷ a' ∷ b' ∷ rest in
    let ss : List ℕ = a ∷ b ∷ a' ∷ b' ∷ [] in
    inner_same dir zero ip ports part six proto kind x y d s p ws ss refl refl (none_of _ _ _ (no_encap ip ports part six proto kind x y d s p ss) t) f
stack_same dir one side (suc zero) ip ports part six proto kind x y first second d s d' s' d'' s'' p p' p'' a b a' b' rest t f =
    let ws : List ℕ = first ∷ second ∷ d ∷ s ∷ d' ∷ s' ∷ d'' ∷ s'' ∷ p ∷ p' ∷ p'' ∷ a ∷ b ∷ a' ∷ b' ∷ rest in
    let ss : List ℕ = a ∷ b ∷ a' ∷ b' ∷ [] in
    rw (mod-eq_of_lt f.0.0, mod-eq_of_lt f.0.1)
    (ap (outer_from d s p (second % 2 ^ 24)) (inner_same dir 1 ip ports part six proto kind x y d' s' p' ws ss refl refl (one_of _ _ _ _ (no_encap ip ports part six proto kind x y d' s' p' ss) t) f.1.1.1))
stack_same dir one side (suc (suc n)) ip ports part six proto kind x y first second d s d' s' d'' s'' p p' p'' a b a' b' rest t f =
    let ws : List ℕ = first ∷ second ∷ d ∷ s ∷ d' ∷ s' ∷ d'' ∷ s'' ∷ p ∷ p' ∷ p'' ∷ a ∷ b ∷ a' ∷ b' ∷ rest in
    let ss : List ℕ = a ∷ b ∷ a' ∷ b' ∷ [] in
    let g : AreFit (outer_from d' s' p' (second / 2 ^ 24 % 2 ^ 24) (exact ip ports part six proto kind x y d'' s'' p'' ss)) = f.1.1.1 in
    rw (no_zero n, no_one n, mod-eq_of_lt f.0.0, mod-eq_of_lt f.0.1, mod-eq_of_lt g.0.0, mod-eq_of_lt g.0.1)
    (ap (λ (hs : List Header). outer_from d s p (second % 2 ^ 24) (outer_from d' s' p' (second / 2 ^ 24 % 2 ^ 24) hs))
    (inner_same dir (suc (suc n)) ip ports part six proto kind x y d'' s'' p'' ws ss refl refl (two_of _ _ _ t) g.1.1.1))

same : (dir : Dir) (ws : List ℕ) → 15 ≤ length ws → is_stack (id_of ws).stack ≡ true → AreFit (id_of ws).stack → stack_by ws ≡ (id_of ws).stack
unfolding told
same dir (w ∷ v ∷ d ∷ s ∷ d' ∷ s' ∷ d'' ∷ s'' ∷ p ∷ p' ∷ p'' ∷ a ∷ b ∷ a' ∷ b' ∷ rest) l t f =
    let at : ℕ → ℕ = λ n. get_or (split head_bounds w) n 0 in
    stack_same (dir_of (at 1)) (at 0) (at 1) (at 2) (at 3) (at 4) (at 5) (at 6) (at 7) (at 8) (at 9) (at 10) w v d s d' s' d'' s'' p p' p'' a b a' b' rest t f
same dir ws l t f = absurd (grind (arith, common_steps, l))

-- words of an identity are read loosely as this identity
pub loosely : (ws : List ℕ) → length ws ≡ 16 → (id : Ufid) → IsId id → ws ≡ key_words id.dir id.stack → (stack_by ws ≡ id.stack) × ((head_of (get_or ws 0 0)).dir ≡ id.dir)
loosely ws l id h e =
    let g : id_of ws ≡ id = ap id_of e ∙ decodes id h in
    let there : IsId (id_of ws) = subst IsId (sym g) h in
    (same Out ws (omega (arith, l)) there.stack there.fit ∙ ap (λ (u : Ufid). u.stack) g, ap (λ (u : Ufid). u.dir) g)

abbrev pub ufid : Dir → List Header → Ufid
ufid dir hs = record { dir = dir; stack = hs }

-- they are read back, and compared
pub is_back : (ws : List ℕ) → length ws ≡ 16 → (head : Head) → head ≡ head_of (get_or ws 0 0) → (hs : List Header) → hs ≡ headers_by head ws → (result : Bool)
    → (ws ≡ key_words head.dir hs → result ≡ true) → (id : Ufid) → IsId id → ws ≡ key_words id.dir id.stack → (result ≡ true) × (ufid head.dir hs ≡ id)
is_back ws l head eh hs es result compared id h e =
    let (stack, dir) = loosely ws l id h e in
    let d : head.dir ≡ id.dir = ap (λ (x : Head). x.dir) eh ∙ dir in
    let k : hs ≡ id.stack = es ∙ ap (λ (x : Head). headers_by x ws) eh ∙ stack in
    let u : ufid head.dir hs ≡ id = (λ i. ufid (d i) (k i)) in
    (compared (e ∙ sym (ap (λ (x : Ufid). key_words x.dir x.stack) u)), u)
