-- An identity from its words.
use Rattle.std.proofs.Common.{◌≡◌, ℕ, ◌<◌, List, [], ◌∷◌, ◌++◌, refl, sym, ◌∙◌, ap, arith, length, true, take, drop, get_or, length-append}
use Rattle.std.specs.Prelude.{replicate}
use Rattle.std.proofs.lemmas.List.{drop-drop, length-take-le, length-replicate}
use Rattle.std.proofs.Math.Seq.{take-append_seam, drop-append_seam}
use Rattle.vsw_base.specs.declared.header.Header.{Header}
use Rattle.vsw_base.specs.declared.packet.Dir.{Dir}
use Rattle.vsw_base.specs.declared.packet.Dir.TheVariants.{Out, In}
use Rattle.vsw_base.specs.declared.flow.Ufid.{Ufid}
use Rattle.vsw_base.specs.Shape.{is_stack, is_plain, encaps, inner, vnis}
use Rattle.vsw_base.specs.Fits.{AreFit}
use Rattle.vsw_base.proofs.Stacks.{plain_cases, stack_cases, encapped}
use Rattle.vsw_words.specs.Key.{key_words, joined, head_bounds, vni_bounds, side, padded, macs, addresses, sixes, inner_fields}
use Rattle.vsw_words.specs.Id.{split, dir_of, stack_from, id_of}
use Rattle.vsw_words.specs.Law.{IsId}
use Rattle.vsw_words.proofs.Fields.{Below, split_joined, high_is, low_is, whole_is, bit_is, bit_small}

-- the fields of a stack tell it
abbrev pub Tells : List Header → Type 0
Tells hs = (dir : ℕ) → AreFit hs → stack_from (1 ∷ dir ∷ encaps hs ∷ inner_fields (inner hs)) (padded 2 (vnis hs)) (padded 6 (macs hs)) (padded 3 (addresses hs)) (padded 4 (sixes hs)) ≡ hs

plain_tells : (hs : List Header) → is_plain hs ≡ true → Tells hs
plain_tells = plain_cases Tells
    (λ d s k t dir f. refl)
    (λ d s k a b p q t dir f. rw (high_is a b f.1.0.1, low_is a b f.1.0.1, bit_is q) refl)
    (λ d s k a b p q x y t dir f. rw (high_is a b f.1.0.1, low_is a b f.1.0.1, bit_is q) refl)
    (λ d s k a b p t dir f. rw (whole_is a, whole_is b) refl)
    (λ d s k a b p x y t dir f. rw (whole_is a, whole_is b) refl)

once_tells : (d s a b v : ℕ) → (hs : List Header) → is_plain hs ≡ true → Tells (encapped d s a b v hs)
once_tells d s a b v = plain_cases (λ hs. Tells (encapped d s a b v hs))
    (λ d' s' k t dir f. rw (high_is a b f.1.0.1, low_is a b f.1.0.1) refl)
    (λ d' s' k a' b' p q t dir f. rw (high_is a b f.1.0.1, low_is a b f.1.0.1, high_is a' b' f.1.1.1.1.0.1, low_is a' b' f.1.1.1.1.0.1, bit_is q) refl)
    (λ d' s' k a' b' p q x y t dir f. rw (high_is a b f.1.0.1, low_is a b f.1.0.1, high_is a' b' f.1.1.1.1.0.1, low_is a' b' f.1.1.1.1.0.1, bit_is q) refl)
    (λ d' s' k a' b' p t dir f. rw (high_is a b f.1.0.1, low_is a b f.1.0.1, whole_is a', whole_is b') refl)
    (λ d' s' k a' b' p x y t dir f. rw (high_is a b f.1.0.1, low_is a b f.1.0.1, whole_is a', whole_is b') refl)

twice_tells : (d s a b v e g h i w : ℕ) → (hs : List Header) → is_plain hs ≡ true → Tells (encapped d s a b v (encapped e g h i w hs))
twice_tells d s a b v e g h i w = plain_cases (λ hs. Tells (encapped d s a b v (encapped e g h i w hs)))
    (λ d' s' k t dir f. rw (high_is a b f.1.0.1, low_is a b f.1.0.1, high_is h i f.1.1.1.1.0.1, low_is h i f.1.1.1.1.0.1) refl)
    (λ d' s' k a' b' p q t dir f. rw (high_is a b f.1.0.1, low_is a b f.1.0.1, high_is h i f.1.1.1.1.0.1, low_is h i f.1.1.1.1.0.1, high_is a' b' f.1.1.1.1.1.1.1.0.1, low_is a' b' f.1.1.1.1.1.1.1.0.1, bit_is q) refl)
    (λ d' s' k a' b' p q x y t dir f. rw (high_is a b f.1.0.1, low_is a b f.1.0.1, high_is h i f.1.1.1.1.0.1, low_is h i f.1.1.1.1.0.1, high_is a' b' f.1.1.1.1.1.1.1.0.1, low_is a' b' f.1.1.1.1.1.1.1.0.1, bit_is q) refl)
    (λ d' s' k a' b' p t dir f. rw (high_is a b f.1.0.1, low_is a b f.1.0.1, high_is h i f.1.1.1.1.0.1, low_is h i f.1.1.1.1.0.1, whole_is a', whole_is b') refl)
    (λ d' s' k a' b' p x y t dir f. rw (high_is a b f.1.0.1, low_is a b f.1.0.1, high_is h i f.1.1.1.1.0.1, low_is h i f.1.1.1.1.0.1, whole_is a', whole_is b') refl)

tells : (hs : List Header) → is_stack hs ≡ true → Tells hs
tells = stack_cases Tells plain_tells
    (λ hs t d s a b v n. once_tells d s a b v hs t)
    (λ hs t e g h i w m d s a b v n. twice_tells d s a b v e g h i w hs t)

-- the fields are below their bounds
abbrev pub Bounded : List Header → Type 0
Bounded hs = (dir : Dir) → AreFit hs → Below head_bounds (1 ∷ side dir ∷ encaps hs ∷ inner_fields (inner hs)) × Below vni_bounds (padded 2 (vnis hs))

side_small : (dir : Dir) → side dir < 2
side_small Out = omega arith
side_small In = omega arith

plain_bounded : (hs : List Header) → is_plain hs ≡ true → Bounded hs
plain_bounded = plain_cases Bounded
    (λ d s k t dir f. grind (arith, side_small dir))
    (λ d s k a b p q t dir f. grind (arith, side_small dir, bit_small q))
    (λ d s k a b p q x y t dir f. grind (arith, side_small dir, bit_small q))
    (λ d s k a b p t dir f. grind (arith, side_small dir))
    (λ d s k a b p x y t dir f. grind (arith, side_small dir))

once_bounded : (d s a b v : ℕ) → (hs : List Header) → is_plain hs ≡ true → Bounded (encapped d s a b v hs)
once_bounded d s a b v = plain_cases (λ hs. Bounded (encapped d s a b v hs))
    (λ d' s' k t dir f. grind (arith, side_small dir))
    (λ d' s' k a' b' p q t dir f. grind (arith, side_small dir, bit_small q))
    (λ d' s' k a' b' p q x y t dir f. grind (arith, side_small dir, bit_small q))
    (λ d' s' k a' b' p t dir f. grind (arith, side_small dir))
    (λ d' s' k a' b' p x y t dir f. grind (arith, side_small dir))

twice_bounded : (d s a b v e g h i w : ℕ) → (hs : List Header) → is_plain hs ≡ true → Bounded (encapped d s a b v (encapped e g h i w hs))
twice_bounded d s a b v e g h i w = plain_cases (λ hs. Bounded (encapped d s a b v (encapped e g h i w hs)))
    (λ d' s' k t dir f. grind (arith, side_small dir))
    (λ d' s' k a' b' p q t dir f. grind (arith, side_small dir, bit_small q))
    (λ d' s' k a' b' p q x y t dir f. grind (arith, side_small dir, bit_small q))
    (λ d' s' k a' b' p t dir f. grind (arith, side_small dir))
    (λ d' s' k a' b' p x y t dir f. grind (arith, side_small dir))

pub bounded : (hs : List Header) → is_stack hs ≡ true → Bounded hs
bounded = stack_cases Bounded plain_bounded
    (λ hs t d s a b v n. once_bounded d s a b v hs t)
    (λ hs t e g h i w m d s a b v n. twice_bounded d s a b v e g h i w hs t)

pub padded_length : (n : ℕ) (xs : List ℕ) → length (padded n xs) ≡ n
padded_length n xs = length-take-le n (xs ++ replicate n 0) (omega (arith, length-append xs (replicate n 0), length-replicate {A = ℕ} n 0))

front_is : (n : ℕ) (xs rest : List ℕ) → length xs ≡ n → take n (xs ++ rest) ≡ xs
front_is n xs rest e = ap (λ (k : ℕ). take k (xs ++ rest)) (sym e) ∙ take-append_seam xs rest

back_is : (n : ℕ) (xs rest : List ℕ) → length xs ≡ n → drop n (xs ++ rest) ≡ rest
back_is n xs rest e = ap (λ (k : ℕ). drop k (xs ++ rest)) (sym e) ∙ drop-append_seam xs rest

five : (f f' v v' m m' a a' s s' : List ℕ) → f ≡ f' → v ≡ v' → m ≡ m' → a ≡ a' → s ≡ s' → stack_from f v m a s ≡ stack_from f' v' m' a' s'
five f f' v v' m m' a a' s s' e g h i j = ap (λ (p : List ℕ × List ℕ × List ℕ × List ℕ × List ℕ). stack_from p.0 p.1 p.2 p.3 p.4) cc

side_back : (dir : Dir) → dir_of (side dir) ≡ dir
side_back Out = refl
side_back In = refl

ufid : Dir → List Header → Ufid
ufid dir hs = record { dir = dir; stack = hs }

pub decodes : (id : Ufid) → IsId id → id_of (key_words id.dir id.stack) ≡ id
unfolding key_words ufid
decodes id h =
    let hs : List Header = id.stack in
    let b = bounded hs h.stack id.dir h.fit in
    let fields : List ℕ = 1 ∷ side id.dir ∷ encaps hs ∷ inner_fields (inner hs) in
    let ms : List ℕ = padded 6 (macs hs) in
    let ps : List ℕ = padded 3 (addresses hs) in
    let head : split head_bounds (joined head_bounds fields) ≡ fields = split_joined head_bounds fields b.0 in
    let networks : split vni_bounds (joined vni_bounds (padded 2 (vnis hs))) ≡ padded 2 (vnis hs) = split_joined vni_bounds (padded 2 (vnis hs)) b.1 in
    let ss : List ℕ = padded 4 (sixes hs) in
    let behind : List ℕ = ss ++ 0 ∷ [] in
    let front : take 6 (ms ++ (ps ++ behind)) ≡ ms = front_is 6 ms (ps ++ behind) (padded_length 6 (macs hs)) in
    let past : drop 6 (ms ++ (ps ++ behind)) ≡ ps ++ behind = back_is 6 ms (ps ++ behind) (padded_length 6 (macs hs)) in
    let back : take 3 (drop 6 (ms ++ (ps ++ behind))) ≡ ps = ap (take 3) past ∙ front_is 3 ps behind (padded_length 3 (addresses hs)) in
    let last : take 4 (drop 9 (ms ++ (ps ++ behind))) ≡ ss
    = ap (take 4) (sym (drop-drop 3 6 (ms ++ (ps ++ behind))) ∙ ap (drop 3) past ∙ back_is 3 ps behind (padded_length 3 (addresses hs))) ∙ front_is 4 ss (0 ∷ []) (padded_length 4 (sixes hs)) in
    let dir : dir_of (get_or (split head_bounds (joined head_bounds fields)) 1 0) ≡ id.dir = ap (λ (l : List ℕ). dir_of (get_or l 1 0)) head ∙ side_back id.dir in
    let stack : stack_from (split head_bounds (joined head_bounds fields)) (split vni_bounds (joined vni_bounds (padded 2 (vnis hs)))) (take 6 (ms ++ (ps ++ behind))) (take 3 (drop 6 (ms ++ (ps ++ behind)))) (take 4 (drop 9 (ms ++ (ps ++ behind)))) ≡ hs
    = five _ _ _ _ _ _ _ _ _ _ head networks front back last ∙ tells hs h.stack (side id.dir) h.fit in
    (λ i. ufid (dir i) (stack i))

pub apart : (a b : Ufid) → IsId a → IsId b → key_words a.dir a.stack ≡ key_words b.dir b.stack → a ≡ b
apart a b h k e = sym (decodes a h) ∙ ap id_of e ∙ decodes b k
