-- Acts read back from their words.
use Rattle.std.proofs.Common.{◌≡◌, ℕ, ◌-◌, ◌*◌, ◌/◌, ◌%◌, ◌^◌, ◌<◌, ◌≤◌, ◌==◌, ◌&&◌, List, [], ◌∷◌, ◌++◌, refl, sym, ◌∙◌, ap, subst, arith, length, true, false, Bool, Option, Some, None, is_some, get_or, zero, suc, if◌then◌else◌}
use Rattle.std.specs.Prelude.{replicate}
use Rattle.std.proofs.Math.Nat.{mod-eq_of_lt}
use Rattle.std.proofs.lemmas.Grind.{common_steps}
use Rattle.vsw_base.specs.declared.header.Header.TheVariants.{Ether, Ip, Vxlan, Ports, Six}
use Rattle.vsw_base.specs.Fits.{IsFit}
use Rattle.vsw_transpose.specs.declared.act.Change.TheVariants as of
use Rattle.vsw_transpose.specs.declared.act.Act.{Act}
use Rattle.vsw_transpose.specs.declared.act.Act.TheVariants.{Push, Pop, Modify, Ignore}
use Rattle.vsw_transpose.specs.Chain.{chain}
use Rattle.vsw_transpose.specs.Form.{all_write, is_form, pushed}
use Rattle.vsw_words.specs.Key.{bit}
use Rattle.vsw_words.specs.Row.{act_head, act_words, all_halves, acts_words, or_zero, filled}
use Rattle.vsw_words.specs.Reading.{IsBelow, IsActFit, AreActsFit, are_zero, field, has_first, has_second, act_by, is_of, if_of, read_act, with_act, read_acts}
use Rattle.vsw_transpose.proofs.Kept.{form_parts}
use Rattle.vsw_words.proofs.Fields.{whole_is}
use Rattle.vsw_words.proofs.Written.{form_chain}

three : (p q r h a b : ℕ) → ((p == h) && (q == a) && (r == b)) ≡ true → h ∷ a ∷ b ∷ [] ≡ p ∷ q ∷ r ∷ []
three p q r h a b t = grind (arith, common_steps)

-- words that are an act's
is_told : (x : Act) (h a b : ℕ) → is_of x h a b ≡ true → h ∷ a ∷ b ∷ [] ≡ act_words x
is_told (Push (Ether d s k)) h a b t = three _ _ _ h a b t
is_told (Push (Ip c d p q)) h a b t = three _ _ _ h a b t
is_told (Push (Vxlan v)) h a b t = three _ _ _ h a b t
is_told (Push (Ports p c d)) h a b t = three _ _ _ h a b t
is_told (Push (Six c d p)) h a b t = three _ _ _ h a b t
is_told Pop h a b t = three _ _ _ h a b t
is_told (Modify (of.Ether d s)) h a b t = three _ _ _ h a b t
is_told (Modify (of.Ip c d)) h a b t = three _ _ _ h a b t
is_told (Modify (of.Ports c d)) h a b t = three _ _ _ h a b t
is_told (Modify (of.Six None None)) h a b t = three _ _ _ h a b t
is_told (Modify (of.Six None (Some d))) h a b t = three _ _ _ h a b t
is_told (Modify (of.Six (Some c) d)) h a b t = three _ _ _ h a b t
is_told Ignore h a b t = three _ _ _ h a b t

if_then : (t : Bool) (y x : Act) → (if t then Some y else None) ≡ Some x → (t ≡ true) × (y ≡ x)
if_then true y x e = (refl, grind (arith, common_steps))
if_then false y x e = absurd (grind (arith, common_steps))

if_told : (o : Option Act) (h a b : ℕ) (x : Act) → if_of o h a b ≡ Some x → is_of x h a b ≡ true
if_told None h a b x e = absurd (grind (arith, common_steps))
if_told (Some y) h a b x e = let k = if_then (is_of y h a b) y x e in subst (λ (z : Act). is_of z h a b ≡ true) k.1 k.0

pub act_told : (h a b : ℕ) (x : Act) → read_act h a b ≡ Some x → h ∷ a ∷ b ∷ [] ≡ act_words x
unfolding read_act
act_told h a b x e = is_told x h a b (if_told (act_by h a b) h a b x e)

-- an act of a row: a change of IPv6 writes one address
abbrev pub IsSingle : Act → Type 0
IsSingle (Push h) = Unit {0}
IsSingle Pop = Unit {0}
IsSingle (Modify (of.Ether d s)) = Unit {0}
IsSingle (Modify (of.Ip a b)) = Unit {0}
IsSingle (Modify (of.Ports a b)) = Unit {0}
IsSingle (Modify (of.Six None None)) = ⊥
IsSingle (Modify (of.Six None (Some b))) = Unit {0}
IsSingle (Modify (of.Six (Some a) None)) = Unit {0}
IsSingle (Modify (of.Six (Some a) (Some b))) = ⊥
IsSingle Ignore = Unit {0}

abbrev pub AreSingle : List Act → Type 0
AreSingle [] = Unit {0}
AreSingle (x ∷ xs) = IsSingle x × AreSingle xs

if_by : (o : Option Act) (h a b : ℕ) (x : Act) → if_of o h a b ≡ Some x → o ≡ Some x
if_by None h a b x e = absurd (grind (arith, common_steps))
if_by (Some y) h a b x e = ap (λ (z : Act). Some z) (if_then (is_of y h a b) y x e).1

told_by : (h a b : ℕ) (x : Act) → read_act h a b ≡ Some x → act_by h a b ≡ Some x
unfolding read_act
told_by h a b x e = if_by (act_by h a b) h a b x e

pub head_is : (h a b : ℕ) (x : Act) → read_act h a b ≡ Some x → h ≡ get_or (act_words x) 0 0
head_is h a b x e = ap (λ (l : List ℕ). get_or l 0 0) (act_told h a b x e)

-- the act that such words are of, if the first one is this
pub told_at : (n h a b : ℕ) (x : Act) → h ≡ n → read_act h a b ≡ Some x → act_by n a b ≡ Some x
told_at n h a b x e r = subst (λ (m : ℕ). act_by m a b ≡ Some x) e (told_by h a b x r)

pub read_single : (h a b : ℕ) (x : Act) → read_act h a b ≡ Some x → IsSingle x
read_single h a b (Push g) e = tt
read_single h a b Pop e = tt
read_single h a b (Modify (of.Ether d s)) e = tt
read_single h a b (Modify (of.Ip c d)) e = tt
read_single h a b (Modify (of.Ports c d)) e = tt
read_single h a b (Modify (of.Six None None)) e = let k = told_at 0 h a b _ (head_is h a b _ e) e in absurd (grind (arith, common_steps))
read_single h a b (Modify (of.Six None (Some d))) e = tt
read_single h a b (Modify (of.Six (Some c) None)) e = tt
read_single h a b (Modify (of.Six (Some c) (Some d))) e = let k = told_at 25 h a b _ (head_is h a b _ e) e in absurd (grind (arith, common_steps))
read_single h a b Ignore e = tt

pub with_told : (o : Option Act) (p : Option (List Act)) (xs : List Act) → with_act o p ≡ Some xs → (x : Act) × (ys : List Act) × (o ≡ Some x) × (p ≡ Some ys) × (xs ≡ x ∷ ys)
with_told None p xs e = absurd (grind (arith, common_steps))
with_told (Some x) None xs e = absurd (grind (arith, common_steps))
with_told (Some x) (Some ys) xs e = (x, ys, refl, refl, grind (arith, common_steps))

pub zeros_are : (ws : List ℕ) → are_zero ws ≡ true → ws ≡ replicate (length ws) 0
zeros_are [] t = refl
zeros_are (w ∷ ws) t = grind (arith, common_steps, zeros_are ws)

pub zeros_read : (ws : List ℕ) (xs : List Act) → (if are_zero ws then Some [] else None) ≡ Some xs → (are_zero ws ≡ true) × (xs ≡ [])
zeros_read ws xs e = by (are_zero ws) e where
  by : (t : Bool) → (if t then Some [] else None) ≡ Some xs → (t ≡ true) × (xs ≡ [])
  by true e = (refl, grind (arith, common_steps))
  by false e = absurd (grind (arith, common_steps))

filled_front : (h a b n : ℕ) (ys : List ℕ) → h ∷ a ∷ b ∷ filled n ys ≡ filled (suc (suc (suc n))) (h ∷ a ∷ b ∷ ys)
filled_front h a b n ys = let e : n - length ys ≡ suc (suc (suc n)) - suc (suc (suc (length ys))) = omega arith in ap (λ (k : ℕ). h ∷ a ∷ b ∷ (ys ++ replicate k 0)) e

-- acts that are read are those whose words stand there
pub acts_told : (n : ℕ) (ws : List ℕ) (xs : List Act) → read_acts n ws ≡ Some xs → (n ≡ length xs) × (ws ≡ filled (length ws) (acts_words xs))
acts_told zero ws xs e =
    let z = zeros_read ws xs e in
    let n : length ws ≡ length ws - 0 = omega arith in
    rw z.1 (refl, zeros_are ws z.0 ∙ ap (λ (n : ℕ). replicate n 0) n)
acts_told (suc n) (h ∷ a ∷ b ∷ ws) xs e =
    let (x, ys, r, rest, is) = with_told (read_act h a b) (read_acts n ws) xs e in
    let later = acts_told n ws ys rest in
    let words : h ∷ a ∷ b ∷ acts_words ys ≡ act_words x ++ acts_words ys = ap (λ (l : List ℕ). l ++ acts_words ys) (act_told h a b x r) in
    let e : h ∷ a ∷ b ∷ ws ≡ filled (length (h ∷ a ∷ b ∷ ws)) (act_words x ++ acts_words ys) = ap (λ (l : List ℕ). h ∷ a ∷ b ∷ l) later.1 ∙ filled_front h a b (length ws) (acts_words ys) ∙ ap (λ (l : List ℕ). filled (length (h ∷ a ∷ b ∷ ws)) l) words in
    rw is (ap suc later.0, e)
acts_told (suc n) [] xs e = absurd (grind (arith, common_steps))
acts_told (suc n) (h ∷ []) xs e = absurd (grind (arith, common_steps))
acts_told (suc n) (h ∷ a ∷ []) xs e = absurd (grind (arith, common_steps))

pub acts_single : (n : ℕ) (ws : List ℕ) (xs : List Act) → read_acts n ws ≡ Some xs → AreSingle xs
acts_single zero ws xs e = rw (zeros_read ws xs e).1 tt
acts_single (suc n) (h ∷ a ∷ b ∷ ws) xs e =
    let (x, ys, r, rest, is) = with_told (read_act h a b) (read_acts n ws) xs e in
    rw is (read_single h a b x r, acts_single n ws ys rest)
acts_single (suc n) [] xs e = absurd (grind (arith, common_steps))
acts_single (suc n) (h ∷ []) xs e = absurd (grind (arith, common_steps))
acts_single (suc n) (h ∷ a ∷ []) xs e = absurd (grind (arith, common_steps))

-- acts of a row: their numbers lie in their ranges, pushes are of an encapsulation's headers alone, and a change of IPv6 writes one address
abbrev pub IsGood : Act → Type 0
IsGood (Push (Ether d s k)) = IsFit (Ether d s k)
IsGood (Push (Ip a b p q)) = (q ≡ false) × IsFit (Ip a b p q)
IsGood (Push (Vxlan v)) = v < 2 ^ 24
IsGood (Push (Ports p a b)) = ⊥
IsGood (Push (Six a b p)) = ⊥
IsGood Pop = Unit {0}
IsGood (Modify (of.Ether d s)) = IsActFit (Modify (of.Ether d s))
IsGood (Modify (of.Ip a b)) = IsActFit (Modify (of.Ip a b))
IsGood (Modify (of.Ports a b)) = IsActFit (Modify (of.Ports a b))
IsGood (Modify (of.Six None None)) = ⊥
IsGood (Modify (of.Six None (Some b))) = Unit {0}
IsGood (Modify (of.Six (Some a) None)) = Unit {0}
IsGood (Modify (of.Six (Some a) (Some b))) = ⊥
IsGood Ignore = Unit {0}

abbrev pub AreGood : List Act → Type 0
AreGood [] = Unit {0}
AreGood (x ∷ xs) = IsGood x × AreGood xs

chain_good : (n : ℕ) (xs : List Act) → chain n (pushed xs) ≡ true → all_write xs ≡ true → AreActsFit xs → AreGood (all_halves xs)
chain_good n [] t w r = tt
chain_good zero (Push (Ether d s k) ∷ xs) t w r = (r.0, chain_good 1 xs (grind (arith, common_steps)) w r.1)
chain_good (suc zero) (Push (Ip a b p q) ∷ xs) t w r = ((grind (arith, common_steps), r.0), chain_good 2 xs (grind (arith, common_steps)) w r.1)
chain_good (suc (suc n)) (Push (Vxlan v) ∷ xs) t w r = (r.0, chain_good 0 xs (grind (arith, common_steps)) w r.1)
chain_good n (Pop ∷ xs) t w r = (tt, chain_good n xs t w r.1)
chain_good n (Modify (of.Ether d s) ∷ xs) t w r = (r.0, chain_good n xs t w r.1)
chain_good n (Modify (of.Ip a b) ∷ xs) t w r = (r.0, chain_good n xs t w r.1)
chain_good n (Modify (of.Ports a b) ∷ xs) t w r = (r.0, chain_good n xs t w r.1)
chain_good n (Modify (of.Six None None) ∷ xs) t w r = absurd (grind (arith, common_steps))
chain_good n (Modify (of.Six None (Some b)) ∷ xs) t w r = (tt, chain_good n xs t w r.1)
chain_good n (Modify (of.Six (Some a) None) ∷ xs) t w r = (tt, chain_good n xs t w r.1)
chain_good n (Modify (of.Six (Some a) (Some b)) ∷ xs) t w r = (tt, (tt, chain_good n xs t w r.1))
chain_good n (Ignore ∷ xs) t w r = (tt, chain_good n xs t w r.1)
chain_good n (Push h ∷ xs) t w r = absurd (grind (arith, common_steps))

pub form_good : (xs : List Act) → is_form xs ≡ true → AreActsFit xs → AreGood (all_halves xs)
form_good xs t r = chain_good 0 xs (form_chain xs t) (form_parts xs t).4 r

-- the parts of an act's first word
pub kind_back : (kind : ℕ) (f s : Bool) (more : ℕ) → kind < 16 → act_head kind f s more % 16 ≡ kind
kind_back kind true true more h = omega arith
kind_back kind true false more h = omega arith
kind_back kind false true more h = omega arith
kind_back kind false false more h = omega arith

more_back : (kind : ℕ) (f s : Bool) (more : ℕ) → kind < 16 → act_head kind f s more / 65536 ≡ more
more_back kind true true more h = omega arith
more_back kind true false more h = omega arith
more_back kind false true more h = omega arith
more_back kind false false more h = omega arith

first_number : (kind : ℕ) (f s : Bool) → kind < 16 → act_head kind f s 0 / 16 % 2 ≡ bit f
first_number kind true true h = omega arith
first_number kind true false h = omega arith
first_number kind false true h = omega arith
first_number kind false false h = omega arith

second_number : (kind : ℕ) (f s : Bool) → kind < 16 → act_head kind f s 0 / 32 % 2 ≡ bit s
second_number kind true true h = omega arith
second_number kind true false h = omega arith
second_number kind false true h = omega arith
second_number kind false false h = omega arith

bit_one : (f : Bool) → (bit f == 1) ≡ f
bit_one true = refl
bit_one false = refl

first_back : (kind : ℕ) (f s : Bool) → kind < 16 → has_first (act_head kind f s 0) ≡ f
first_back kind f s h = ap (λ (n : ℕ). n == 1) (first_number kind f s h) ∙ bit_one f

second_back : (kind : ℕ) (f s : Bool) → kind < 16 → has_second (act_head kind f s 0) ≡ s
second_back kind f s h = ap (λ (n : ℕ). n == 1) (second_number kind f s h) ∙ bit_one s

below : (m x : ℕ) → x < m → x % m ≡ x
below m x h = mod-eq_of_lt h

field_back : (m : ℕ) (o : Option ℕ) → IsBelow m o → field (is_some o) (or_zero o % m) ≡ o
field_back m None h = refl
field_back m (Some n) h = ap (λ (k : ℕ). Some k) (below m n h)

same : (p q r : ℕ) → ((p == p) && (q == q) && (r == r)) ≡ true
same p q r = grind (arith, common_steps)

-- an act that is told by its words is read back from them
read_by : (x : Act) (h a b : ℕ) → act_words x ≡ h ∷ a ∷ b ∷ [] → act_by h a b ≡ Some x → read_act h a b ≡ Some x
unfolding read_act
read_by x h a b words told = rw (told, words, same h a b) refl

act_back : (x : Act) → IsGood x → (h : ℕ) × (a : ℕ) × (b : ℕ) × (act_words x ≡ h ∷ a ∷ b ∷ []) × (read_act h a b ≡ Some x)
act_back (Push (Ether d s k)) g = (_, _, _, refl, read_by _ _ _ _ refl (rw (kind_back 1 true true k (omega arith), more_back 1 true true k (omega arith), below (2 ^ 48) d g.0, below (2 ^ 48) s g.1, below 65536 k g.2) refl))
act_back (Push (Ip a b p q)) g = (_, _, _, refl, read_by _ _ _ _ refl (rw (g.0, kind_back 2 true true p (omega arith), more_back 2 true true p (omega arith), below (2 ^ 32) a g.1.0, below (2 ^ 32) b g.1.1, below 256 p g.1.2) refl))
act_back (Push (Vxlan v)) g = (_, _, _, refl, read_by _ _ _ _ refl (rw (kind_back 3 false false v (omega arith), more_back 3 false false v (omega arith), below 16777216 v g) refl))
act_back (Push (Ports p a b)) g = absurd g
act_back (Push (Six a b p)) g = absurd g
act_back Pop g = (_, _, _, refl, read_by _ _ _ _ refl refl)
act_back (Modify (of.Ether d s)) g = (_, _, _, refl, read_by _ _ _ _ refl (rw (kind_back 5 (is_some d) (is_some s) 0 (omega arith), first_back 5 (is_some d) (is_some s) (omega arith), second_back 5 (is_some d) (is_some s) (omega arith), field_back (2 ^ 48) d g.0, field_back (2 ^ 48) s g.1) refl))
act_back (Modify (of.Ip a b)) g = (_, _, _, refl, read_by _ _ _ _ refl (rw (kind_back 6 (is_some a) (is_some b) 0 (omega arith), first_back 6 (is_some a) (is_some b) (omega arith), second_back 6 (is_some a) (is_some b) (omega arith), field_back (2 ^ 32) a g.0, field_back (2 ^ 32) b g.1) refl))
act_back (Modify (of.Ports a b)) g = (_, _, _, refl, read_by _ _ _ _ refl (rw (kind_back 7 (is_some a) (is_some b) 0 (omega arith), first_back 7 (is_some a) (is_some b) (omega arith), second_back 7 (is_some a) (is_some b) (omega arith), field_back 65536 a g.0, field_back 65536 b g.1) refl))
act_back (Modify (of.Six None None)) g = absurd g
act_back (Modify (of.Six None (Some b))) g = (_, _, _, refl, read_by _ _ _ _ refl (rw (whole_is b) refl))
act_back (Modify (of.Six (Some a) None)) g = (_, _, _, refl, read_by _ _ _ _ refl (rw (whole_is a) refl))
act_back (Modify (of.Six (Some a) (Some b))) g = absurd g
act_back Ignore g = (_, _, _, refl, read_by _ _ _ _ refl refl)

pub zeros_back : (n : ℕ) → are_zero (replicate n 0) ≡ true
zeros_back zero = refl
zeros_back (suc n) = zeros_back n

three_less : (n m : ℕ) → suc (suc (suc n)) ≤ m → (k : ℕ) × (m ≡ suc (suc (suc k))) × (n ≤ k)
three_less n zero h = absurd (omega (arith, h))
three_less n (suc zero) h = absurd (omega (arith, h))
three_less n (suc (suc zero)) h = absurd (omega (arith, h))
three_less n (suc (suc (suc k))) h = (k, refl, omega (arith, h))

one_more : (x : Act) (xs : List Act) (m k p a b : ℕ) → m ≡ suc (suc (suc k)) → act_words x ≡ p ∷ a ∷ b ∷ [] → read_act p a b ≡ Some x → read_acts (length xs) (filled k (acts_words xs)) ≡ Some xs
    → read_acts (suc (length xs)) (filled m (act_words x ++ acts_words xs)) ≡ Some (x ∷ xs)
one_more x xs m k p a b e words read later =
    let front : filled m (act_words x ++ acts_words xs) ≡ p ∷ a ∷ b ∷ filled k (acts_words xs) = rw (words, e) (sym (filled_front p a b k (acts_words xs))) in
    rw (front, read, later) refl

-- acts are read back from their words
pub acts_back : (xs : List Act) (m : ℕ) → AreGood xs → 3 * length xs ≤ m → read_acts (length xs) (filled m (acts_words xs)) ≡ Some xs
acts_back [] m g h = rw (zeros_back (m - 0)) refl
acts_back (x ∷ xs) m g h =
    let (p, a, b, words, read) = act_back x g.0 in
    let (k, e, room) = three_less (3 * length xs) m (omega (arith, h)) in
    one_more x xs m k p a b e words read (acts_back xs k g.1 room)
