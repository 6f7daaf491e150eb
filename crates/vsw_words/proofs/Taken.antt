-- Acts of a row taken from their words, and those of a transposition made of them.
use Rattle.std.proofs.Common.{◌≡◌, ℕ, ◌-◌, ◌%◌, ◌<◌, ◌≤◌, ◌==◌, List, [], ◌∷◌, ◌++◌, refl, sym, ◌∙◌, ap, subst, arith, length, drop, get_or, true, false, Option, Some, None, is_some, zero, suc}
use Rattle.std.specs.Prelude.{option_map}
use Rattle.std.proofs.lemmas.Grind.{common_steps}
use Rattle.vsw_base.specs.declared.header.Header.TheVariants.{Ether, Ip, Vxlan, Ports, Six}
use Rattle.vsw_transpose.specs.declared.act.Change.TheVariants as of
use Rattle.vsw_transpose.specs.declared.act.Act.{Act}
use Rattle.vsw_transpose.specs.declared.act.Act.TheVariants.{Push, Pop, Modify, Ignore}
use Rattle.vsw_words.specs.Reading.{both_of, dst_ahead, dst_of, joined_acts, joined_by, lone_dst, lone_src, or_none, read_act, read_acts, read_joined, src_of, with_act}
use Rattle.vsw_words.specs.Row.{act_words}
use Rattle.vsw_words.proofs.Acts.{head_is, kind_back, told_at, read_single, with_told, zeros_read}

-- acts that are told have their words
pub told_long : (count : ℕ) (ws : List ℕ) → 0 < count → is_some (read_acts count ws) ≡ true → 3 ≤ length ws
told_long zero ws p t = absurd (omega (arith, p))
told_long (suc n) [] p t = absurd (grind (arith, common_steps))
told_long (suc n) (a ∷ []) p t = absurd (grind (arith, common_steps))
told_long (suc n) (a ∷ b ∷ []) p t = absurd (grind (arith, common_steps))
told_long (suc n) (a ∷ b ∷ c ∷ ws) p t = omega arith

-- and so has the second of two that are one change
pub pair_long : (s : Option ℕ) (count : ℕ) (ws : List ℕ) (z : Act) → both_of s (dst_ahead count ws) ≡ Some z → 3 ≤ length ws
pair_long None count ws z e = absurd (grind (arith, common_steps))
pair_long (Some s) zero ws z e = absurd (grind (arith, common_steps))
pair_long (Some s) (suc n) [] z e = absurd (grind (arith, common_steps))
pair_long (Some s) (suc n) (a ∷ []) z e = absurd (grind (arith, common_steps))
pair_long (Some s) (suc n) (a ∷ b ∷ []) z e = absurd (grind (arith, common_steps))
pair_long (Some s) (suc n) (a ∷ b ∷ c ∷ ws) z e = omega arith

-- the kind that the first word of an act tells
kind_at : (h a b : ℕ) (x : Act) (kind : ℕ) → read_act h a b ≡ Some x → get_or (act_words x) 0 0 % 16 ≡ kind → h % 16 ≡ kind
kind_at h a b x kind r e = ap (λ (n : ℕ). n % 16) (head_is h a b x r) ∙ e

no_src : (h a b kind : ℕ) → h % 16 ≡ kind → (kind == 9) ≡ false → src_of h a b ≡ None
no_src h a b kind e f = rw (e, f) refl

no_dst : (h a b kind : ℕ) → h % 16 ≡ kind → (kind == 10) ≡ false → dst_of h a b ≡ None
no_dst h a b kind e f = rw (e, f) refl

-- the source and the destination of some act
src_in : Option Act → Option ℕ
src_in None = None
src_in (Some x) = lone_src x

dst_in : Option Act → Option ℕ
dst_in None = None
dst_in (Some x) = lone_dst x

src_is : (h a b : ℕ) (x : Act) → read_act h a b ≡ Some x → src_of h a b ≡ lone_src x
unfolding src_in
src_is h a b (Push (Ether d s k)) r = no_src h a b 1 (kind_at h a b _ 1 r (kind_back 1 true true k (omega arith))) refl
src_is h a b (Push (Ip c d p q)) r = no_src h a b 2 (kind_at h a b _ 2 r (kind_back 2 true true p (omega arith))) refl
src_is h a b (Push (Vxlan v)) r = no_src h a b 3 (kind_at h a b _ 3 r (kind_back 3 false false v (omega arith))) refl
src_is h a b (Push (Ports p c d)) r = no_src h a b 0 (kind_at h a b _ 0 r refl) refl
src_is h a b (Push (Six c d p)) r = no_src h a b 0 (kind_at h a b _ 0 r refl) refl
src_is h a b Pop r = no_src h a b 4 (kind_at h a b _ 4 r refl) refl
src_is h a b (Modify (of.Ether d s)) r = no_src h a b 5 (kind_at h a b _ 5 r (kind_back 5 (is_some d) (is_some s) 0 (omega arith))) refl
src_is h a b (Modify (of.Ip c d)) r = no_src h a b 6 (kind_at h a b _ 6 r (kind_back 6 (is_some c) (is_some d) 0 (omega arith))) refl
src_is h a b (Modify (of.Ports c d)) r = no_src h a b 7 (kind_at h a b _ 7 r (kind_back 7 (is_some c) (is_some d) 0 (omega arith))) refl
src_is h a b (Modify (of.Six None None)) r = absurd (read_single h a b _ r)
src_is h a b (Modify (of.Six None (Some d))) r = no_src h a b 10 (kind_at h a b _ 10 r refl) refl
src_is h a b (Modify (of.Six (Some c) None)) r =
    let e : h ≡ 25 = head_is h a b _ r in
    subst (λ (n : ℕ). src_of n a b ≡ Some c) (sym e) (ap src_in (told_at 25 h a b _ e r))
src_is h a b (Modify (of.Six (Some c) (Some d))) r = absurd (read_single h a b _ r)
src_is h a b Ignore r = no_src h a b 8 (kind_at h a b _ 8 r refl) refl

dst_is : (h a b : ℕ) (x : Act) → read_act h a b ≡ Some x → dst_of h a b ≡ lone_dst x
unfolding dst_in
dst_is h a b (Push (Ether d s k)) r = no_dst h a b 1 (kind_at h a b _ 1 r (kind_back 1 true true k (omega arith))) refl
dst_is h a b (Push (Ip c d p q)) r = no_dst h a b 2 (kind_at h a b _ 2 r (kind_back 2 true true p (omega arith))) refl
dst_is h a b (Push (Vxlan v)) r = no_dst h a b 3 (kind_at h a b _ 3 r (kind_back 3 false false v (omega arith))) refl
dst_is h a b (Push (Ports p c d)) r = no_dst h a b 0 (kind_at h a b _ 0 r refl) refl
dst_is h a b (Push (Six c d p)) r = no_dst h a b 0 (kind_at h a b _ 0 r refl) refl
dst_is h a b Pop r = no_dst h a b 4 (kind_at h a b _ 4 r refl) refl
dst_is h a b (Modify (of.Ether d s)) r = no_dst h a b 5 (kind_at h a b _ 5 r (kind_back 5 (is_some d) (is_some s) 0 (omega arith))) refl
dst_is h a b (Modify (of.Ip c d)) r = no_dst h a b 6 (kind_at h a b _ 6 r (kind_back 6 (is_some c) (is_some d) 0 (omega arith))) refl
dst_is h a b (Modify (of.Ports c d)) r = no_dst h a b 7 (kind_at h a b _ 7 r (kind_back 7 (is_some c) (is_some d) 0 (omega arith))) refl
dst_is h a b (Modify (of.Six None None)) r = absurd (read_single h a b _ r)
dst_is h a b (Modify (of.Six None (Some d))) r =
    let e : h ≡ 42 = head_is h a b _ r in
    subst (λ (n : ℕ). dst_of n a b ≡ Some d) (sym e) (ap dst_in (told_at 42 h a b _ e r))
dst_is h a b (Modify (of.Six (Some c) None)) r = no_dst h a b 9 (kind_at h a b _ 9 r refl) refl
dst_is h a b (Modify (of.Six (Some c) (Some d))) r = absurd (read_single h a b _ r)
dst_is h a b Ignore r = no_dst h a b 8 (kind_at h a b _ 8 r refl) refl

first_dst : List Act → Option ℕ
first_dst [] = None
first_dst (x ∷ xs) = lone_dst x

ahead_is : (n : ℕ) (ws : List ℕ) (xs : List Act) → read_acts n ws ≡ Some xs → dst_ahead n ws ≡ first_dst xs
unfolding first_dst
ahead_is zero ws xs r = sym (ap first_dst (zeros_read ws xs r).1)
ahead_is (suc n) (h ∷ a ∷ b ∷ ws) xs r = let (x, ys, read, rest, is) = with_told (read_act h a b) (read_acts n ws) xs r in dst_is h a b x read ∙ sym (ap first_dst is)
ahead_is (suc n) [] xs r = absurd (grind (arith, common_steps))
ahead_is (suc n) (h ∷ []) xs r = absurd (grind (arith, common_steps))
ahead_is (suc n) (h ∷ a ∷ []) xs r = absurd (grind (arith, common_steps))

-- the first act alone, or with the second
joined_one : (x : Act) (xs : List Act) → both_of (lone_src x) (first_dst xs) ≡ None → joined_acts (x ∷ xs) ≡ x ∷ joined_acts xs
unfolding first_dst
joined_one x [] e = refl
joined_one x (y ∷ ys) e = ap (λ (o : Option Act). joined_by o x (joined_acts (y ∷ ys)) (joined_acts ys)) e

no_second : (o : Option ℕ) (z : Act) → both_of o None ≡ Some z → ⊥
no_second None z e = grind (arith, common_steps)
no_second (Some a) z e = grind (arith, common_steps)

joined_two : (x : Act) (xs : List Act) (z : Act) → both_of (lone_src x) (first_dst xs) ≡ Some z → (y : Act) × (ys : List Act) × (xs ≡ y ∷ ys) × (joined_acts (x ∷ xs) ≡ z ∷ joined_acts ys)
unfolding first_dst
joined_two x [] z e = absurd (no_second (lone_src x) z e)
joined_two x (y ∷ ys) z e = (y, ys, refl, ap (λ (o : Option Act). joined_by o x (joined_acts (y ∷ ys)) (joined_acts ys)) e)

some_parts : (o : Option Act) (p : Option (List Act)) → is_some (with_act o p) ≡ true → (x : Act) × (xs : List Act) × (o ≡ Some x) × (p ≡ Some xs)
some_parts None p t = absurd (grind (arith, common_steps))
some_parts (Some x) None t = absurd (grind (arith, common_steps))
some_parts (Some x) (Some xs) t = (x, xs, refl, refl)

-- a change that the words of two acts tell is that of the acts
both_same : (h a b n : ℕ) (rest : List ℕ) (x : Act) (xs : List Act) → read_act h a b ≡ Some x → read_acts n rest ≡ Some xs → both_of (src_of h a b) (dst_ahead n rest) ≡ both_of (lone_src x) (first_dst xs)
both_same h a b n rest x xs r rs = ap (λ (o : Option ℕ). both_of o (dst_ahead n rest)) (src_is h a b x r) ∙ ap (λ (o : Option ℕ). both_of (lone_src x) o) (ahead_is n rest xs rs)

act_is : (o : Option Act) (x y : Act) → o ≡ Some x → (is_some o ≡ true → o ≡ Some y) → y ≡ x
act_is None x y e f = absurd (grind (arith, common_steps))
act_is (Some z) x y e f = let g : Some z ≡ Some y = f refl in grind (arith, common_steps)

abbrev pub TakesOne : ℕ → ℕ → List ℕ → List ℕ → Act → Type 0
TakesOne count fewer ws rest act = (is_some (read_acts fewer rest) ≡ true) × (or_none (read_joined count ws) ≡ act ∷ or_none (read_joined fewer rest))

one_at : (n h a b : ℕ) (rest : List ℕ) (act : Act) → is_some (read_acts (suc n) (h ∷ a ∷ b ∷ rest)) ≡ true → both_of (src_of h a b) (dst_ahead n rest) ≡ None → (is_some (read_act h a b) ≡ true → read_act h a b ≡ Some act)
    → TakesOne (suc n) n (h ∷ a ∷ b ∷ rest) rest act
one_at n h a b rest act t alone told =
    let (x, xs, r, rs) = some_parts (read_act h a b) (read_acts n rest) t in
    let read : with_act (read_act h a b) (read_acts n rest) ≡ Some (x ∷ xs) = ap (λ (o : Option Act). with_act o (read_acts n rest)) r ∙ ap (with_act (Some x)) rs in
    let joined : joined_acts (x ∷ xs) ≡ x ∷ joined_acts xs = joined_one x xs (sym (both_same h a b n rest x xs r rs) ∙ alone) in
    (ap is_some rs, ap (λ (o : Option (List Act)). or_none (option_map joined_acts o)) read ∙ joined ∙ ap (λ (y : Act). y ∷ joined_acts xs) (sym (act_is (read_act h a b) x act r told)) ∙ ap (λ (o : Option (List Act)). act ∷ or_none (option_map joined_acts o)) (sym rs))

next_of : (n : ℕ) (ws : List ℕ) (y : Act) (ys : List Act) → read_acts n ws ≡ Some (y ∷ ys) → (1 ≤ n) × (read_acts (n - 1) (drop 3 ws) ≡ Some ys)
next_of zero ws y ys r = absurd (no_act (zeros_read ws (y ∷ ys) r).1)
  where
    no_act : y ∷ ys ≡ [] → ⊥
    no_act e = grind (arith, common_steps)
next_of (suc n) (h ∷ a ∷ b ∷ ws) y ys r =
    let (x, xs, read, rest, is) = with_told (read_act h a b) (read_acts n ws) (y ∷ ys) r in
    let tail : xs ≡ ys = ap (drop 1) (sym is) in
    let less : suc n - 1 ≡ n = omega arith in
    (omega arith, ap (λ (m : ℕ). read_acts m ws) less ∙ rest ∙ ap (λ (l : List Act). Some l) tail)
next_of (suc n) [] y ys r = absurd (grind (arith, common_steps))
next_of (suc n) (h ∷ []) y ys r = absurd (grind (arith, common_steps))
next_of (suc n) (h ∷ a ∷ []) y ys r = absurd (grind (arith, common_steps))

two_at : (n h a b : ℕ) (rest : List ℕ) (z : Act) → is_some (read_acts (suc n) (h ∷ a ∷ b ∷ rest)) ≡ true → both_of (src_of h a b) (dst_ahead n rest) ≡ Some z
    → (1 ≤ n) × TakesOne (suc n) (n - 1) (h ∷ a ∷ b ∷ rest) (drop 3 rest) z
two_at n h a b rest z t joins =
    let (x, xs, r, rs) = some_parts (read_act h a b) (read_acts n rest) t in
    let read : with_act (read_act h a b) (read_acts n rest) ≡ Some (x ∷ xs) = ap (λ (o : Option Act). with_act o (read_acts n rest)) r ∙ ap (with_act (Some x)) rs in
    let (y, ys, is, joined) = joined_two x xs z (sym (both_same h a b n rest x xs r rs) ∙ joins) in
    let later = next_of n rest y ys (rs ∙ ap (λ (l : List Act). Some l) is) in
    (later.0, (ap is_some later.1, ap (λ (o : Option (List Act)). or_none (option_map joined_acts o)) read ∙ joined ∙ ap (λ (o : Option (List Act)). z ∷ or_none (option_map joined_acts o)) (sym later.1)))

three : (ws : List ℕ) → 3 ≤ length ws → ws ≡ get_or ws 0 0 ∷ get_or ws 1 0 ∷ get_or ws 2 0 ∷ drop 3 ws
three (h ∷ a ∷ b ∷ ws) l = refl
three [] l = absurd (omega (arith, l))
three (h ∷ []) l = absurd (omega (arith, l))
three (h ∷ a ∷ []) l = absurd (omega (arith, l))

-- the words by their first three and the others
pub parted : (ws rest : List ℕ) (w : ℕ × ℕ × ℕ) → 3 ≤ length ws → w ≡ (get_or ws 0 0, get_or ws 1 0, get_or ws 2 0) → rest ≡ drop 3 ws → ws ≡ w.0 ∷ w.1 ∷ w.2 ∷ rest
parted ws rest w l e f = three ws l ∙ ap (λ (v : ℕ × ℕ × ℕ). v.0 ∷ v.1 ∷ v.2 ∷ drop 3 ws) (sym e) ∙ ap (λ (r : List ℕ). w.0 ∷ w.1 ∷ w.2 ∷ r) (sym f)

-- one act is taken, and the others are left
pub one_taken : (count : ℕ) (ws rest : List ℕ) (w : ℕ × ℕ × ℕ) (o : Option Act) (act : Act) → 0 < count → 3 ≤ length ws → w ≡ (get_or ws 0 0, get_or ws 1 0, get_or ws 2 0) → rest ≡ drop 3 ws
    → is_some (read_acts count ws) ≡ true → o ≡ both_of (src_of w.0 w.1 w.2) (dst_ahead (count - 1) rest) → o ≡ None → (is_some (read_act w.0 w.1 w.2) ≡ true → read_act w.0 w.1 w.2 ≡ Some act)
    → TakesOne count (count - 1) ws rest act
one_taken zero ws rest w o act p l e f t is alone told = absurd (omega (arith, p))
one_taken (suc n) ws rest w o act p l e f t is alone told =
    let parts : ws ≡ w.0 ∷ w.1 ∷ w.2 ∷ rest = parted ws rest w l e f in
    let less : n ≡ suc n - 1 = omega arith in
    let P : ℕ → List ℕ → Type 0 = λ m vs. TakesOne (suc n) m vs rest act in
    let whole : TakesOne (suc n) n (w.0 ∷ w.1 ∷ w.2 ∷ rest) rest act = one_at n w.0 w.1 w.2 rest act (ap (λ (vs : List ℕ). is_some (read_acts (suc n) vs)) (sym parts) ∙ t) (ap (λ (m : ℕ). both_of (src_of w.0 w.1 w.2) (dst_ahead m rest)) less ∙ sym is ∙ alone) told in
    subst (λ (vs : List ℕ). P (suc n - 1) vs) (sym parts) (subst (λ (m : ℕ). P m (w.0 ∷ w.1 ∷ w.2 ∷ rest)) less whole)

-- two are taken as one
pub two_taken : (count : ℕ) (ws rest behind : List ℕ) (w : ℕ × ℕ × ℕ) (o : Option Act) (z : Act) → 0 < count → 3 ≤ length ws → w ≡ (get_or ws 0 0, get_or ws 1 0, get_or ws 2 0) → rest ≡ drop 3 ws → behind ≡ drop 3 rest
    → is_some (read_acts count ws) ≡ true → o ≡ both_of (src_of w.0 w.1 w.2) (dst_ahead (count - 1) rest) → o ≡ Some z
    → (2 ≤ count) × TakesOne count (count - 2) ws behind z
two_taken zero ws rest behind w o z p l e f g t is joins = absurd (omega (arith, p))
two_taken (suc n) ws rest behind w o z p l e f g t is joins =
    let parts : ws ≡ w.0 ∷ w.1 ∷ w.2 ∷ rest = parted ws rest w l e f in
    let less : n ≡ suc n - 1 = omega arith in
    let fewer : n - 1 ≡ suc n - 2 = omega arith in
    let P : ℕ → List ℕ → List ℕ → Type 0 = λ m vs us. TakesOne (suc n) m vs us z in
    let whole = two_at n w.0 w.1 w.2 rest z (ap (λ (vs : List ℕ). is_some (read_acts (suc n) vs)) (sym parts) ∙ t) (ap (λ (m : ℕ). both_of (src_of w.0 w.1 w.2) (dst_ahead m rest)) less ∙ sym is ∙ joins) in
    (omega (arith, whole.0), subst (λ (us : List ℕ). P (suc n - 2) ws us) (sym g) (subst (λ (vs : List ℕ). P (suc n - 2) vs (drop 3 rest)) (sym parts) (subst (λ (m : ℕ). P m (w.0 ∷ w.1 ∷ w.2 ∷ rest) (drop 3 rest)) fewer whole.1)))

push_more : {A : Type 0} (old xs : List A) (x : A) → (old ++ x ∷ []) ++ xs ≡ old ++ x ∷ xs
push_more [] xs x = refl
push_more (y ∷ old) xs x = ap (λ l. y ∷ l) (push_more old xs x)

-- what was pushed, and then the others
pub pushed_on : {A : Type 0} (old pushed new xs ys : List A) (x : A) → pushed ≡ old ++ x ∷ [] → new ≡ pushed ++ xs → ys ≡ x ∷ xs → new ≡ old ++ ys
pushed_on old pushed new xs ys x e f g = f ∙ ap (λ l. l ++ xs) e ∙ push_more old xs x ∙ ap (λ l. old ++ l) (sym g)
