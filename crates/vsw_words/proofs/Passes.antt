-- Bodies read back from their words.
use Rattle.std.proofs.Common.{◌≡◌, ℕ, ◌+◌, ◌<◌, ◌/◌, ◌%◌, ◌^◌, ◌≤◌, ◌==◌, ◌&&◌, List, [], ◌∷◌, refl, sym, ◌∙◌, ap, subst, arith, length, true, false, Bool, Option, Some, None, is_some, get_or, drop, nat_lt, bit_or, zero, suc}
use Rattle.std.specs.Prelude.{option_map, replicate}
use Rattle.std.proofs.lemmas.Grind.{common_steps}
use Rattle.std.proofs.lemmas.List.{drop_more}
use Rattle.std.proofs.lemmas.Nat.{le_or_l, le_or_r}
use Rattle.vsw_transpose.specs.declared.act.Act.{Act}
use Rattle.vsw_base.specs.declared.packet.Dir.{Dir}
use Rattle.vsw_base.specs.declared.packet.Dir.TheVariants.{Out, In}
use Rattle.vsw_base.specs.declared.fate.Verdict.{Verdict}
use Rattle.vsw_base.specs.declared.fate.Verdict.TheVariants.{Pass, Rule, Default}
use Rattle.vsw_transpose.specs.Form.{is_form}
use Rattle.vsw_words.specs.Row.{acts_words, all_halves, filled, verdict_word, dropper_word, last_words, body_words, IsBare}
use Rattle.vsw_words.specs.Stage.{is_read, is_rest}
use Rattle.vsw_words.specs.declared.stage.Stage.TheVariants.{Pops}
use Rattle.vsw_words.specs.Reading.{or_none, are_zero, joined_acts, read_acts, read_joined, verdict_of, IsBody, IsVerdictFit, IsDropper, IsLast, IsTold}
use Rattle.vsw_words.proofs.Formed.{formed}
use Rattle.vsw_words.proofs.Acts.{acts_told, acts_back, acts_single, form_good, zeros_are}
use Rattle.vsw_words.proofs.Halves.{rest_joined, joined_fewer, joined_write, halves_joined}

-- the or of two numbers is 0 where both are
both_zero : (a b : ℕ) → (bit_or a b == 0) ≡ ((a == 0) && (b == 0))
both_zero zero zero = refl
both_zero (suc a) b = let h : suc a ≤ bit_or (suc a) b = le_or_l (suc a) b in grind (arith, common_steps, h)
both_zero zero (suc b) = let h : suc b ≤ bit_or zero (suc b) = le_or_r zero (suc b) in grind (arith, common_steps, h)

and_more : (a b c : Bool) → ((a && b) && c) ≡ (a && (b && c))
and_more true b c = refl
and_more false b c = refl

-- a further word goes into the or of those before it
pub zero_more : (all i : ℕ) (words : List ℕ) (t : Bool) → i < length words → ((all == 0) && are_zero (drop i words)) ≡ t → ((bit_or all (get_or words i 0) == 0) && are_zero (drop (i + 1) words)) ≡ t
zero_more all i words t h e = ap (λ (b : Bool). b && are_zero (drop (i + 1) words)) (both_zero all (get_or words i 0))
    ∙ and_more (all == 0) (get_or words i 0 == 0) (are_zero (drop (i + 1) words))
    ∙ ap (λ (l : List ℕ). (all == 0) && are_zero l) (sym (drop_more words i 0 h)) ∙ e

-- acts of a row that go on to a whole form are those of a transposition, joined
raw_form : (count : ℕ) (words : List ℕ) (raw : List Act) → count ≤ 18 → read_acts count words ≡ Some raw → is_rest Pops raw ≡ is_form (joined_acts raw)
raw_form count words raw few read =
    let long : count ≡ length raw = (acts_told count words raw read).0 in
    rest_joined raw Pops ∙ formed (joined_acts raw) (omega (arith, few, long, joined_fewer raw)) (joined_write raw (acts_single count words raw read))

-- where acts are read that go on to a whole form, they are those of a transposition
pub acts_are : (count : ℕ) (words : List ℕ) → count ≤ 18 → is_read Pops (read_acts count words) ≡ true
    → (is_some (read_acts count words) ≡ true) × (read_joined count words ≡ Some (or_none (read_joined count words))) × (is_form (or_none (read_joined count words)) ≡ true)
acts_are count words few whole = by (read_acts count words) refl whole
  where
    by : (o : Option (List Act)) → read_acts count words ≡ o → is_read Pops o ≡ true
        → (is_some o ≡ true) × (option_map joined_acts o ≡ Some (or_none (option_map joined_acts o))) × (is_form (or_none (option_map joined_acts o)) ≡ true)
    by None e w = absurd (grind (arith, common_steps))
    by (Some raw) e w = (refl, refl, sym (raw_form count words raw few e) ∙ w)

-- acts of a transposition are those that acts of a row were joined to
joined_of : (o : Option (List Act)) (xs : List Act) → option_map joined_acts o ≡ Some xs → (raw : List Act) × (o ≡ Some raw) × (joined_acts raw ≡ xs)
joined_of None xs e = absurd (grind (arith, common_steps))
joined_of (Some raw) xs e = (raw, refl, grind (arith, common_steps))

-- and the other way round
pub acts_read : (count : ℕ) (words : List ℕ) (xs : List Act) → read_joined count words ≡ Some xs → is_form xs ≡ true → count ≤ 18 → (is_read Pops (read_acts count words) ≡ true) × (or_none (read_joined count words) ≡ xs)
acts_read count words xs read form few =
    let (raw, is, joined) = joined_of (read_acts count words) xs read in
    (ap (is_read Pops) is ∙ raw_form count words raw few is ∙ ap is_form joined ∙ form, ap or_none read)

pub last_pass_told : (v : Verdict) (count : ℕ) (last : List ℕ) (by : List Act) → v ≡ Pass → length last ≡ 54 → read_joined count last ≡ Some by → is_form by ≡ true → IsLast v count last by
last_pass_told v count last by is long read form =
    let (raw, was, joined) = joined_of (read_acts count last) by read in
    let told = acts_told count last raw was in
    let again : all_halves by ≡ raw = ap all_halves (sym joined) ∙ halves_joined raw (acts_single count last raw was) in
    let are : last ≡ last_words Pass by = told.1 ∙ ap (λ (n : ℕ). filled n (acts_words raw)) long ∙ ap (λ (xs : List Act). filled 54 (acts_words xs)) (sym again) in
    let whole : IsLast Pass count last by = record { acts = told.0 ∙ ap (λ (xs : List Act). length xs) (sym again); are = are; form = form; bare = tt; apart = ap joined_acts again ∙ joined } in
    subst (λ w. IsLast w count last by) (sym is) whole

pub last_pass_read : (v : Verdict) (count : ℕ) (last : List ℕ) (xs : List Act) → v ≡ Pass → IsBody v xs → count ≡ length (all_halves xs) → last ≡ last_words v xs
    → (is_some (read_acts count last) ≡ true) × (read_joined count last ≡ Some xs) × (is_form xs ≡ true) × (count ≤ 18)
last_pass_read v count last xs is body acts are =
    let hs : List Act = all_halves xs in
    let words : last ≡ filled 54 (acts_words hs) = are ∙ ap (λ (w : Verdict). last_words w xs) is in
    let back : read_acts (length hs) (filled 54 (acts_words hs)) ≡ Some hs = acts_back hs 54 (form_good xs body.form body.acts) (omega (arith, body.few)) in
    let read : read_acts count last ≡ Some hs = rw (acts, words) back in
    (ap is_some read, ap (option_map joined_acts) read ∙ ap (λ (ys : List Act). Some ys) body.apart, body.form, omega (arith, body.few, acts))

-- the verdict drops
abbrev pub IsDrop : Verdict → Type 0
IsDrop Pass = ⊥
IsDrop v = Unit {0}

head_zero : (w : ℕ) (last : List ℕ) → length last ≡ 54 → are_zero (drop 1 last) ≡ true → get_or last 0 0 ≡ w → last ≡ w ∷ replicate 53 0
head_zero w [] long none is = absurd (omega (arith, long))
head_zero w (x ∷ xs) long none is =
    let n : length xs ≡ 53 = omega (arith, long) in
    let e : xs ≡ replicate 53 0 = zeros_are xs none ∙ ap (λ (n : ℕ). replicate n 0) n in
    rw (is, e) refl

bare_last : (v : Verdict) (last : List ℕ) → IsDrop v → last ≡ dropper_word v ∷ replicate 53 0 → IsLast v 0 last []
bare_last Pass last d e = absurd d
bare_last (Rule c l g r) last d e = record { acts = refl; are = e; form = refl; bare = refl; apart = refl }
bare_last (Default c l dir) last d e = record { acts = refl; are = e; form = refl; bare = refl; apart = refl }

dropper_is : (v : Verdict) (n : ℕ) → IsDrop v → IsDropper v n → n ≡ dropper_word v
dropper_is Pass n d e = absurd d
dropper_is (Rule c l g r) n d e = e
dropper_is (Default c l dir) n d e = e

both_true : (a b : Bool) → (a && b) ≡ true → (a ≡ true) × (b ≡ true)
both_true true b t = (refl, t)
both_true false b t = absurd (grind (arith, common_steps))

zero_of : (n : ℕ) → (n == 0) ≡ true → n ≡ 0
zero_of n t = grind (arith, common_steps)

pub last_drop_told : (v : Verdict) (count : ℕ) (last : List ℕ) (by : List Act) (t : Bool) → IsDrop v → length last ≡ 54 → t ≡ ((count == 0) && are_zero (drop 1 last)) → by ≡ [] → t ≡ true → IsDropper v (get_or last 0 0) → IsLast v count last by
last_drop_told v count last by t drops long is bare done dropper =
    let both = both_true (count == 0) (are_zero (drop 1 last)) (sym is ∙ done) in
    let none : count ≡ 0 = zero_of count both.0 in
    rw (none, bare) (bare_last v last drops (head_zero (dropper_word v) last long both.1 (dropper_is v (get_or last 0 0) drops dropper)))

drop_words : (v : Verdict) (xs : List Act) → IsDrop v → IsBare v xs → (xs ≡ []) × (last_words v xs ≡ dropper_word v ∷ replicate 53 0)
drop_words Pass xs d b = absurd d
drop_words (Rule c l g r) xs d b = (b, refl)
drop_words (Default c l dir) xs d b = (b, refl)

pub last_drop_back : (v : Verdict) (count : ℕ) (last : List ℕ) (by xs : List Act) (t : Bool) → IsDrop v → t ≡ ((count == 0) && are_zero (drop 1 last)) → by ≡ [] → IsBody v xs → count ≡ length (all_halves xs) → last ≡ last_words v xs → (t ≡ true) × (by ≡ xs)
last_drop_back v count last by xs t drops is bare body acts are =
    let k = drop_words v xs drops body.bare in
    let none : count ≡ 0 = acts ∙ ap (λ (l : List Act). length (all_halves l)) k.0 in
    let words : last ≡ dropper_word v ∷ replicate 53 0 = are ∙ k.1 in
    (is ∙ rw (none, words) refl, bare ∙ sym k.0)

pub drop_rule : (v : Verdict) (c l g r : ℕ) → v ≡ Rule c l g r → IsDrop v
drop_rule v c l g r e = subst IsDrop (sym e) tt

pub drop_default : (v : Verdict) (c l : ℕ) (dir : Dir) → v ≡ Default c l dir → IsDrop v
drop_default v c l dir e = subst IsDrop (sym e) tt

parts : (word until count : ℕ) (last : List ℕ) (v : Verdict) (by : List Act) (u : ℕ) → word ∷ until ∷ count ∷ last ≡ body_words v by u → (word ≡ verdict_word v) × (until ≡ u) × (count ≡ length (all_halves by)) × (last ≡ last_words v by)
unfolding body_words
parts word until count last v by u e = (ap (λ (l : List ℕ). get_or l 0 0) e, ap (λ (l : List ℕ). get_or l 1 0) e, ap (λ (l : List ℕ). get_or l 2 0) e, ap (drop 3) e)

-- where words of a body stand, the word of who drops does
dropper_of : (v : Verdict) (by : List Act) → IsDropper v (get_or (last_words v by) 0 0)
dropper_of Pass by = tt
dropper_of (Rule c l g r) by = refl
dropper_of (Default c l dir) by = refl

-- a verdict is read back from its word and the word of who drops
verdict_back : (v : Verdict) (n : ℕ) → IsVerdictFit v → IsDropper v n → verdict_of (verdict_word v) n ≡ Some v
verdict_back Pass n fit e = refl
verdict_back (Rule c l g r) n fit e =
    let a : n % 65536 ≡ c = omega (arith, e, fit.0) in
    let b : n / 2 ^ 16 % 65536 ≡ l = omega (arith, e, fit.0, fit.1) in
    let d : n / 2 ^ 32 % 65536 ≡ g = omega (arith, e, fit.0, fit.1, fit.2) in
    let f : n / 2 ^ 48 % 65536 ≡ r = omega (arith, e, fit.0, fit.1, fit.2, fit.3) in
    rw (a, b, d, f) refl
verdict_back (Default c l Out) n fit e =
    let a : n % 65536 ≡ c = omega (arith, e, fit.0) in
    let b : n / 2 ^ 16 % 65536 ≡ l = omega (arith, e, fit.0, fit.1) in
    let k : nat_lt n (2 ^ 32) ≡ true = grind (arith, common_steps, e, fit.0, fit.1) in
    rw (k, a, b) refl
verdict_back (Default c l In) n fit e =
    let a : n % 65536 ≡ c = omega (arith, e, fit.0) in
    let b : n / 2 ^ 16 % 65536 ≡ l = omega (arith, e, fit.0, fit.1) in
    let k : nat_lt n (2 ^ 32) ≡ true = grind (arith, common_steps, e, fit.0, fit.1) in
    rw (k, a, b) refl

-- the words of a body tell its verdict
pub told_verdict : (word until count first : ℕ) (last : List ℕ) (v : Verdict) (by : List Act) (u : ℕ) → first ≡ get_or last 0 0 → IsBody v by → word ∷ until ∷ count ∷ last ≡ body_words v by u → verdict_of word first ≡ Some v
told_verdict word until count first last v by u f body e =
    let p = parts word until count last v by u e in
    let dropper : IsDropper v first = subst (IsDropper v) (sym (f ∙ ap (λ (l : List ℕ). get_or l 0 0) p.3)) (dropper_of v by) in
    rw p.0 (verdict_back v first body.numbers dropper)

pub none_is : (v : Verdict) → ◌≡◌ {A = Option Verdict} None (Some v) → ⊥
none_is v h = grind (arith, common_steps)

pub none_back : (word until count first : ℕ) (last : List ℕ) (o : Option Verdict) → first ≡ get_or last 0 0 → o ≡ verdict_of word first → o ≡ None → (v : Verdict) (by : List Act) (u : ℕ) → IsBody v by → word ∷ until ∷ count ∷ last ≡ body_words v by u → ⊥
none_back word until count first last o f is none v by u body e = none_is v (sym none ∙ is ∙ told_verdict word until count first last v by u f body e)

pub some_is : (v w : Verdict) → ◌≡◌ {A = Option Verdict} (Some v) (Some w) → v ≡ w
some_is v w h = grind (arith, common_steps)

pub some_told : (word until count first micros : ℕ) (last : List ℕ) (w : Verdict) (by : List Act) → first ≡ get_or last 0 0 → micros ≡ until → (word ≡ verdict_word w) × IsDropper w first → (IsDropper w (get_or last 0 0) → IsLast w count last by) → IsTold (word ∷ until ∷ count ∷ last) w by micros
unfolding body_words
some_told word until count first micros last w by f m is told =
    let whole : IsLast w count last by = told (subst (IsDropper w) f is.1) in
    let words : word ∷ until ∷ count ∷ last ≡ body_words w by micros = rw (is.0, m, whole.acts, sym whole.are) refl in
    record { are = words; form = whole.form; bare = whole.bare; apart = whole.apart }

pub some_back : (word until count first micros : ℕ) (last : List ℕ) (o : Option Verdict) (w : Verdict) (by : List Act) (t : Bool) → first ≡ get_or last 0 0 → micros ≡ until → o ≡ verdict_of word first → o ≡ Some w
    → ((xs : List Act) → IsBody w xs → count ≡ length (all_halves xs) → last ≡ last_words w xs → (t ≡ true) × (by ≡ xs))
    → (v : Verdict) (xs : List Act) (u : ℕ) → IsBody v xs → word ∷ until ∷ count ∷ last ≡ body_words v xs u → (t ≡ true) × (w ≡ v) × (by ≡ xs) × (micros ≡ u)
some_back word until count first micros last o w by t f m is some back v xs u body e =
    let p = parts word until count last v xs u e in
    let same : w ≡ v = some_is w v (sym some ∙ is ∙ told_verdict word until count first last v xs u f body e) in
    let own : IsBody w xs = subst (λ (z : Verdict). IsBody z xs) (sym same) body in
    let b = back xs own p.2 (p.3 ∙ ap (λ (z : Verdict). last_words z xs) (sym same)) in
    (b.0, same, b.1, m ∙ p.1)

-- what stands behind the verdict in the words of a body
pub some_taken : (word until count first : ℕ) (last : List ℕ) (o : Option Verdict) (w : Verdict) → first ≡ get_or last 0 0 → o ≡ verdict_of word first → o ≡ Some w → (v : Verdict) (xs : List Act) (u : ℕ) → IsBody v xs → word ∷ until ∷ count ∷ last ≡ body_words v xs u
    → (ys : List Act) × IsBody w ys × (count ≡ length (all_halves ys)) × (last ≡ last_words w ys)
some_taken word until count first last o w f is some v xs u body e =
    let p = parts word until count last v xs u e in
    let same : w ≡ v = some_is w v (sym some ∙ is ∙ told_verdict word until count first last v xs u f body e) in
    (xs, subst (λ (z : Verdict). IsBody z xs) (sym same) body, p.2, p.3 ∙ ap (λ (z : Verdict). last_words z xs) (sym same))
