-- Words say one row.
use Rattle.std.proofs.Common.{◌≡◌, ◌<◌, ◌^◌, ℕ, List, [], ◌∷◌, ◌++◌, length, drop, ◌==◌, false, true≢false, eq-eqb, refl, ap, sym, ◌∙◌, arith}
use Rattle.std.proofs.Math.Seq.{drop-append_seam}
use Rattle.std.specs.Prelude.{Some}
use Rattle.vsw_base.specs.declared.fate.Verdict.{Verdict}
use Rattle.vsw_base.specs.declared.fate.Verdict.TheVariants.{Pass, Rule, Default}
use Rattle.vsw_base.specs.declared.packet.Dir.TheVariants.{Out, In}
use Rattle.vsw_rows.specs.GoodRows.{words_of}
use Rattle.vsw_rows.proofs.Answers.{fronts, key_length, words_are}
use Rattle.vsw_transpose.specs.declared.act.Act.{Act}
use Rattle.vsw_words.specs.Key.{joined, key_words}
use Rattle.vsw_words.specs.Reading.{IsBody, joined_acts, read_acts}
use Rattle.vsw_words.specs.Row.{acts_words, all_halves, body_words, filled, four_bounds}
use Rattle.vsw_words.proofs.Acts.{acts_back, form_good}
use Rattle.vsw_words.proofs.Decoded.{apart}
use Rattle.vsw_words.proofs.Fields.{split_joined}
use Rattle.vsw_words.specs.Id.{split}
use Rattle.vsw_offload.specs.Answered.{WordsSayOne}

rests : (ks ls ms ns : List ℕ) → length ks ≡ 16 → length ms ≡ 16 → ks ++ ls ≡ ms ++ ns → ls ≡ ns
rests ks ls ms ns a c e = sym (drop-append_seam ks ls) ∙ ap (λ n. drop n (ks ++ ls)) a ∙ ap (drop 16) e ∙ ap (λ n. drop n (ms ++ ns)) (sym c) ∙ drop-append_seam ms ns

-- acts that fill the same words are the same
same_acts : (xs ys : List Act) (v w : Verdict) → IsBody v xs → IsBody w ys → length (all_halves xs) ≡ length (all_halves ys) → filled 54 (acts_words (all_halves xs)) ≡ filled 54 (acts_words (all_halves ys)) → xs ≡ ys
same_acts xs ys v w a b n e =
    let mine : read_acts (length (all_halves xs)) (filled 54 (acts_words (all_halves xs))) ≡ Some (all_halves xs) = acts_back (all_halves xs) 54 (form_good xs a.form a.acts) (omega (arith, a.few)) in
    let theirs : read_acts (length (all_halves ys)) (filled 54 (acts_words (all_halves ys))) ≡ Some (all_halves ys) = acts_back (all_halves ys) 54 (form_good ys b.form b.acts) (omega (arith, b.few)) in
    let both : Some (all_halves xs) ≡ Some (all_halves ys) = sym mine ∙ (ap (λ m. read_acts m (filled 54 (acts_words (all_halves xs)))) n ∙ (ap (read_acts (length (all_halves ys))) e ∙ theirs)) in
    let halves : all_halves xs ≡ all_halves ys = cc both in
    sym a.apart ∙ (ap joined_acts halves ∙ b.apart)

-- numbers below their bounds are those of the joined word
same_four : (a b c d e f g h : ℕ) → a < 2 ^ 16 → b < 2 ^ 16 → c < 2 ^ 16 → d < 2 ^ 16 → e < 2 ^ 16 → f < 2 ^ 16 → g < 2 ^ 16 → h < 2 ^ 16
    → joined four_bounds (a ∷ b ∷ c ∷ d ∷ []) ≡ joined four_bounds (e ∷ f ∷ g ∷ h ∷ []) → (a ≡ e) × (b ≡ f) × (c ≡ g) × (d ≡ h)
same_four a b c d e f g h p q r s t u v w is =
    let all : a ∷ b ∷ c ∷ d ∷ [] ≡ e ∷ f ∷ g ∷ h ∷ [] = sym (split_joined four_bounds (a ∷ b ∷ c ∷ d ∷ []) (p, (q, (r, (s, tt))))) ∙ (ap (split four_bounds) is ∙ split_joined four_bounds (e ∷ f ∷ g ∷ h ∷ []) (t, (u, (v, (w, tt))))) in
    (cc all, cc all, cc all, cc all)

rule_same : (a b c d e f g h : ℕ) → (a ≡ e) × (b ≡ f) × (c ≡ g) × (d ≡ h) → Rule a b c d ≡ Rule e f g h
rule_same a b c d e f g h s i = Rule (s.0 i) (s.1 i) (s.2 i) (s.3 i)

zero_small : 0 < 2 ^ 16
zero_small = omega arith

heads : (a b : ℕ) → a ≡ b → (a == b) ≡ false → ⊥
heads a b e f = true≢false (sym (eq-eqb a b e) ∙ f)

said : (v w : Verdict) (xs ys : List Act) (m n : ℕ) → IsBody v xs → IsBody w ys → body_words v xs m ≡ body_words w ys n → (v ≡ w) × (xs ≡ ys) × (m ≡ n)
unfolding body_words
said Pass Pass xs ys m n a b e = (refl, same_acts xs ys Pass Pass a b (cc e) (cc e), cc e)
said (Rule c l g r) (Rule c' l' g' r') xs ys m n a b e = (rule_same c l g r c' l' g' r' (same_four c l g r c' l' g' r' a.numbers.0 a.numbers.1 a.numbers.2 a.numbers.3 b.numbers.0 b.numbers.1 b.numbers.2 b.numbers.3 (cc e)), a.bare ∙ sym b.bare, cc e)
said (Default c l Out) (Default c' l' Out) xs ys m n a b e = (let s = same_four c l 0 0 c' l' 0 0 a.numbers.0 a.numbers.1 zero_small zero_small b.numbers.0 b.numbers.1 zero_small zero_small (cc e) in (λ i. Default (s.0 i) (s.1 i) Out), a.bare ∙ sym b.bare, cc e)
said (Default c l In) (Default c' l' In) xs ys m n a b e = (let s = same_four c l 0 0 c' l' 0 0 a.numbers.0 a.numbers.1 zero_small zero_small b.numbers.0 b.numbers.1 zero_small zero_small (cc e) in (λ i. Default (s.0 i) (s.1 i) In), a.bare ∙ sym b.bare, cc e)
said Pass (Rule c l g r) xs ys m n a b e = absurd (heads 0 1 (cc e) refl)
said Pass (Default c l Out) xs ys m n a b e = absurd (heads 0 2 (cc e) refl)
said Pass (Default c l In) xs ys m n a b e = absurd (heads 0 3 (cc e) refl)
said (Rule c l g r) Pass xs ys m n a b e = absurd (heads 1 0 (cc e) refl)
said (Rule c l g r) (Default d k Out) xs ys m n a b e = absurd (heads 1 2 (cc e) refl)
said (Rule c l g r) (Default d k In) xs ys m n a b e = absurd (heads 1 3 (cc e) refl)
said (Default c l Out) Pass xs ys m n a b e = absurd (heads 2 0 (cc e) refl)
said (Default c l Out) (Rule d k g r) xs ys m n a b e = absurd (heads 2 1 (cc e) refl)
said (Default c l Out) (Default d k In) xs ys m n a b e = absurd (heads 2 3 (cc e) refl)
said (Default c l In) Pass xs ys m n a b e = absurd (heads 3 0 (cc e) refl)
said (Default c l In) (Rule d k g r) xs ys m n a b e = absurd (heads 3 1 (cc e) refl)
said (Default c l In) (Default d k Out) xs ys m n a b e = absurd (heads 3 2 (cc e) refl)

pub words_say_one : WordsSayOne
words_say_one words r s p q =
    let both : words_of r ≡ words_of s = sym p.words_is ∙ q.words_is in
    let all : key_words r.id.dir r.id.stack ++ body_words r.verdict r.acts r.until ≡ key_words s.id.dir s.id.stack ++ body_words s.verdict s.acts s.until = sym (words_are r) ∙ (both ∙ words_are s) in
    let key = fronts (key_words r.id.dir r.id.stack) (body_words r.verdict r.acts r.until) (key_words s.id.dir s.id.stack) (body_words s.verdict s.acts s.until) (key_length r.id.dir r.id.stack) (key_length s.id.dir s.id.stack) all in
    let body = rests (key_words r.id.dir r.id.stack) (body_words r.verdict r.acts r.until) (key_words s.id.dir s.id.stack) (body_words s.verdict s.acts s.until) (key_length r.id.dir r.id.stack) (key_length s.id.dir s.id.stack) all in
    let id : r.id ≡ s.id = apart r.id s.id p.id q.id key in
    let rest = said r.verdict s.verdict r.acts s.acts r.until s.until p.body q.body body in
    (λ i. record { id = id i; verdict = rest.0 i; acts = rest.1 i; until = rest.2 i })
