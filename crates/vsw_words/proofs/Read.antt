-- What stands in the words of a body.
use Rattle.std.proofs.Common.{◌≡◌, ℕ, ◌≤◌, List, refl, sym, ◌∙◌, ap, arith, length, drop, get_or, Option, Some, None}
use Rattle.std.specs.Prelude.{option_map}
use Rattle.vsw_base.specs.declared.fate.Verdict.{Verdict}
use Rattle.vsw_base.specs.declared.fate.Verdict.TheVariants.{Pass}
use Rattle.vsw_base.specs.declared.header.Header.{Header}
use Rattle.vsw_words.specs.Doing.{AreOf}
use Rattle.vsw_transpose.specs.Apply.{apply}
use Rattle.vsw_transpose.specs.declared.act.Act.{Act}
use Rattle.vsw_words.specs.Reading.{joined_acts, or_none, read_acts, read_joined, verdict_of}
use Rattle.vsw_words.specs.Row.{acts_words, all_halves, body_words, filled, last_words, verdict_word}
use Rattle.vsw_words.proofs.Acts.{acts_back, form_good}
use Rattle.vsw_words.proofs.Passes.{none_is, some_is, told_verdict}

-- the words of a body tell its verdict
verdict_told : (words : List ℕ) (v : Verdict) (by : List Act) (u : ℕ) → AreOf words v by u → verdict_of (get_or words 0 0) (get_or words 3 0) ≡ Some v
unfolding body_words
verdict_told words v by u is =
    ap (λ (ws : List ℕ). verdict_of (get_or ws 0 0) (get_or ws 3 0)) is.1 ∙ told_verdict (verdict_word v) u (length (all_halves by)) (get_or (last_words v by) 0 0) (last_words v by) v by u refl is.0 refl

-- a verdict that is read is this one, and some verdict is read
read_is : (words : List ℕ) (first dropper : ℕ) (o : Option Verdict) (v : Verdict) (by : List Act) (u : ℕ) → first ≡ get_or words 0 0 → dropper ≡ get_or words 3 0 → o ≡ verdict_of first dropper → AreOf words v by u → o ≡ Some v
read_is words first dropper o v by u f d e is = e ∙ ap (λ (n : ℕ). verdict_of n dropper) f ∙ ap (verdict_of (get_or words 0 0)) d ∙ verdict_told words v by u is

pub verdict_is : (words : List ℕ) (first dropper : ℕ) (o : Option Verdict) (w : Verdict) → first ≡ get_or words 0 0 → dropper ≡ get_or words 3 0 → o ≡ verdict_of first dropper → o ≡ Some w → (v : Verdict) (by : List Act) (u : ℕ) → AreOf words v by u → w ≡ v
verdict_is words first dropper o w f d e some v by u is = some_is w v (sym some ∙ read_is words first dropper o v by u f d e is)

pub verdict_there : (words : List ℕ) (first dropper : ℕ) (o : Option Verdict) → first ≡ get_or words 0 0 → dropper ≡ get_or words 3 0 → o ≡ verdict_of first dropper → o ≡ None → (v : Verdict) (by : List Act) (u : ℕ) → AreOf words v by u → ⊥
verdict_there words first dropper o f d e none v by u is = none_is v (sym none ∙ read_is words first dropper o v by u f d e is)

pub until_is : (words : List ℕ) (v : Verdict) (by : List Act) (u : ℕ) → AreOf words v by u → get_or words 1 0 ≡ u
unfolding body_words
until_is words v by u is = ap (λ (ws : List ℕ). get_or ws 1 0) is.1

-- the acts of a pass are read from its words
pub pass_read : (words : List ℕ) (by : List Act) (u : ℕ) → AreOf words Pass by u
    → (get_or words 2 0 ≤ 18) × (read_acts (get_or words 2 0) (drop 3 words) ≡ Some (all_halves by)) × (read_joined (get_or words 2 0) (drop 3 words) ≡ Some by)
unfolding body_words
pass_read words by u is =
    let acts : get_or words 2 0 ≡ length (all_halves by) = ap (λ (ws : List ℕ). get_or ws 2 0) is.1 in
    let last : drop 3 words ≡ last_words Pass by = ap (drop 3) is.1 in
    let hs : List Act = all_halves by in
    let back : read_acts (length hs) (filled 54 (acts_words hs)) ≡ Some hs = acts_back hs 54 (form_good by is.0.form is.0.acts) (omega (arith, is.0.few)) in
    let read : read_acts (get_or words 2 0) (drop 3 words) ≡ Some hs = ap (λ (n : ℕ). read_acts n (drop 3 words)) acts ∙ ap (read_acts (length hs)) last ∙ back in
    (omega (arith, acts, is.0.few), read, ap (option_map joined_acts) read ∙ ap (λ (xs : List Act). Some xs) is.0.apart)

-- what is done by the words of a pass is done by its acts
pub made_of : (words rest : List ℕ) (count : ℕ) (hs : List Header) (by : List Act) (u : ℕ) → count ≡ get_or words 2 0 → rest ≡ drop 3 words → AreOf words Pass by u → apply (or_none (read_joined count rest)) hs ≡ apply by hs
made_of words rest count hs by u c r is =
    ap (λ (n : ℕ). apply (or_none (read_joined n rest)) hs) c ∙ ap (λ (ws : List ℕ). apply (or_none (read_joined (get_or words 2 0) ws)) hs) r
    ∙ ap (λ (o : Option (List Act)). apply (or_none o) hs) (pass_read words by u is).2
