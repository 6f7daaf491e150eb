-- Rows written part by part.
use Rattle.std.proofs.Common.{◌≡◌, ℕ, ◌-◌, List, [], ◌∷◌, ◌++◌, refl, sym, ◌∙◌, ap, arith, length, true, take, drop, length-append, zero, suc}
use Rattle.std.proofs.Math.Seq.{take-append_seam, drop-append_seam}
use Rattle.std.proofs.lemmas.List.{append-nil, drop_all}
use Rattle.std.proofs.lemmas.Grind.{common_steps}
use borrow.Rule.Slice.PartMut.{put_mid}
use Rattle.vsw_base.specs.declared.header.Header.TheVariants.{Ether, Ip, Vxlan}
use Rattle.vsw_base.specs.declared.fate.Verdict.{Verdict}
use Rattle.vsw_base.specs.declared.flow.Ufid.{Ufid}
use Rattle.vsw_transpose.specs.declared.act.Act.{Act}
use Rattle.vsw_transpose.specs.declared.act.Act.TheVariants.{Push, Pop, Modify, Ignore}
use Rattle.vsw_transpose.specs.Chain.{chain}
use Rattle.vsw_transpose.specs.Form.{is_form, pushed}
use Rattle.vsw_transpose.proofs.Encaps.{chained}
use Rattle.vsw_transpose.proofs.Kept.{form_parts}
use Rattle.vsw_words.specs.Key.{key_words}
use Rattle.vsw_words.specs.Row.{all_halves, body_words, row_words, verdict_word, last_words}
use Rattle.vsw_words.specs.Reading.{AreRanged, AreActsFit}

-- a front of k words is written over an old list, and then the rest
pub both_written : (k : ℕ) (old first last : List ℕ) → length first ≡ k → put_mid k (length (first ++ drop k old) - k) (first ++ drop k old) last ≡ first ++ last
both_written k old first last e =
    let whole : List ℕ = first ++ drop k old in
    let front : take k whole ≡ first = ap (λ (m : ℕ). take m whole) (sym e) ∙ take-append_seam first (drop k old) in
    let behind : drop k whole ≡ drop k old = ap (λ (m : ℕ). drop m whole) (sym e) ∙ drop-append_seam first (drop k old) in
    let none : drop (length whole - k) (drop k whole) ≡ [] = drop_all (length whole - k) (drop k whole) (omega (arith, e, length-append first (drop k old), ap (λ (l : List ℕ). length l) behind)) in
    ap (λ (l : List ℕ). take k whole ++ (last ++ l)) none ∙ ap (λ (l : List ℕ). take k whole ++ l) (append-nil last) ∙ ap (λ (l : List ℕ). l ++ last) front

pub body_is : (verdict : Verdict) (by : List Act) (until word time count : ℕ) (old first last : List ℕ) → first ≡ word ∷ time ∷ count ∷ [] → word ≡ verdict_word verdict → time ≡ until → count ≡ length (all_halves by) → last ≡ last_words verdict by
    → put_mid 3 (length (first ++ drop 3 old) - 3) (first ++ drop 3 old) last ≡ body_words verdict by until
unfolding body_words
body_is verdict by until word time count old first last e f h n g = both_written 3 old first last (ap (λ (l : List ℕ). length l) e) ∙ rw (e, f, h, n, g) refl

pub row_is : (id : Ufid) (verdict : Verdict) (by : List Act) (until : ℕ) (old key first last : List ℕ) → first ≡ key → key ≡ key_words id.dir id.stack → length key ≡ 16 → last ≡ body_words verdict by until
    → put_mid 16 (length (first ++ drop 16 old) - 16) (first ++ drop 16 old) last ≡ row_words id verdict by until
unfolding row_words
row_is id verdict by until old key first last e f l g = both_written 16 old first last (ap (λ (l : List ℕ). length l) e ∙ l) ∙ rw (e, f, g) refl

-- pushes that continue an encapsulation have fields in their ranges
chain_fits : (n : ℕ) (xs : List Act) → chain n (pushed xs) ≡ true → AreRanged xs → AreActsFit xs
chain_fits n [] t r = tt
chain_fits zero (Push (Ether d s k) ∷ xs) t r = (r.0, chain_fits 1 xs (grind (arith, common_steps)) r.1)
chain_fits (suc zero) (Push (Ip a b p q) ∷ xs) t r = (r.0, chain_fits 2 xs (grind (arith, common_steps)) r.1)
chain_fits (suc (suc n)) (Push (Vxlan v) ∷ xs) t r = (grind (arith, common_steps), chain_fits 0 xs (grind (arith, common_steps)) r.1)
chain_fits n (Pop ∷ xs) t r = (tt, chain_fits n xs t r.1)
chain_fits n (Modify c ∷ xs) t r = (r.0, chain_fits n xs t r.1)
chain_fits n (Ignore ∷ xs) t r = (tt, chain_fits n xs t r.1)
chain_fits n (Push h ∷ xs) t r = absurd (grind (arith, common_steps))

-- the pushes of a transposition are of whole encapsulations
pub form_chain : (xs : List Act) → is_form xs ≡ true → chain 0 (pushed xs) ≡ true
form_chain xs t = sym (chained (pushed xs)) ∙ (form_parts xs t).3

-- the acts of a transposition have their numbers in their ranges
pub acts_fit : (xs : List Act) → is_form xs ≡ true → AreRanged xs → AreActsFit xs
acts_fit xs t r = chain_fits 0 xs (form_chain xs t) r
