-- Rows whose keys rise give one answer.
use Rattle.std.proofs.Common.{◌≡◌, ◌<◌, ℕ, List, [], ◌∷◌, ◌++◌, true, drop, inl, inr, refl, ap, sym, ◌∙◌, subst, arith}
use Rattle.std.specs.Prelude.{IsSome, None, Some}
use Rattle.vsw_base.specs.declared.fate.Fate.{Fate}
use Rattle.vsw_base.specs.declared.flow.Crossing.{Crossing}
use Rattle.vsw_base.specs.declared.flow.Ufid.{Ufid}
use Rattle.vsw_base.specs.Frame.{Parts}
use Rattle.vsw_offload.proofs.Found.{never}
use Rattle.vsw_offload.proofs.Judged.{key_part}
use Rattle.vsw_offload.proofs.Said.{words_say_one}
use Rattle.vsw_offload.proofs.Sorted.{rise_split, rise_tail}
use Rattle.vsw_offload.specs.Answered.{IsAnswered, IsUnanswered, One, OneAnswer, SaysOne, bytes_by, fate_by}
use Rattle.vsw_offload.specs.Rows.{Rise, is_less, key_of}
use Rattle.vsw_rows.specs.Good.{Row}
use Rattle.vsw_rows.specs.Rows.{Says}
use Rattle.vsw_words.specs.Key.{key_words}

-- a row that comes before another has another key
before_other : (r s : List ℕ) → is_less (key_of r) (key_of s) ≡ true → key_of r ≡ key_of s → ⊥
before_other r s less same = never (key_of r) (key_of s) less same

heads : (r h : List ℕ) (b c : List (List ℕ)) → r ∷ b ≡ h ∷ c → r ≡ h
heads r h b c e = cc e

-- rows of one key are one
one_of_key : (f : List (List ℕ)) (r : List ℕ) (b g : List (List ℕ)) (s : List ℕ) (c : List (List ℕ)) → f ++ r ∷ b ≡ g ++ s ∷ c → Rise (f ++ r ∷ b) → key_of r ≡ key_of s → r ≡ s
one_of_key [] r b [] s c e rise same = heads r s b c e
one_of_key [] r b (h ∷ hs) s c e rise same =
    let others : Rise (h ∷ hs ++ s ∷ c) = subst Rise e rise in
    let before : is_less (key_of h) (key_of s) ≡ true = (rise_split (h ∷ hs) s c others).2.0 in
    absurd (before_other h s before (ap key_of (sym (heads r h b (hs ++ s ∷ c) e)) ∙ same))
one_of_key (h ∷ hs) r b [] s c e rise same =
    let before : is_less (key_of h) (key_of r) ≡ true = (rise_split (h ∷ hs) r b rise).2.0 in
    absurd (before_other h r before (ap key_of (heads h s (hs ++ r ∷ b) c e) ∙ sym same))
one_of_key (h ∷ hs) r b (i ∷ is) s c e rise same = one_of_key hs r b is s c (ap (drop 1) e) (rise_tail h (hs ++ r ∷ b) rise) same

-- so one row is of an identity
pub one_row : (rows : List (List ℕ)) (r s : Row) → Rise rows → SaysOne rows r → SaysOne rows s → r.id ≡ s.id → r ≡ s
one_row rows r s rise (One w f b e says) (One v g c i said) same =
    let keys : key_of w ≡ key_of v = key_part w r says ∙ (ap (λ (d : Ufid). key_words d.dir d.stack) same ∙ sym (key_part v s said)) in
    let words : w ≡ v = one_of_key f w b g v c (sym e ∙ i) (subst Rise e rise) keys in
    words_say_one w r s says (subst (λ t. Says t s) (sym words) said)

-- a packet isn't both answered and not
not_both : (rows : List (List ℕ)) (x : Crossing) (p : Parts) (fate : Fate) (bytes : List ℕ) → Rise rows → IsUnanswered rows x → IsAnswered rows x p fate bytes → ⊥
not_both rows x p fate bytes rise (inl control) a = control a.may.control
not_both rows x p fate bytes rise (inr (inl none)) a = none a.row a.says (sym a.may.id)
not_both rows x p fate bytes rise (inr (inr (r, says, id, late))) a =
    let same : r ≡ a.row = one_row rows r a.row rise says a.says (id ∙ a.may.id) in
    let until : a.row.until < x.moment = subst (λ (q : Row). q.until < x.moment) same late in
    omega (arith, until, a.may.moment)

no_fate : {A : Type 0} → IsSome {T = Fate} None → A
no_fate i = absurd (grind (arith, i))

pub one_answer : OneAnswer
one_answer rows x p None None bytes others rise a b = (refl, λ i. no_fate i)
one_answer rows x p None (Some f) bytes others rise a b = absurd (not_both rows x p f others rise a b)
one_answer rows x p (Some f) None bytes others rise a b = absurd (not_both rows x p f bytes rise b a)
one_answer rows x p (Some f) (Some g) bytes others rise a b =
    let same : a.row ≡ b.row = one_row rows a.row b.row rise a.says b.says (sym a.may.id ∙ b.may.id) in
    let fates : f ≡ g = a.fate_is ∙ (ap (λ (r : Row). fate_by r.acts p r.verdict) same ∙ sym b.fate_is) in
    (ap (λ (f : Fate). Some f) fates, λ i. a.bytes_are ∙ (ap (λ (r : Row). bytes_by r.acts p f) same ∙ (ap (bytes_by b.row.acts p) fates ∙ sym b.bytes_are)))
