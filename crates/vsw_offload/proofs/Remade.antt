-- Headers that the acts of rows make, one after the other.
use Rattle.std.proofs.Common.{◌≡◌, ◌<◌, ◌-◌, ◌+◌, ℕ, zero, suc, List, [], ◌∷◌, ◌++◌, Bool, true, false, true≢false, not, refl, take, drop, length, length-append, get_or, Result, Ok, Err, ap, subst, sym, ◌∙◌, arith}
use Rattle.std.specs.Prelude.{None, OnOk, Option, Some}
use Rattle.std.specs.Result.{is_err}
use Rattle.vsw_base.specs.declared.fate.Verdict.{Verdict}
use Rattle.vsw_base.specs.declared.fate.Verdict.TheVariants.{Pass}
use Rattle.vsw_base.specs.declared.flow.Ufid.{Ufid}
use Rattle.vsw_base.specs.declared.header.Header.{Header}
use Rattle.vsw_offload.proofs.Judged.{body_part, key_part}
use Rattle.vsw_offload.specs.Private.Making.{ArePlaces, IsEdited, IsMadeOf, IsPlaceOf, Stay}
use Rattle.vsw_offload.specs.Rows.{IsRow, key_of}
use Rattle.vsw_rows.specs.Good.{Row}
use Rattle.vsw_transpose.specs.Apply.{apply}
use Rattle.vsw_transpose.specs.Fits as fit
use Rattle.vsw_words.specs.Doing.{AreOf}
use Rattle.vsw_words.specs.Key.{key_words}
use Rattle.vsw_words.specs.Law.{IsId}

-- the last 57 of a row's words
pub body_at : (words body : List ℕ) → length words ≡ 73 → body ≡ drop (length words - 57) words → body ≡ drop 16 words
body_at words body long same = let sixteen : length words - 57 ≡ 16 = omega (arith, long) in same ∙ ap (λ n. drop n words) sixteen

pub body_said : (words body : List ℕ) (r : IsRow words) → body ≡ drop (length words - 57) words → AreOf body r.row.verdict r.row.acts r.row.until
body_said words body r same = (r.says.body, body_at words body r.long same ∙ body_part words r.row r.says)

-- what a pass needs whose headers are made
pub needs : (words key body : List ℕ) (r : IsRow words) → key ≡ take 16 words → body ≡ drop (length words - 57) words → Pass ≡ r.row.verdict
    → (s : Row) × IsId s.id × (key ≡ key_words s.id.dir s.id.stack) × AreOf body Pass s.acts s.until × (fit.fits s.acts s.id.stack ≡ true)
needs words key body r front back pass =
    (r.row, r.says.id, front ∙ key_part words r.row r.says, subst (λ (v : Verdict). AreOf body v r.row.acts r.row.until) (sym pass) (body_said words body r back), r.fits (sym pass))

-- ---- places of rows

-- one is pushed
pushed : (P : ℕ → Option ℕ → Type 0) → ((n : ℕ) → P n None) → (ps : List (Option ℕ)) (p : Option ℕ) → ((n : ℕ) → P n (get_or ps n None)) → P (length ps) p → (n : ℕ) → P n (get_or (ps ++ p ∷ []) n None)
pushed P none [] p all one zero = one
pushed P none [] p all one (suc n) = none (suc n)
pushed P none (q ∷ ps) p all one zero = all zero
pushed P none (q ∷ ps) p all one (suc n) = pushed (λ m o. P (suc m) o) (λ m. none (suc m)) ps p (λ m. all (suc m)) one n

-- places stay right while headers stay
still : (words : List ℕ) (old new : List (List Header)) (p : Option ℕ) → Stay old new → IsPlaceOf words old p → IsPlaceOf words new p
still words old new None stay is = tt
still words old new (Some p) stay is = let (within, same) = stay p is.0 in (within, subst (IsEdited words) (sym same) is.1)

pub more_places : (rows : List (List ℕ)) (places grown : List (Option ℕ)) (old new : List (List Header)) (p : Option ℕ) → ArePlaces rows places old → Stay old new → IsPlaceOf (get_or rows (length places) []) new p → grown ≡ places ++ p ∷ [] → ArePlaces rows grown new
more_places rows places grown old new p are stay is same =
    subst (λ gs. ArePlaces rows gs new) (sym same) (pushed (λ n o. IsPlaceOf (get_or rows n []) new o) (λ n. tt) places p (λ n. still (get_or rows n []) old new (get_or places n None) stay (are n)) is)

-- headers that are put behind others stand there
put_last : (hs : List (List Header)) (h : List Header) → (length hs < length (hs ++ h ∷ [])) × (get_or (hs ++ h ∷ []) (length hs) [] ≡ h)
put_last [] h = (omega arith, refl)
put_last (x ∷ hs) h = let (below, same) = put_last hs h in (omega (arith, below), same)

pub placed : (old new : List (List Header)) (h : List Header) (place : ℕ) → new ≡ old ++ h ∷ [] → place ≡ length old → (place < length new) × (get_or new place [] ≡ h)
placed old new h place grown at = subst (λ hs. (place < length hs) × (get_or hs place [] ≡ h)) (sym grown) (subst (λ n. (n < length (old ++ h ∷ [])) × (get_or (old ++ h ∷ []) n [] ≡ h)) (sym at) (put_last old h))

-- ---- headers

-- what is made of a key's headers is made of the frame's
pub made_for : (words : List ℕ) (hs : List Header) (id : Ufid) (m : List Header) → IsEdited words m → IsId id → key_of words ≡ key_words id.dir id.stack → id.stack ≡ hs → IsMadeOf (drop 16 words) m hs
made_for words hs id m is of key same by until are = is id by until of key are ∙ ap (λ (g : List Header). apply by g) same

pub not_edited : (b : Bool) → not b ≡ true → b ≡ false
not_edited true e = absurd (true≢false (sym e))
not_edited false e = refl

pub ok_of : {A E : Type 0} (r : Result A E) (P : Type 0) → false ≡ is_err r → OnOk r P → P
ok_of (Ok x) P e h = h
ok_of (Err y) P e h = absurd (true≢false (sym e))

-- there is one more
pub one_longer : {A : Type 0} (xs ys : List A) (x : A) (n : ℕ) → ys ≡ xs ++ x ∷ [] → length xs ≡ n → length ys ≡ n + 1
one_longer xs ys x n e l = omega (arith, l, ap length e, length-append xs (x ∷ []))
