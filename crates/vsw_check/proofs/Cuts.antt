-- Bytes cut at their first line feed, and a line's part in the search for the first bad one.
use Rattle.std.proofs.Common.{◌≡◌, ℕ, ◌+◌, ◌-◌, ◌<◌, ◌==◌, suc, List, ◌∷◌, length, true, Some, None, sym, ap, subst, ◌∙◌, arith, take, drop, length-drop}
use Rattle.std.proofs.lemmas.List.{take_all}
use Rattle.std.proofs.lemmas.List.Quantifiers.{position-Some}
use Rattle.std.proofs.lemmas.List.Sums.{fails_before_first}
use Rattle.std.proofs.lemmas.List.Splits.{slice_split_first, slice_split_none}
use Rattle.std.specs.Prelude.{codes, bytes_eq, if◌then◌else◌}
use Rattle.std.specs.List.{position, position_or_len, slice_split, before_first, after_first}
use Rattle.vsw_policy.proofs.Firsts.{place-some, place-none}
use Rattle.vsw_check.specs.declared.place.Place.{Place}
use Rattle.vsw_check.specs.declared.place.Place.TheVariants.{AtFirst}
use Rattle.vsw_check.specs.Private.Machine.{next, last_bad, bad_after, bad_line, bad_part, first_bad}
use Rattle.vsw_check.specs.Private.Parts.{IsCut}
use Rattle.vsw_check.proofs.Bytes.{some_part}

abbrev behind : ℕ → List ℕ → List ℕ
behind n bs = take (length bs - (n + 1)) (drop (n + 1) bs)

behind_is : (n : ℕ) (bs : List ℕ) → n < length bs → behind n bs ≡ drop (n + 1) bs
behind_is n bs lt = take_all (length bs - (n + 1)) (drop (n + 1) bs) (omega (arith, length-drop (n + 1) bs))

pub cut_some : (s : ℕ) (bs : List ℕ) (n : ℕ) → position (λ b. b == s) bs ≡ Some n → IsCut s bs (Some (take n bs, behind n bs))
cut_some s bs n e =
    let here : n ≡ position_or_len (λ b. b == s) bs = place-some (λ b. b == s) bs n e in
    let lt : n < length bs = (position-Some (λ b. b == s) bs n 0 e).0 in
    let parts : slice_split (λ b. b == s) bs ≡ before_first (λ b. b == s) bs ∷ slice_split (λ b. b == s) (after_first (λ b. b == s) bs) = slice_split_first (λ b. b == s) bs 0 (subst (λ k. k < length bs) here lt) in
    let rest = behind_is n bs lt in
    (parts ∙ (ap (λ k. take k bs ∷ slice_split (λ b. b == s) (drop (k + 1) bs)) (sym here) ∙ ap (λ r. take n bs ∷ slice_split (λ b. b == s) r) (sym rest)), subst (λ r. length r < length bs) (sym rest) (omega (arith, lt, length-drop (n + 1) bs)))

pub cut_none : (s : ℕ) (bs : List ℕ) → position (λ b. b == s) bs ≡ None → IsCut s bs None
cut_none s bs e = slice_split_none (λ b. b == s) bs (λ k d lt. fails_before_first (λ b. b == s) bs k d (subst (λ n. k < n) (place-none (λ b. b == s) bs e) lt))

-- ---- line by line

bad_goes : (s : Place) (n : ℕ) (line more : List ℕ) → bad_line s n (line ∷ slice_split (λ b. b == 10) more) ≡ bad_after n (next s line) (λ r. bad_line r (suc n) (slice_split (λ b. b == 10) more))
bad_goes s n line more =
    let (m, ms, p) = some_part more in
    ap (λ ts. bad_line s n (line ∷ ts)) p ∙ ap (λ ts. bad_after n (next s line) (λ r. bad_line r (suc n) ts)) (sym p)

pub goes_on : (s r : Place) (n : ℕ) (bytes line more : List ℕ) → IsCut 10 bytes (Some (line, more)) → Some r ≡ next s line → bad_line s n (slice_split (λ b. b == 10) bytes) ≡ bad_line r (n + 1) (slice_split (λ b. b == 10) more)
goes_on s r n bytes line more c e =
    ap (bad_line s n) c.0 ∙ (bad_goes s n line more ∙ (ap (λ o. bad_after n o (λ r. bad_line r (suc n) (slice_split (λ b. b == 10) more))) (sym e)
    ∙ ap (λ k. bad_line r k (slice_split (λ b. b == 10) more)) one)) where
      one : suc n ≡ n + 1
      one = omega arith

pub stops : (s : Place) (n : ℕ) (bytes line more : List ℕ) → IsCut 10 bytes (Some (line, more)) → None ≡ next s line → bad_line s n (slice_split (λ b. b == 10) bytes) ≡ Some n
stops s n bytes line more c e =
    ap (bad_line s n) c.0 ∙ (bad_goes s n line more ∙ ap (λ o. bad_after n o (λ r. bad_line r (suc n) (slice_split (λ b. b == 10) more))) (sym e))

pub ends_here : (s : Place) (n : ℕ) (bytes : List ℕ) → IsCut 10 bytes None → bad_line s n (slice_split (λ b. b == 10) bytes) ≡ last_bad s n bytes
ends_here s n bytes c = ap (bad_line s n) c

-- behind the head line
pub head_goes : (bytes head rest : List ℕ) → IsCut 10 bytes (Some (head, rest)) → bytes_eq head (codes "vsw report 1") ≡ true → first_bad bytes ≡ bad_line AtFirst 2 (slice_split (λ b. b == 10) rest)
head_goes bytes head rest c e =
    let (m, ms, p) = some_part rest in
    ap bad_part c.0 ∙ (ap (λ ts. bad_part (head ∷ ts)) p ∙ (ap (λ b. if b then bad_line AtFirst 2 (m ∷ ms) else Some 1) e ∙ ap (bad_line AtFirst 2) (sym p)))
