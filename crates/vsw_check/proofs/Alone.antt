-- A bad line is the one that is found, so there is one at most; and a report has none.
use Rattle.std.proofs.Common.{◌≡◌, ◌⊎◌, inl, inr, ℕ, suc, ◌+◌, ◌==◌, ◌&&◌, not, Bool, true, false, List, [], ◌∷◌, ◌++◌, length, Option, Some, None, refl, sym, ap, ap₂, ◌∙◌, subst, arith}
use Rattle.std.specs.Prelude.{bytes_eq, if◌then◌else◌}
use Rattle.std.specs.List.{All}
use Rattle.std.proofs.lemmas.Bool.{ne_eqb}
use Rattle.std.proofs.lemmas.List.Splits.{slice_split_at, slice_split_none}
use Rattle.vsw_report.specs.declared.round.Round.{Round}
use Rattle.vsw_report.proofs.Free.{is_free, free_all, two}
use Rattle.vsw_report.proofs.RoundsBack.{one_report, some_same}
use Rattle.vsw_check.specs.Law.{EachIsJudged, NoReportIsBad, OneBadLine, OneReport}
use Rattle.vsw_check.specs.declared.place.Place.{Place}
use Rattle.vsw_check.specs.declared.place.Place.TheVariants.{AtFirst}
use Rattle.vsw_check.specs.Private.Machine.{is_end, next, is_empty, bad_after, bad_line, bad_part, first_bad}
use Rattle.vsw_check.specs.Report.{IsReport, lines_text, BeginsReport, Breaks, Wrong, Short, IsBadLine}
use Rattle.vsw_check.proofs.Over.{both}
use Rattle.vsw_check.proofs.Bytes.{AreFree, head_word, reads, reads_more, free_more, some_part, split_lines, one_more, begins, begun, ends_are_reports, bad_lines_are_bad}

free_of : (xs : List ℕ) → All (λ b. ¬ (b ≡ 10)) xs → is_free 10 xs ≡ true
free_of [] h = refl
free_of (x ∷ xs) h = two (ap not (ne_eqb x 10 (h 0 0 (omega arith)))) (free_of xs (λ k d lt. h (suc k) d (omega (arith, lt))))

frees_of : (ts : List (List ℕ)) → All (λ l. All (λ b. ¬ (b ≡ 10)) l) ts → AreFree ts
frees_of [] h = tt
frees_of (t ∷ ts) h = (free_of t (h 0 [] (omega arith)), frees_of ts (λ k d lt. h (suc k) d (omega (arith, lt))))

-- a report has no bad line
pub no_report_is_bad : NoReportIsBad
no_report_is_bad bytes rounds number r h = by h.breaks where
  by : Breaks h.front h.rest → ⊥
  by (Short last never) = never (rounds, subst (λ b. IsReport b rounds) h.split r)
  by (Wrong line after e last never) = never (after, rounds, subst (λ b. IsReport b rounds) (h.split ∙ (ap (λ r. lines_text h.front ++ r) e ∙ sym (one_more h.front line after))) r)

goes_over : (fs : List (List ℕ)) (m : List ℕ) (ms : List (List ℕ)) (s r : Place) (n : ℕ) → reads s fs ≡ Some r → bad_line s n (fs ++ m ∷ ms) ≡ bad_line r (n + length fs) (m ∷ ms)
goes_over [] m ms s r n e = ap₂ (λ s k. bad_line s k (m ∷ ms)) (some_same e) (omega arith)
goes_over (f ∷ fs) m ms s r n e =
    let (t, p, q) = both (λ r. reads r fs) (next s f) r e in
    before fs ∙ (ap (λ o. bad_after n o (λ r. bad_line r (suc n) (fs ++ m ∷ ms))) p ∙ (goes_over fs m ms t r (suc n) q ∙ ap (λ k. bad_line r k (m ∷ ms)) (omega arith)))
  where
    before : (fs : List (List ℕ)) → bad_line s n (f ∷ (fs ++ m ∷ ms)) ≡ bad_after n (next s f) (λ r. bad_line r (suc n) (fs ++ m ∷ ms))
    before [] = refl
    before (g ∷ gs) = refl

past_head : (head : List ℕ) (fs : List (List ℕ)) (m : List ℕ) (ms : List (List ℕ)) → bytes_eq head head_word ≡ true → bad_part (head ∷ (fs ++ m ∷ ms)) ≡ bad_line AtFirst 2 (fs ++ m ∷ ms)
past_head head [] m ms e = ap (λ b. if b then bad_line AtFirst 2 (m ∷ ms) else Some 1) e
past_head head (g ∷ gs) m ms e = ap (λ b. if b then bad_line AtFirst 2 (g ∷ (gs ++ m ∷ ms)) else Some 1) e

-- ---- none is found but the bad line

wrong_first : (line after : List ℕ) → is_free 10 line ≡ true → ¬ (BeginsReport (line ∷ [])) → first_bad (line ++ 10 ∷ after) ≡ Some 1
wrong_first line after last never =
    let (m, ms, p) = some_part after in
    ap bad_part (slice_split_at (λ b. b == 10) line 10 after (free_all 10 line last) refl ∙ ap (λ ts. line ∷ ts) p) ∙ by m ms (bytes_eq line head_word) refl where
      by : (m : List ℕ) (ms : List (List ℕ)) (b : Bool) → bytes_eq line head_word ≡ b → (if b then bad_line AtFirst 2 (m ∷ ms) else Some 1) ≡ Some 1
      by m ms true e = absurd (never (begins line [] AtFirst e (last, tt) refl))
      by m ms false e = refl

wrong_later : (head : List ℕ) (fs : List (List ℕ)) (line after : List ℕ) → AreFree (head ∷ fs) → is_free 10 line ≡ true → BeginsReport (head ∷ fs) → ¬ (BeginsReport (head ∷ (fs ++ line ∷ []))) → first_bad (lines_text (head ∷ fs) ++ (line ++ 10 ∷ after)) ≡ Some (2 + length fs)
wrong_later head fs line after free last b never =
    let (h, r, e) = begun head fs free b in
    let (m, ms, p) = some_part after in
    ap bad_part (split_lines (head ∷ fs) (line ++ 10 ∷ after) free ∙ ap (λ ts. head ∷ (fs ++ ts)) (slice_split_at (λ b. b == 10) line 10 after (free_all 10 line last) refl ∙ ap (λ ts. line ∷ ts) p))
    ∙ (past_head head fs line (m ∷ ms) h ∙ (goes_over fs line (m ∷ ms) AtFirst r 2 e ∙ by m ms h r e (next r line) refl)) where
      by : (m : List ℕ) (ms : List (List ℕ)) → bytes_eq head head_word ≡ true → (r : Place) → reads AtFirst fs ≡ Some r → (o : Option Place) → next r line ≡ o → bad_after (2 + length fs) o (λ r. bad_line r (suc (2 + length fs)) (m ∷ ms)) ≡ Some (2 + length fs)
      by m ms h r e None q = refl
      by m ms h r e (Some t) q = absurd (never (begins head (fs ++ line ∷ []) t h (free.0, free_more fs line free.1 last) (reads_more fs line AtFirst r e ∙ q)))

short_first : (rest : List ℕ) → is_free 10 rest ≡ true → first_bad rest ≡ Some 1
short_first rest last = ap bad_part (slice_split_none (λ b. b == 10) rest (free_all 10 rest last))

short_later : (head : List ℕ) (fs : List (List ℕ)) (rest : List ℕ) → AreFree (head ∷ fs) → is_free 10 rest ≡ true → BeginsReport (head ∷ fs) → ¬ ((rounds : List Round) × IsReport (lines_text (head ∷ fs) ++ rest) rounds) → first_bad (lines_text (head ∷ fs) ++ rest) ≡ Some (2 + length fs)
short_later head fs rest free last b never =
    let (h, r, e) = begun head fs free b in
    let is : first_bad (lines_text (head ∷ fs) ++ rest) ≡ bad_line r (2 + length fs) (rest ∷ []) =
    ap bad_part (split_lines (head ∷ fs) rest free ∙ ap (λ ts. head ∷ (fs ++ ts)) (slice_split_none (λ b. b == 10) rest (free_all 10 rest last)))
    ∙ (past_head head fs rest [] h ∙ goes_over fs rest [] AtFirst r 2 e) in
    is ∙ by (is_end r && is_empty rest) is where
      by : (b : Bool) → first_bad (lines_text (head ∷ fs) ++ rest) ≡ (if b then None else Some (2 + length fs)) → (if b then None else Some (2 + length fs)) ≡ Some (2 + length fs)
      by true q = let (rounds, a, r) = ends_are_reports (lines_text (head ∷ fs) ++ rest) q in absurd (never (rounds, r))
      by false q = refl

bad_found : (front : List (List ℕ)) (rest : List ℕ) → AreFree front → BeginsReport front → Breaks front rest → first_bad (lines_text front ++ rest) ≡ Some (suc (length front))
bad_found [] rest free b (Wrong line after e last never) = ap first_bad e ∙ wrong_first line after (free_of line last) never
bad_found [] rest free b (Short last never) = short_first rest (free_of rest last)
bad_found (head ∷ fs) rest free b (Wrong line after e last never) = ap (λ r. first_bad (lines_text (head ∷ fs) ++ r)) e ∙ (wrong_later head fs line after free (free_of line last) b never ∙ ap Some (omega arith))
bad_found (head ∷ fs) rest free b (Short last never) = short_later head fs rest free (free_of rest last) b never ∙ ap Some (omega arith)

found_bad : (bytes : List ℕ) (number : ℕ) → IsBadLine bytes number → first_bad bytes ≡ Some number
found_bad bytes number h = ap first_bad h.split ∙ (bad_found h.front h.rest (frees_of h.front h.free) h.begins h.breaks ∙ ap Some (sym h.number_is))

pub one_bad_line : OneBadLine
one_bad_line bytes m n h k = some_same (sym (found_bad bytes m h) ∙ found_bad bytes n k)

pub each_judged : EachIsJudged
each_judged bytes = by (first_bad bytes) refl where
  by : (o : Option ℕ) → first_bad bytes ≡ o → ((rounds : List Round) × IsReport bytes rounds) ⊎ ((number : ℕ) × IsBadLine bytes number)
  by None e = let (rounds, q, is) = ends_are_reports bytes e in inl (rounds, is)
  by (Some number) e = inr (number, bad_lines_are_bad bytes number e)

pub one_report_of : OneReport
one_report_of bytes rounds others h k = one_report rounds others h.proper k.proper (h.text ∙ sym k.text)
