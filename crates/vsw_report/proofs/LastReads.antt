-- What callers have left at the last count.
use Rattle.std.proofs.Common.{◌≡◌, ℕ, ◌+◌, ◌<◌, Bool, ◌||◌, List, [], ◌∷◌, ◌++◌, refl, sym, ap, ap₂, ◌∙◌, subst, append_assoc}
use Rattle.std.specs.List.{flat_map}
use Rattle.std.proofs.lemmas.Grind.{flat_map-append}
use Rattle.std.proofs.lemmas.List.Folds.{list_any-append}
use Rattle.vsw_report.specs.Line.{TextLine, are_short, texts}
use Rattle.vsw_report.specs.Order.{AllInCounts, all_lines}
use Rattle.vsw_report.specs.Steps.{first_reads, past, reads_of_all}
use Rattle.vsw_report.proofs.Counts.{last_reads, within}
use Rattle.vsw_report.proofs.InOrder.{in_left, in_right, past_both}

-- behind a count all lines are of later ones
all_within : (n high : ℕ) (callers : List (List TextLine)) → AllInCounts n callers high → n < high → AllInCounts (n + 1) (past n callers) high
all_within n high [] h lt = tt
all_within n high (ls ∷ callers) h lt = (within n high ls h.0 lt, all_within n high callers h.1 lt)

pub both_within : (n high : ℕ) (ws ws1 cs cs1 : List (List TextLine)) → AllInCounts n (ws ++ cs) high → n < high → ws1 ≡ past n ws → cs1 ≡ past n cs → AllInCounts (n + 1) (ws1 ++ cs1) high
both_within n high ws ws1 cs cs1 h lt w c =
    subst (λ (x : List (List TextLine)). AllInCounts (n + 1) x high) (sym (ap₂ (λ (x y : List (List TextLine)). x ++ y) w c ∙ past_both n ws cs)) (all_within n high (ws ++ cs) h lt)

-- at the last count all lines are reads
all_last : (n : ℕ) (callers : List (List TextLine)) → AllInCounts n callers n → flat_map (first_reads n) callers ≡ all_lines callers
all_last n [] h = refl
all_last n (ls ∷ callers) h = ap₂ (λ (x y : List TextLine). x ++ y) (last_reads n ls h.0) (all_last n callers h.1)

all_reads : (n : ℕ) (ws cs : List (List TextLine)) → AllInCounts n (ws ++ cs) n → reads_of_all n ws cs ≡ all_lines ws ++ all_lines cs
all_reads n ws cs h = ap₂ (λ (x y : List TextLine). x ++ y) (all_last n ws (in_left n n ws cs h)) (all_last n cs (in_right n n ws cs h))

-- the texts of all that is left go over behind sheets and an end
pub rest_text : (n : ℕ) (sheets end end1 out1 out2 : List ℕ) (ws cs : List (List TextLine)) (lines : List TextLine) → AllInCounts n (ws ++ cs) n
    → end1 ++ texts (reads_of_all n ws cs) ≡ end ++ texts lines
    → out1 ≡ (sheets ++ end1) ++ texts (all_lines ws) → out2 ≡ out1 ++ texts (all_lines cs) → out2 ≡ (sheets ++ end) ++ texts lines
rest_text n sheets end end1 out1 out2 ws cs lines h e o p =
    p ∙ ap (λ (t : List ℕ). t ++ texts (all_lines cs)) o
    ∙ append_assoc (sheets ++ end1) (texts (all_lines ws)) (texts (all_lines cs))
    ∙ ap (λ (t : List ℕ). (sheets ++ end1) ++ t) (sym (flat_map-append (λ (l : TextLine). l.text) (all_lines ws) (all_lines cs)))
    ∙ ap (λ (ls : List TextLine). (sheets ++ end1) ++ texts ls) (sym (all_reads n ws cs h))
    ∙ append_assoc sheets end1 (texts (reads_of_all n ws cs))
    ∙ ap (λ (t : List ℕ). sheets ++ t) e
    ∙ sym (append_assoc sheets end (texts lines))

-- and what they tell of want of memory
pub rest_short : (n : ℕ) (short one more : Bool) (ws cs : List (List TextLine)) (lines : List TextLine) → AllInCounts n (ws ++ cs) n
    → (short || are_short (reads_of_all n ws cs)) ≡ are_short lines
    → one ≡ are_short (all_lines ws) → more ≡ are_short (all_lines cs) → (short || (one || more)) ≡ are_short lines
rest_short n short one more ws cs lines h e o m =
    ap (λ (b : Bool). short || b) (ap₂ (λ (a b : Bool). a || b) o m ∙ sym (list_any-append (λ (l : TextLine). l.short) (all_lines ws) (all_lines cs)))
    ∙ ap (λ (ls : List TextLine). short || are_short ls) (sym (all_reads n ws cs h))
    ∙ e
