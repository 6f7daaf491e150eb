-- What is merged is in order.
use Rattle.std.proofs.Common.{◌≡◌, ℕ, zero, suc, ◌+◌, ◌-◌, ◌<◌, List, [], ◌∷◌, ◌++◌, map, refl, sym, ap, ap₂, ◌∙◌, append_assoc, arith}
use Rattle.std.specs.List.{flat_map}
use Rattle.std.proofs.lemmas.Grind.{flat_map-append}
use Rattle.vsw_report.specs.Order.{InCounts, AllInCounts, reads_at, entry_at, in_order, rise_of}
use Rattle.vsw_report.specs.Steps.{first_entry, first_reads, merged, past, past_entry, past_reads}
use Rattle.vsw_report.proofs.Behind.{Rises, behind}
use Rattle.vsw_report.specs.Line.{TextLine}

abbrev AllRise : ℕ → List (List TextLine) → Type 0
AllRise n [] = Unit {0}
AllRise n (ls ∷ callers) = Rises n ls × AllRise n callers

pub counts_rise : (low high : ℕ) (ls : List TextLine) → InCounts low ls high → Rises low ls
counts_rise low high [] h = tt
counts_rise low high (l ∷ ls) h = (h.0, counts_rise (l.count + rise_of l.entry) high ls h.1)

all_rise : (low high : ℕ) (callers : List (List TextLine)) → AllInCounts low callers high → AllRise low callers
all_rise low high [] h = tt
all_rise low high (ls ∷ callers) h = (counts_rise low high ls h.0, all_rise low high callers h.1)

reads_all : (n : ℕ) (callers : List (List TextLine)) → AllRise n callers → flat_map (first_reads n) callers ≡ flat_map (reads_at n) callers
reads_all n [] r = refl
reads_all n (ls ∷ callers) r = ap₂ (λ x y. x ++ y) ((behind n ls r.0).reads) (reads_all n callers r.1)

entry_all : (n : ℕ) (callers : List (List TextLine)) → AllRise n callers → flat_map (first_entry n) (map (past_reads n) callers) ≡ flat_map (entry_at n) callers
entry_all n [] r = refl
entry_all n (ls ∷ callers) r = ap₂ (λ x y. x ++ y) ((behind n ls r.0).entry) (entry_all n callers r.1)

rise_all : (n : ℕ) (callers : List (List TextLine)) → AllRise n callers → AllRise (n + 1) (past n callers)
rise_all n [] r = tt
rise_all n (ls ∷ callers) r = ((behind n ls r.0).rises, rise_all n callers r.1)

later_reads_all : (n d : ℕ) (callers : List (List TextLine)) → AllRise n callers → n < d → flat_map (reads_at d) (past n callers) ≡ flat_map (reads_at d) callers
later_reads_all n d [] r lt = refl
later_reads_all n d (ls ∷ callers) r lt = ap₂ (λ x y. x ++ y) ((behind n ls r.0).later_reads d lt) (later_reads_all n d callers r.1 lt)

later_entry_all : (n d : ℕ) (callers : List (List TextLine)) → AllRise n callers → n < d → flat_map (entry_at d) (past n callers) ≡ flat_map (entry_at d) callers
later_entry_all n d [] r lt = refl
later_entry_all n d (ls ∷ callers) r lt = ap₂ (λ x y. x ++ y) ((behind n ls r.0).later_entry d lt) (later_entry_all n d callers r.1 lt)

-- from a later count on the order is that of the lines behind this one
order_later : (n d more : ℕ) (callers : List (List TextLine)) → AllRise n callers → n < d → in_order (past n callers) d more ≡ in_order callers d more
order_later n d zero callers r lt = later_reads_all n d callers r lt
order_later n d (suc more) callers r lt =
    ap₂ (λ x y. x ++ y) (later_reads_all n d callers r lt) (ap₂ (λ x y. x ++ y) (later_entry_all n d callers r lt) (order_later n (d + 1) more callers r (omega (arith, lt))))

pub past_both : (n : ℕ) (ws cs : List (List TextLine)) → past n ws ++ past n cs ≡ past n (ws ++ cs)
past_both n [] cs = refl
past_both n (w ∷ ws) cs = ap (λ r. past_entry n (past_reads n w) ∷ r) (past_both n ws cs)

rise_both : (n : ℕ) (ws cs : List (List TextLine)) → AllRise n ws → AllRise n cs → AllRise n (ws ++ cs)
rise_both n [] cs r s = s
rise_both n (w ∷ ws) cs r s = (r.0, rise_both n ws cs r.1 s)

merged_is : (more n : ℕ) (ws cs : List (List TextLine)) → AllRise n ws → AllRise n cs → merged ws cs n more ≡ in_order (ws ++ cs) n more
merged_is zero n ws cs r s = ap₂ (λ x y. x ++ y) (reads_all n ws r) (reads_all n cs s) ∙ sym (flat_map-append (reads_at n) ws cs)
merged_is (suc more) n ws cs r s =
    let reads : flat_map (first_reads n) ws ++ flat_map (first_reads n) cs ≡ flat_map (reads_at n) (ws ++ cs) =
    ap₂ (λ x y. x ++ y) (reads_all n ws r) (reads_all n cs s) ∙ sym (flat_map-append (reads_at n) ws cs) in
    let entry : flat_map (first_entry n) (map (past_reads n) ws) ++ flat_map (first_entry n) (map (past_reads n) cs) ≡ flat_map (entry_at n) (ws ++ cs) =
    ap₂ (λ x y. x ++ y) (entry_all n ws r) (entry_all n cs s) ∙ sym (flat_map-append (entry_at n) ws cs) in
    let rest : merged (past n ws) (past n cs) (n + 1) more ≡ in_order (ws ++ cs) (n + 1) more =
    merged_is more (n + 1) (past n ws) (past n cs) (rise_all n ws r) (rise_all n cs s)
    ∙ (ap (λ x. in_order x (n + 1) more) (past_both n ws cs) ∙ order_later n (n + 1) more (ws ++ cs) (rise_both n ws cs r s) (omega arith)) in
    grouped (flat_map (first_reads n) ws) (flat_map (first_reads n) cs) (flat_map (first_entry n) (map (past_reads n) ws)) (flat_map (first_entry n) (map (past_reads n) cs)) (merged (past n ws) (past n cs) (n + 1) more)
    ∙ ap₂ (λ x y. x ++ y) reads (ap₂ (λ x y. x ++ y) entry rest) where
      grouped : (a b c d m : List TextLine) → a ++ b ++ c ++ d ++ m ≡ (a ++ b) ++ ((c ++ d) ++ m)
      grouped a b c d m = simp append_assoc

-- what is merged of lines within the counts is in order
pub merged_order : (more n high : ℕ) (ws cs : List (List TextLine)) → AllInCounts n ws high → AllInCounts n cs high → merged ws cs n more ≡ in_order (ws ++ cs) n more
merged_order more n high ws cs h k = merged_is more n ws cs (all_rise n high ws h) (all_rise n high cs k)

-- the callers on the left, and on the right
pub in_left : (low high : ℕ) (ws cs : List (List TextLine)) → AllInCounts low (ws ++ cs) high → AllInCounts low ws high
in_left low high [] cs h = tt
in_left low high (w ∷ ws) cs h = (h.0, in_left low high ws cs h.1)

pub in_right : (low high : ℕ) (ws cs : List (List TextLine)) → AllInCounts low (ws ++ cs) high → AllInCounts low cs high
in_right low high [] cs h = h
in_right low high (w ∷ ws) cs h = in_right low high ws cs h.1

-- the same of workers and controllers together
pub merged_within : (n high : ℕ) (ws cs : List (List TextLine)) → AllInCounts n (ws ++ cs) high → merged ws cs n (high - n) ≡ in_order (ws ++ cs) n (high - n)
merged_within n high ws cs h = merged_order (high - n) n high ws cs (in_left n high ws cs h) (in_right n high ws cs h)
