-- What goes over at a count, of lines whose counts rise.
use Rattle.std.proofs.Common.{◌≡◌, ◌≢◌, ℕ, ◌+◌, ◌<◌, ◌≤◌, ◌==◌, ◌&&◌, not, Bool, true, false, List, [], ◌∷◌, filter, refl, sym, ap, ◌∙◌, subst, arith, ne_eqb, eq-eqb}
use Rattle.std.proofs.lemmas.Bool.{cond-true, cond-false}
use native.Mathlib.Decide.{ℕ_discrete}
use Rattle.vsw_report.specs.Order.{is_entry, is_read, reads_at, entry_at, rise_of}
use Rattle.vsw_report.specs.Steps.{first_entry, first_reads, past_entry, past_reads}
use Rattle.vsw_report.proofs.Fronts.{first_here, first_none, past_here, past_none}
use Rattle.vsw_report.specs.Line.{TextLine}

-- counts from n on that never fall, and rise after an entry
abbrev pub Rises : ℕ → List TextLine → Type 0
Rises n [] = Unit {0}
Rises n (l ∷ ls) = (n ≤ l.count) × Rises (l.count + rise_of l.entry) ls

and_false : (m x : Bool) → x ≡ false → (m && x) ≡ false
and_false true x e = e
and_false false x e = refl

-- at another count a line is neither
pub not_read : (n : ℕ) (l : TextLine) → l.count ≢ n → is_read n l ≡ false
not_read n l ne = and_false (not l.entry) (l.count == n) (ne_eqb l.count n ne)

pub not_entry : (n : ℕ) (l : TextLine) → l.count ≢ n → is_entry n l ≡ false
not_entry n l ne = and_false l.entry (l.count == n) (ne_eqb l.count n ne)

-- a line of a count that isn't past: a read at it, its entry, or later
pub data Stands (n : ℕ) (l : TextLine) : Type 0 where
  read_here : is_read n l ≡ true → is_entry n l ≡ false → l.count ≡ n → l.count + rise_of l.entry ≡ n → Stands n l
  entry_here : is_read n l ≡ false → is_entry n l ≡ true → l.count ≡ n → l.count + rise_of l.entry ≡ n + 1 → Stands n l
  later : n < l.count → Stands n l

pub stands : (n : ℕ) (l : TextLine) → n ≤ l.count → Stands n l
stands n l le = by (ℕ_discrete l.count n) where
  here : (e : Bool) → l.entry ≡ e → l.count ≡ n → Stands n l
  here true e c = entry_here (ap (λ b. not b && (l.count == n)) e) (ap (λ b. b && (l.count == n)) e ∙ eq-eqb l.count n c) c (ap (λ b. l.count + rise_of b) e ∙ omega (arith, c))
  here false e c = read_here (ap (λ b. not b && (l.count == n)) e ∙ eq-eqb l.count n c) (ap (λ b. b && (l.count == n)) e) c (ap (λ b. l.count + rise_of b) e ∙ omega (arith, c))

  by : Dec (l.count ≡ n) → Stands n l
  by (yes c) = here l.entry refl c
  by (no ne) = later (omega (arith, le, ne))

yes_filter : (p : TextLine → Bool) (l : TextLine) (ls : List TextLine) → p l ≡ true → filter p (l ∷ ls) ≡ l ∷ filter p ls
yes_filter p l ls e = cond-true (p l) _ _ e

no_filter : (p : TextLine → Bool) (l : TextLine) (ls : List TextLine) → p l ≡ false → filter p (l ∷ ls) ≡ filter p ls
no_filter p l ls e = cond-false (p l) _ _ e

-- nothing is of a count below all
pub no_reads : (n low : ℕ) (ls : List TextLine) → Rises low ls → n < low → reads_at n ls ≡ []
no_reads n low [] r lt = refl
no_reads n low (l ∷ ls) r lt =
    no_filter (is_read n) l ls (not_read n l (λ e. omega (arith, e, r.0, lt))) ∙ no_reads n (l.count + rise_of l.entry) ls r.1 (omega (arith, r.0, lt))

pub no_entry : (n low : ℕ) (ls : List TextLine) → Rises low ls → n < low → entry_at n ls ≡ []
no_entry n low [] r lt = refl
no_entry n low (l ∷ ls) r lt =
    no_filter (is_entry n) l ls (not_entry n l (λ e. omega (arith, e, r.0, lt))) ∙ no_entry n (l.count + rise_of l.entry) ls r.1 (omega (arith, r.0, lt))

far : (n d : ℕ) (l : TextLine) → l.count ≡ n → n < d → l.count ≢ d
far n d l c lt s = omega (arith, c, s, lt)

-- a caller's lines behind a count
abbrev pub rest_of : ℕ → List TextLine → List TextLine
rest_of n ls = past_entry n (past_reads n ls)

-- what goes over at a count is what is of this count, and what is left rises from the next one and has all that is of later ones
pub record Behind (n : ℕ) (ls : List TextLine) : Type 0 where
  pub reads : first_reads n ls ≡ reads_at n ls
  pub entry : first_entry n (past_reads n ls) ≡ entry_at n ls
  pub rises : Rises (n + 1) (rest_of n ls)
  pub later_reads : (d : ℕ) → n < d → reads_at d (rest_of n ls) ≡ reads_at d ls
  pub later_entry : (d : ℕ) → n < d → entry_at d (rest_of n ls) ≡ entry_at d ls

over_read : (n : ℕ) (l : TextLine) (ls : List TextLine) → is_read n l ≡ true → is_entry n l ≡ false → l.count ≡ n → Behind n ls → Behind n (l ∷ ls)
over_read n l ls e f c b = record {
  reads = first_here n l ls e ∙ (ap (λ r. l ∷ r) b.reads ∙ sym (yes_filter (is_read n) l ls e));
  entry = ap (first_entry n) (past_here n l ls e) ∙ (b.entry ∙ sym (no_filter (is_entry n) l ls f));
  rises = subst (λ r. Rises (n + 1) (past_entry n r)) (sym (past_here n l ls e)) b.rises;
  later_reads = λ d lt. ap (λ r. reads_at d (past_entry n r)) (past_here n l ls e) ∙ (b.later_reads d lt ∙ sym (no_filter (is_read d) l ls (not_read d l (far n d l c lt))));
  later_entry = λ d lt. ap (λ r. entry_at d (past_entry n r)) (past_here n l ls e) ∙ (b.later_entry d lt ∙ sym (no_filter (is_entry d) l ls (not_entry d l (far n d l c lt))));
}

over_entry : (n : ℕ) (l : TextLine) (ls : List TextLine) → is_read n l ≡ false → is_entry n l ≡ true → l.count ≡ n → Rises (n + 1) ls → Behind n (l ∷ ls)
over_entry n l ls e f c r =
    let left : rest_of n (l ∷ ls) ≡ ls = ap (past_entry n) (past_none n l ls e) ∙ cond-true (is_entry n l) _ _ f in
    record {
      reads = first_none n l ls e ∙ sym (no_filter (is_read n) l ls e ∙ no_reads n (n + 1) ls r (omega arith));
      entry = ap (first_entry n) (past_none n l ls e) ∙ (cond-true (is_entry n l) _ _ f ∙ sym (yes_filter (is_entry n) l ls f ∙ ap (λ x. l ∷ x) (no_entry n (n + 1) ls r (omega arith))));
      rises = subst (Rises (n + 1)) (sym left) r;
      later_reads = λ d lt. ap (reads_at d) left ∙ sym (no_filter (is_read d) l ls (not_read d l (far n d l c lt)));
      later_entry = λ d lt. ap (entry_at d) left ∙ sym (no_filter (is_entry d) l ls (not_entry d l (far n d l c lt)));
    }

over_later : (n : ℕ) (l : TextLine) (ls : List TextLine) → n < l.count → Rises (l.count + rise_of l.entry) ls → Behind n (l ∷ ls)
over_later n l ls lt r =
    let e = not_read n l (λ s. omega (arith, s, lt)) in
    let f = not_entry n l (λ s. omega (arith, s, lt)) in
    let all : Rises l.count (l ∷ ls) = (omega arith, r) in
    let left : rest_of n (l ∷ ls) ≡ l ∷ ls = ap (past_entry n) (past_none n l ls e) ∙ cond-false (is_entry n l) _ _ f in
    record {
      reads = first_none n l ls e ∙ sym (no_reads n l.count (l ∷ ls) all lt);
      entry = ap (first_entry n) (past_none n l ls e) ∙ (cond-false (is_entry n l) _ _ f ∙ sym (no_entry n l.count (l ∷ ls) all lt));
      rises = subst (Rises (n + 1)) (sym left) (omega (arith, lt), r);
      later_reads = λ d lt. ap (reads_at d) left;
      later_entry = λ d lt. ap (entry_at d) left;
    }

pub behind : (n : ℕ) (ls : List TextLine) → Rises n ls → Behind n ls
behind n [] r = record { reads = refl; entry = refl; rises = tt; later_reads = λ d lt. refl; later_entry = λ d lt. refl }
behind n (l ∷ ls) r = by (stands n l r.0) (λ s. behind n ls s) where
  by : Stands n l → (Rises n ls → Behind n ls) → Behind n (l ∷ ls)
  by (read_here e f c m) f2 = over_read n l ls e f c (f2 (subst (λ k. Rises k ls) m r.1))
  by (entry_here e f c m) f2 = over_entry n l ls e f c (subst (λ k. Rises k ls) m r.1)
  by (later lt) f2 = over_later n l ls lt r.1
