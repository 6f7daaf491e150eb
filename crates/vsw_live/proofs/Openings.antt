-- A port that is being opened.
use Rattle.std.proofs.Common.{◌≡◌, ◌+◌, ℕ, zero, suc, List, [], ◌∷◌, ◌++◌, length, refl, sym, ◌∙◌, ap, subst, arith, length-append}
use Rattle.std.specs.Prelude.{OnOk, Ok, Err, Result, replicate, slice_index_or}
use Rattle.vsw_base.specs.declared.fault.NoMemory.{NoMemory}
use Rattle.vsw_core.specs.Core.{Begins, total}
use Rattle.vsw_live.specs.Ports.{AreNewPasses, IsNewPass}
use Rattle.vsw_live.specs.Private.Opening.{HasPasses}
use Rattle.vsw_table.specs.Rules.{newcomer, one_more}
use Rattle.vsw_flows.specs.Flows.{Looking, Writing}

total_end : (ns : List ℕ) → total (ns ++ 0 ∷ []) ≡ total ns
total_end [] = refl
total_end (n ∷ ns) = ap (λ m. n + m) (total_end ns)

new_more : (l : Looking) (n m : ℕ) (ps : List Writing) (p : Writing) → AreNewPasses l n ps → m ≡ n + length ps → IsNewPass l m p → AreNewPasses l n (ps ++ p ∷ [])
new_more l n m [] p a e new = let same : m ≡ n = omega (arith, e) in (subst (λ k. IsNewPass l k p) same new, tt)
new_more l n m (q ∷ ps) p a e new = (a.0, new_more l (n + 1) m ps p a.1 (omega (arith, e)) new)

pub has_more : (r : Result (Unit {0}) NoMemory) (l : Looking) (n : ℕ) (w v p : Writing) (ps qs : List Writing) → HasPasses l n w ps → v ≡ record w { view = one_more w.view } → p ≡ record w { view = newcomer w.view } → OnOk r (qs ≡ ps ++ p ∷ [])
    → OnOk r (HasPasses l (n + 1) v qs)
has_more (Err e) l n w v p ps qs has made new pushed = tt
has_more (Ok u) l n w v p ps qs has made new pushed =
    let first : IsNewPass l n p = record {
      of = record { table = ap (λ (h : Writing). h.table) new ∙ has.of.table; opens = ap (λ (h : Writing). h.view.opening) new ∙ has.of.opens };
      number = ap (λ (h : Writing). h.view.number) new ∙ has.passes;
      front = ap (λ (h : Writing). h.view.front) new ∙ has.history;
      receipts = ap (λ (h : Writing). h.view.receipts) new;
      permits = ap (λ (h : Writing). h.view.permits) new;
    } in
    record {
      of = record { table = ap (λ (h : Writing). h.table) made ∙ has.of.table; opens = ap (λ (h : Writing). h.view.opening) made ∙ has.of.opens };
      passes = ap (λ (h : Writing). h.view.passes) made ∙ ap (λ k. k + 1) has.passes;
      history = ap (λ (h : Writing). h.view.history) made ∙ has.history;
      stamps = ap (λ (h : Writing). h.view.stamps) made ∙ has.stamps;
      rows = ap (λ (h : Writing). h.view.rows) made ∙ has.rows;
      permits = ap (λ (h : Writing). total h.view.kept) made ∙ (total_end w.view.kept ∙ has.permits);
      many = ap length pushed ∙ omega (arith, length-append ps (p ∷ []), has.many);
      new = subst (AreNewPasses l 0) (sym pushed) (new_more l 0 n ps p has.new (omega (arith, has.many)) first);
    }

same_at : (z n r : ℕ) → slice_index_or (replicate n z) r z ≡ z
same_at z zero r = refl
same_at z (suc n) zero = refl
same_at z (suc n) (suc r) = same_at z n r

row_same : (z n r : ℕ) → slice_index_or (slice_index_or (replicate n (replicate 73 z)) r []) 0 z ≡ z
row_same z zero r = refl
row_same z (suc n) zero = refl
row_same z (suc n) (suc r) = row_same z n r

pub begins_of : (l : Looking) (n : ℕ) (w : Writing) (ps : List Writing) → HasPasses l n w ps → Begins l.1 w
begins_of l n w ps has = record {
  opens = has.of.opens;
  history = has.history;
  stamps = λ place. ap (λ (ns : List ℕ). slice_index_or ns place 0) has.stamps ∙ same_at 0 l.2 place;
  rows = λ place. ap (λ (rs : List (List ℕ)). slice_index_or (slice_index_or rs place []) 0 0) has.rows ∙ row_same 0 l.2 place;
  permits = has.permits;
}
