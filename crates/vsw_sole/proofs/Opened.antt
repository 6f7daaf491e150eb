-- A port before its first call.
use Rattle.std.proofs.Common.{◌≡◌, ◌+◌, ◌++◌, ℕ, zero, suc, List, [], ◌∷◌, length, replicate, slice_index_or, refl, sym, ap, subst, ◌∙◌, arith}
use mathlib.Core.List.{IsPrefix}
use Rattle.vsw_flows.specs.Flows.{Looking}
use Rattle.vsw_core.specs.Core.{Begins, total}
use Rattle.vsw_port.specs.declared.event.Event.{Event}
use Rattle.vsw_table.specs.Rules.{first_view, newcomer, one_more, row_at, stamp_at}
use Rattle.vsw_policy.specs.Layers.{PolicySeen}
use Rattle.vsw_flows.specs.Flows.{Writing}
use Rattle.vsw_rows.specs.Rows.{IsEmpty}
use Rattle.vsw_sole.specs.declared.caller.Caller.{Caller}
use Rattle.vsw_sole.specs.Callers.{IsCaller, Numbered}

zero_at : (n place : ℕ) → slice_index_or {A = ℕ} (replicate n 0) place 0 ≡ 0
zero_at zero place = refl
zero_at (suc n) zero = refl
zero_at (suc n) (suc place) = zero_at n place

empty_at : (n place : ℕ) → IsEmpty (row_at (replicate n (replicate 73 0)) place)
empty_at zero place = refl
empty_at (suc n) zero = refl
empty_at (suc n) (suc place) = empty_at n place

-- the writer of a new lookup
pub first_begins : (p : PolicySeen) (rows : ℕ) (v : Writing) → v.view ≡ first_view p rows → Begins p v
first_begins p rows v e = record {
  opens = ap (λ w. w.opening) e;
  history = ap (λ w. w.history) e;
  stamps = λ place. ap (λ w. stamp_at w.stamps place) e ∙ zero_at rows place;
  rows = λ place. ap (λ w. slice_index_or (row_at w.rows place) 0 0) e ∙ empty_at rows place;
  permits = ap (λ w. total w.kept) e;
}

total_end : (ns : List ℕ) → total (ns ++ 0 ∷ []) ≡ total ns
total_end [] = refl
total_end (n ∷ ns) = ap (λ m. n + m) (total_end ns)

-- one pass more
pub more_begins : (p : PolicySeen) (v : Writing) → Begins p v → Begins p (record v { view = one_more v.view })
more_begins p v b = record { opens = b.opens; history = b.history; stamps = b.stamps; rows = b.rows; permits = total_end v.view.kept ∙ b.permits }

numbered_end : (P : ℕ → Caller → Type 0) (n : ℕ) (cs : List Caller) (c : Caller) → Numbered P n cs → P (n + length cs) c → Numbered P n (cs ++ c ∷ [])
numbered_end P n [] c all last = (subst (λ m. P m c) (omega arith) last, tt)
numbered_end P n (d ∷ cs) c all last = (all.0, numbered_end P (suc n) cs c all.1 (subst (λ m. P m c) (omega arith) last))

begins_empty : (h : List Event) → h ≡ [] → IsPrefix h []
begins_empty h e = ([], ap (λ g. g ++ []) e)

abbrev pub caller_of : Writing → Caller
caller_of p = record { pass = p; seen = 0; made = 0; permits = 0 }

-- a caller with a new pass
new_caller : (l : Looking) (v : Writing) (k : ℕ) → Begins l.1 v → v.table ≡ l.0 → v.view.passes ≡ k → IsCaller l [] 0 k (caller_of (record v { view = newcomer v.view }))
new_caller l v k b table passes = record {
  told = record { of = record { table = table; opens = b.opens }; seen = sym (ap length b.history); made = refl; permits = refl; few = omega arith };
  number_is = passes;
  front = begins_empty v.view.history b.history;
  may = omega arith;
}

-- one caller more, behind the others
pub one_caller : (l : Looking) (v : Writing) (p : Writing) (k : ℕ) (cs ds : List Caller) → Begins l.1 v → v.table ≡ l.0 → v.view.passes ≡ k → length cs ≡ k → p ≡ record v { view = newcomer v.view } → ds ≡ cs ++ caller_of p ∷ [] → Numbered (IsCaller l [] 0) 0 cs
    → Numbered (IsCaller l [] 0) 0 ds
one_caller l v p k cs ds b table passes many is pushed all =
    let last : IsCaller l [] 0 (0 + length cs) (caller_of p) = subst (λ q. IsCaller l [] 0 (0 + length cs) (caller_of q)) (sym is) (new_caller l v (0 + length cs) b table (omega (arith, passes, many))) in
    subst (Numbered (IsCaller l [] 0) 0) (sym pushed) (numbered_end (IsCaller l [] 0) 0 cs (caller_of p) all last)
