-- The writer of a new table is one at the beginning, whatever passes it gives out.
use Rattle.std.proofs.Common.{◌≡◌, ◌+◌, ◌++◌, ℕ, zero, suc, List, [], ◌∷◌, replicate, refl, sym, ap, subst, ◌∙◌}
use Rattle.vsw_core.specs.Core.{Begins, total}
use Rattle.vsw_port.specs.declared.event.Event.{Event}
use Rattle.vsw_table.specs.declared.view.View.{View}
use Rattle.vsw_table.specs.Rules.{first_view, one_more, row_at, stamp_at}
use Rattle.vsw_policy.specs.Layers.{PolicySeen}
use Rattle.vsw_rows.specs.Rows.{IsEmpty}
use Rattle.vsw_flows.specs.Flows.{Writing}

all_zero : (n place : ℕ) → stamp_at (replicate n 0) place ≡ 0
all_zero zero place = refl
all_zero (suc n) zero = refl
all_zero (suc n) (suc place) = all_zero n place

all_empty : (n place : ℕ) → IsEmpty (row_at (replicate n (replicate 73 0)) place)
all_empty zero place = refl
all_empty (suc n) zero = refl
all_empty (suc n) (suc place) = all_empty n place

pub new_begins : (p : PolicySeen) (v : Writing) (rows : ℕ) → v.view ≡ first_view p rows → Begins p v
new_begins p v rows is = record {
  opens = ap (λ (t : View PolicySeen Event). t.opening) is;
  history = ap (λ (t : View PolicySeen Event). t.history) is;
  stamps = λ place. ap (λ (t : View PolicySeen Event). stamp_at t.stamps place) is ∙ all_zero rows place;
  rows = λ place. subst (λ (t : View PolicySeen Event). IsEmpty (row_at t.rows place)) (sym is) (all_empty rows place);
  permits = ap (λ (t : View PolicySeen Event). total t.kept) is;
}

total_more : (ns : List ℕ) → total (ns ++ 0 ∷ []) ≡ total ns
total_more [] = refl
total_more (n ∷ ns) = ap (λ (m : ℕ). n + m) (total_more ns)

pub pass_begins : (p : PolicySeen) (v w : Writing) → Begins p v → w ≡ record v { view = one_more v.view } → Begins p w
pass_begins p v w b is = subst (λ (u : Writing). Begins p u) (sym is) (record { opens = b.opens; history = b.history; stamps = b.stamps; rows = b.rows; permits = total_more v.view.kept ∙ b.permits })
