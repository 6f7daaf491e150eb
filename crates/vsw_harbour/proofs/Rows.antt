-- One caller does a job, and the others nothing.
use Rattle.std.proofs.Common.{◌≡◌, ◌≢◌, ◌<◌, ℕ, suc, List, [], ◌∷◌, ◌+◌, ◌==◌, Vec, true, false, subst, refl, sym, ◌∙◌, arith, eq-eqb, ne_eqb}
use Rattle.vsw_dock.specs.Lane.{Lane}
use Rattle.vsw_dock.specs.Opening.{rows_in}
use Rattle.vsw_dock.specs.Seen.{DockSeen, StationSeen}
use Rattle.vsw_port.specs.Calls.{Call, Job, job_doer}
use Rattle.vsw_port.specs.declared.event.Event.{Event}
use Rattle.vsw_many.specs.Dealing.{deal}
use Rattle.vsw_harbour.specs.Standing.{RowStands, RowsStand}
use Rattle.vsw_harbour.specs.Working.{RowWorks, RowsWork}
use Rattle.vsw_harbour.proofs.Standing.{works_none}

deal_one : (cs : List ℕ) (k place : ℕ) (j : Job) → job_doer cs j ≡ k → deal cs k ((place, j) ∷ []) ≡ (place, j) ∷ []
deal_one cs k place j e = let t : (job_doer cs j == k) ≡ true = eq-eqb (job_doer cs j) k e in rw t refl

deal_none : (cs : List ℕ) (k place : ℕ) (j : Job) → job_doer cs j ≢ k → deal cs k ((place, j) ∷ []) ≡ []
deal_none cs k place j ne = let t : (job_doer cs j == k) ≡ false = ne_eqb (job_doer cs j) k ne in rw t refl

rows_idle : (cs : List ℕ) (k caller place : ℕ) (j : Job) (ds : List DockSeen) (hs : List (List Event)) (calls : List (List Call)) (rows : List (List (Lane StationSeen))) → job_doer cs j ≡ caller → caller < k → RowsStand k ds hs calls rows → RowsWork cs k ds hs calls ((place, j) ∷ []) rows
rows_idle cs k caller place j ds hs calls [] e lt s = tt
rows_idle cs k caller place j ds hs calls (r ∷ rs) e lt s =
    (subst (RowWorks k ds hs calls r) (sym (deal_none cs k place j (λ f. omega (arith, f, e, lt)))) (works_none k ds hs calls r s.0), rows_idle cs (suc k) caller place j ds hs calls rs e (omega (arith, lt)) s.1)

-- what the rows from caller `at` on have done, of one job of a caller
abbrev pub OneWorks : {G : Type 0} → ℕ → ℕ → ℕ → Job → List DockSeen → List (Vec (Lane StationSeen) G) → List (Vec (Lane StationSeen) G) → Type 0
OneWorks at caller place j ds rows after = (cs : List ℕ) (hs : List (List Event)) (calls : List (List Call)) → job_doer cs j ≡ caller → RowsStand at ds hs calls (rows_in rows) → RowsWork cs at ds hs calls ((place, j) ∷ []) (rows_in after)

-- the first row is the caller's
pub row_here : {G : Type 0} (at caller place : ℕ) (j : Job) (ds : List DockSeen) (r s : Vec (Lane StationSeen) G) (rs rows : List (Vec (Lane StationSeen) G)) → rows ≡ r ∷ rs → at ≡ caller
    → ((hs : List (List Event)) (calls : List (List Call)) → RowStands caller ds hs calls r.items → RowWorks caller ds hs calls s.items ((place, j) ∷ [])) → OneWorks at caller place j ds rows (s ∷ rs)
row_here {G} at caller place j ds r s rs rows e same works cs hs calls who stand =
    let begin : RowsStand at ds hs calls (rows_in (r ∷ rs)) = subst (λ (v : List (Vec (Lane StationSeen) G)). RowsStand at ds hs calls (rows_in v)) e stand in
    let own : RowWorks caller ds hs calls s.items ((place, j) ∷ []) = works hs calls (subst (λ k. RowStands k ds hs calls r.items) same begin.0) in
    let here : RowWorks at ds hs calls s.items ((place, j) ∷ []) = subst (λ k. RowWorks k ds hs calls s.items ((place, j) ∷ [])) (sym same) own in
    (subst (RowWorks at ds hs calls s.items) (sym (deal_one cs at place j (who ∙ sym same))) here, rows_idle cs (suc at) caller place j ds hs calls (rows_in rs) who (omega (arith, same)) begin.1)

-- another row is
pub row_there : {G : Type 0} (at caller place : ℕ) (j : Job) (ds : List DockSeen) (r : Vec (Lane StationSeen) G) (rs ss rows : List (Vec (Lane StationSeen) G)) → rows ≡ r ∷ rs → at ≢ caller → OneWorks (at + 1) caller place j ds rs ss → OneWorks at caller place j ds rows (r ∷ ss)
row_there {G} at caller place j ds r rs ss rows e ne rest cs hs calls who stand =
    let begin : RowsStand at ds hs calls (rows_in (r ∷ rs)) = subst (λ (v : List (Vec (Lane StationSeen) G)). RowsStand at ds hs calls (rows_in v)) e stand in
    let next : at + 1 ≡ suc at = omega arith in
    let others : RowsWork cs (suc at) ds hs calls ((place, j) ∷ []) (rows_in ss) = subst (λ k. RowsWork cs k ds hs calls ((place, j) ∷ []) (rows_in ss)) next (rest cs hs calls who (subst (λ k. RowsStand k ds hs calls (rows_in rs)) (sym next) begin.1)) in
    (subst (RowWorks at ds hs calls r.items) (sym (deal_none cs at place j (λ f. ne (sym f ∙ who)))) (works_none at ds hs calls r.items begin.0), others)
