-- All callers of a run meet its ports.
use Rattle.std.proofs.Common.{◌≡◌, ℕ, suc, List, [], ◌∷◌, length, Vec, subst, ap, sym, ◌∙◌}
use Rattle.vsw_dock.specs.Lane.{Lane}
use Rattle.vsw_dock.specs.Meeting.{AreHeld}
use Rattle.vsw_dock.specs.Opening.{rows_in}
use Rattle.vsw_dock.specs.Seen.{DockSeen, StationSeen}
use Rattle.vsw_port.specs.Calls.{Call}
use Rattle.vsw_port.specs.declared.event.Event.{Event}
use Rattle.vsw_policy.specs.Sound.{Each}
use Rattle.vsw_promise.specs.Jobs.{Placed}
use Rattle.vsw_harbour.specs.Harbour.{HarbourSeen, IsHarbour, callers}
use Rattle.vsw_harbour.specs.Meeting.{AllMeet, AreLanesAt}
use Rattle.vsw_harbour.specs.Standing.{RowsMay, RowsStand}
use Rattle.vsw_harbour.specs.Steps.{Did}
use Rattle.vsw_harbour.specs.Working.{RowsWork}
use Rattle.vsw_harbour.proofs.Held.{as_many, rows_may}
use Rattle.vsw_harbour.proofs.Standing.{works_none}
use Rattle.vsw_harbour.proofs.Together.{did}

-- what holds of a harbour as it is seen
pub harbour_is : (h g : HarbourSeen) (numbers macs listed asks : List ℕ) → h ≡ g → IsHarbour h numbers macs listed asks → IsHarbour g numbers macs listed asks
harbour_is h g numbers macs listed asks e i = subst (λ (w : HarbourSeen). IsHarbour w numbers macs listed asks) e i

-- the docks of a harbour as it is seen
pub docks_are : (h g : HarbourSeen) (docks : List DockSeen) → h ≡ g → docks ≡ h.docks → docks ≡ g.docks
docks_are h g docks e f = f ∙ ap (λ (w : HarbourSeen). w.docks) e

-- callers that stand have done none of no jobs
pub rows_none : (cs : List ℕ) (k : ℕ) (ds : List DockSeen) (hs : List (List Event)) (calls : List (List Call)) (rows : List (List (Lane StationSeen))) → RowsStand k ds hs calls rows → RowsWork cs k ds hs calls [] rows
rows_none cs k ds hs calls [] s = tt
rows_none cs k ds hs calls (r ∷ rs) s = (works_none k ds hs calls r s.0, rows_none cs (suc k) ds hs calls rs s.1)

-- lanes at its docks
pub lanes_here : (h : HarbourSeen) (docks : List DockSeen) (rows : List (List (Lane StationSeen))) → docks ≡ h.docks → Each (AreLanesAt h.docks) rows → Each (AreLanesAt docks) rows
lanes_here h docks rows e l = subst (λ (ds : List DockSeen). Each (AreLanesAt ds) rows) (sym e) l

-- whatever each did of its own, they met
pub all_did : {G : Type 0} (h : HarbourSeen) (numbers macs listed asks needs : List ℕ) (docks : List DockSeen) (rows met : List (Vec (Lane StationSeen) G)) → IsHarbour h numbers macs listed asks → docks ≡ h.docks → length rows ≡ callers h → length met ≡ length rows → AllMeet docks needs (rows_in rows) (rows_in met)
    → (hs : List (List Event)) (calls : List (List Call)) (jobs : List Placed) → RowsWork h.controllers 0 h.docks hs calls jobs (rows_in rows) → Did h hs calls jobs (rows_in met)
all_did h numbers macs listed asks needs docks rows met i e size same m hs calls jobs w =
    let held : AreHeld h.docks m.helds = subst (λ (ds : List DockSeen). AreHeld ds m.helds) e m.held in
    did h needs m.helds hs calls jobs (rows_in rows) (rows_in met) (as_many met ∙ (same ∙ size)) i.passes held w m.meet

-- and where all only stood, of no jobs
pub all_idle : {G : Type 0} (h : HarbourSeen) (rows met : List (Vec (Lane StationSeen) G)) → ((hs : List (List Event)) (calls : List (List Call)) (jobs : List Placed) → RowsWork h.controllers 0 h.docks hs calls jobs (rows_in rows) → Did h hs calls jobs (rows_in met))
    → (hs : List (List Event)) (calls : List (List Call)) → RowsStand 0 h.docks hs calls (rows_in rows) → Did h hs calls [] (rows_in met)
all_idle h rows met did hs calls s = did hs calls [] (rows_none h.controllers 0 h.docks hs calls (rows_in rows) s)

-- each may make as many entries as it needs
pub all_may : (docks : List DockSeen) (needs : List ℕ) (rows met : List (List (Lane StationSeen))) → AllMeet docks needs rows met → RowsMay needs met
all_may docks needs rows met m = rows_may needs m.helds rows met m.meet
