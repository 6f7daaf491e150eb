-- Rows that stood somewhere meet the ports, and stand where these are.
use Rattle.std.proofs.Common.{◌≡◌, ◌≤◌, ℕ, zero, suc, List, [], ◌∷◌, ◌++◌, length, take, drop, refl, ap, sym, ◌∙◌, subst, arith, Vec}
use Rattle.vsw_harbour.specs.Lane.{Lane}
use Rattle.vsw_harbour.specs.Docks.{pass_in, port_in, tells}
use Rattle.vsw_harbour.specs.DockMeeting.{AreHeld, LaneMeets, RowMeets, histories_of}
use Rattle.vsw_harbour.specs.HarbourOpening.{rows_in}
use Rattle.vsw_harbour.specs.Seen.{DockSeen, StationSeen}
use Rattle.vsw_harbour.specs.Harbour.{HarbourSeen, IsHarbour, asks_of, callers}
use Rattle.vsw_harbour.specs.Meeting.{AllMeet, AreLanesAt, RowsMeet}
use Rattle.vsw_harbour.specs.Standing.{RowStands, RowsMay, RowsStand, Stands}
use Rattle.vsw_harbour.specs.Steps.{Did}
use Rattle.vsw_harbour.specs.Working.{RowsWork}
use Rattle.vsw_harbour.proofs.Asking.{asks_many, rows_at}
use Rattle.vsw_harbour.proofs.Held.{as_many, rows_may}
use Rattle.vsw_harbour.proofs.Standing.{works_none}
use Rattle.vsw_harbour.proofs.Together.{did}
use Rattle.vsw_port.specs.Calls.{Call, calls_of, entries_naming}
use Rattle.vsw_port.specs.declared.event.Event.{Event}
use Rattle.vsw_flows.specs.Flows.{IsOf}
use Rattle.vsw_harbour.specs.LiveMeeting.{HeldSeen}
use Rattle.vsw_harbour.specs.Ports as live
use Rattle.vsw_harbour.specs.Passes.{AtRest, Meets}
use Rattle.vsw_policy.specs.Sound.{Each}
use Rattle.vsw_promise.specs.Jobs.{Placed}
use Rattle.vsw_promise.specs.Rounds.{opening_of}

-- ---- where all stand then

told_still : (l m : Lane StationSeen) (calls : List Call) → m.station.lines ≡ l.station.lines → m.station.whole ≡ l.station.whole → tells l.station calls → tells m.station calls
told_still l m calls lines whole t w = lines ∙ t (sym whole ∙ w)

stands_on : (n k : ℕ) (d : DockSeen) (x : HeldSeen) (h : List Event) (calls : List Call) (l m : Lane StationSeen) → x.port ≡ d.live → Stands k d h calls l → LaneMeets n x l m → Stands k d x.history calls m
stands_on n k d x h calls l m at s r =
    let meets : Meets (opening_of (port_in d)) x.history (pass_in l.station) (pass_in m.station) =
    subst (λ (p : live.PortSeen). Meets (opening_of (record { number = d.number; mac = d.mac; rows = p.looking.2; controllers = p.looking.1.controllers; layers = p.looking.1.layers })) x.history (pass_in l.station) (pass_in m.station)) at r.station.meets in
    let number : (pass_in m.station).number ≡ k = meets.number ∙ s.rest.number in
    let rest : AtRest (opening_of (port_in d)) x.history k (pass_in m.station) =
    record { number = number; front = meets.front; receipts = meets.own ∙ ap (λ j. entries_naming (opening_of (port_in d)).controllers j x.history) number } in
    record {
      of = subst (λ (p : live.PortSeen). IsOf p.looking m.station.pass) at r.station.of;
      rest = rest;
      base = r.base;
      told = told_still l m calls r.station.lines r.station.whole s.told;
    }

row_on : (n k : ℕ) (ds : List DockSeen) (helds : List HeldSeen) (hs : List (List Event)) (calls : List (List Call)) (ls ms : List (Lane StationSeen)) → AreHeld ds helds → RowStands k ds hs calls ls → RowMeets n helds ls ms → RowStands k ds (histories_of helds) calls ms
row_on n k [] [] [] [] [] [] a s r = tt
row_on n k (d ∷ ds) (x ∷ helds) (h ∷ hs) (c ∷ calls) (l ∷ ls) (m ∷ ms) a s r = (stands_on n k d x h (calls_of (port_in d).controllers k c) l m a.0 s.0 r.0, row_on n k ds helds hs calls ls ms a.1 s.1 r.1)
row_on n k [] [] [] [] [] (m ∷ ms) a s r = absurd r
row_on n k [] [] [] [] (l ∷ ls) ms a s r = absurd s
row_on n k [] [] [] (c ∷ calls) ls ms a s r = absurd s
row_on n k [] [] (h ∷ hs) calls ls ms a s r = absurd s
row_on n k [] (x ∷ helds) hs calls ls ms a s r = absurd a
row_on n k (d ∷ ds) [] hs calls ls ms a s r = absurd a
row_on n k (d ∷ ds) (x ∷ helds) [] calls ls ms a s r = absurd s
row_on n k (d ∷ ds) (x ∷ helds) (h ∷ hs) [] ls ms a s r = absurd s
row_on n k (d ∷ ds) (x ∷ helds) (h ∷ hs) (c ∷ calls) [] ms a s r = absurd s
row_on n k (d ∷ ds) (x ∷ helds) (h ∷ hs) (c ∷ calls) (l ∷ ls) [] a s r = absurd r

rows_on : (needs : List ℕ) (k : ℕ) (ds : List DockSeen) (helds : List HeldSeen) (hs : List (List Event)) (calls : List (List Call)) (ls ms : List (List (Lane StationSeen))) → AreHeld ds helds → RowsStand k ds hs calls ls → RowsMeet needs helds ls ms
    → RowsStand k ds (histories_of helds) calls ms
rows_on [] k ds helds hs calls [] [] a s r = tt
rows_on (n ∷ needs) k ds helds hs calls (l ∷ ls) (m ∷ ms) a s r = (row_on n k ds helds hs calls l m a s.0 r.0, rows_on needs (suc k) ds helds hs calls ls ms a s.1 r.1)
rows_on [] k ds helds hs calls [] (m ∷ ms) a s r = absurd r
rows_on [] k ds helds hs calls (l ∷ ls) ms a s r = absurd r
rows_on (n ∷ needs) k ds helds hs calls [] ms a s r = absurd r
rows_on (n ∷ needs) k ds helds hs calls (l ∷ ls) [] a s r = absurd r

pub met_many : (needs : List ℕ) (helds : List HeldSeen) (ls ms : List (List (Lane StationSeen))) → RowsMeet needs helds ls ms → length ms ≡ length ls
met_many [] helds [] [] r = refl
met_many (n ∷ needs) helds (l ∷ ls) (m ∷ ms) r = ap suc (met_many needs helds ls ms r.1)
met_many [] helds [] (m ∷ ms) r = absurd r
met_many [] helds (l ∷ ls) ms r = absurd r
met_many (n ∷ needs) helds [] ms r = absurd r
met_many (n ∷ needs) helds (l ∷ ls) [] r = absurd r

-- all stand where the ports are, tell what they told, and may make so many entries
pub record AreMet (h : HarbourSeen) (needs : List ℕ) (calls : List (List Call)) (rows : List (List (Lane StationSeen))) : Type 0 where
  pub histories : List (List Event)
  pub size : length rows ≡ callers h
  pub stand : RowsStand 0 h.docks histories calls rows
  pub may : RowsMay needs rows

pub all_met : (h : HarbourSeen) (needs : List ℕ) (hs : List (List Event)) (calls : List (List Call)) (ls ms : List (List (Lane StationSeen))) → length ls ≡ callers h → RowsStand 0 h.docks hs calls ls → AllMeet h.docks needs ls ms → AreMet h needs calls ms
all_met h needs hs calls ls ms size s m = record {
  histories = histories_of m.helds;
  size = met_many needs m.helds ls ms m.meet ∙ size;
  stand = rows_on needs 0 h.docks m.helds hs calls ls ms m.held s m.meet;
  may = rows_may needs m.helds ls ms m.meet;
}

-- ---- before they meet

rows_still : (cs : List ℕ) (k : ℕ) (ds : List DockSeen) (hs : List (List Event)) (calls : List (List Call)) (rows : List (List (Lane StationSeen))) → RowsStand k ds hs calls rows → RowsWork cs k ds hs calls [] rows
rows_still cs k ds hs calls [] s = tt
rows_still cs k ds hs calls (row ∷ rows) s = (works_none k ds hs calls row s.0, rows_still cs (suc k) ds hs calls rows s.1)

lanes_stand : (h : HarbourSeen) (hs : List (List Event)) (calls : List (List Call)) (rows : List (List (Lane StationSeen))) → RowsStand 0 h.docks hs calls rows → Each (AreLanesAt h.docks) rows
lanes_stand h hs calls rows s = rows_at h.controllers 0 h.docks hs calls [] rows (rows_still h.controllers 0 h.docks hs calls rows s)

pub asks_all : {G : Type 0} (h : HarbourSeen) (asks : List ℕ) (rows : List (Vec (Lane StationSeen) G)) → asks ≡ asks_of h → length (rows_in rows) ≡ callers h → length asks ≡ length rows
asks_all h asks rows e size = ap length e ∙ (asks_many h ∙ (sym size ∙ as_many rows))

-- ---- what they have done since they stood

-- they have done their own of these jobs, and met
pub worked_met : (h : HarbourSeen) (numbers macs listed asks needs : List ℕ) (hs : List (List Event)) (calls : List (List Call)) (jobs : List Placed) (ls ms : List (List (Lane StationSeen))) → IsHarbour h numbers macs listed asks → length ls ≡ callers h → RowsWork h.controllers 0 h.docks hs calls jobs ls
    → AllMeet h.docks needs ls ms → Did h hs calls jobs ms
worked_met h numbers macs listed asks needs hs calls jobs ls ms i size w m = did h needs m.helds hs calls jobs ls ms (met_many needs m.helds ls ms m.meet ∙ size) i.passes m.held w m.meet

-- they have done nothing, and met
pub only_met : (h : HarbourSeen) (numbers macs listed asks needs : List ℕ) (hs : List (List Event)) (calls : List (List Call)) (ls ms : List (List (Lane StationSeen))) → IsHarbour h numbers macs listed asks → length ls ≡ callers h → RowsStand 0 h.docks hs calls ls → AllMeet h.docks needs ls ms → Did h hs calls [] ms
only_met h numbers macs listed asks needs hs calls ls ms i size s m = worked_met h numbers macs listed asks needs hs calls [] ls ms i size (rows_still h.controllers 0 h.docks hs calls ls s) m

-- ---- docks as a call was given them

pub lanes_at : (h : HarbourSeen) (docks : List DockSeen) (hs : List (List Event)) (calls : List (List Call)) (rows : List (List (Lane StationSeen))) → docks ≡ h.docks → RowsStand 0 h.docks hs calls rows → Each (AreLanesAt docks) rows
lanes_at h docks hs calls rows e s = subst (λ (ds : List DockSeen). Each (AreLanesAt ds) rows) (sym e) (lanes_stand h hs calls rows s)

pub met_at : (h : HarbourSeen) (docks : List DockSeen) (needs : List ℕ) (ls ms : List (List (Lane StationSeen))) → docks ≡ h.docks → AllMeet docks needs ls ms → AllMeet h.docks needs ls ms
met_at h docks needs ls ms e m = subst (λ (ds : List DockSeen). AllMeet ds needs ls ms) e m

pub many_rows : {G : Type 0} (h : HarbourSeen) (rows : List (Vec (Lane StationSeen) G)) → length (rows_in rows) ≡ callers h → 16 ≤ length rows
many_rows h rows e = omega (arith, as_many rows, e)

-- ---- rows behind a reference

pub back : {A : Type 0} (n : ℕ) (xs new : List A) → n ≡ length xs → length new ≡ length xs → take n (new ++ drop (length new) xs) ≡ new
back zero [] [] e f = refl
back (suc n) [] [] e f = refl
back zero (x ∷ xs) (y ∷ new) e f = absurd (omega (arith, e))
back (suc n) (x ∷ xs) (y ∷ new) e f = ap (λ w. y ∷ w) (back n xs new (omega (arith, e)) (omega (arith, f)))
back n [] (y ∷ new) e f = absurd (omega (arith, f))
back n (x ∷ xs) [] e f = absurd (omega (arith, f))

pub rows_back : {G : Type 0} (n : ℕ) (rows new : List (Vec (Lane StationSeen) G)) → n ≡ length rows → length new ≡ length rows → rows_in (take n (new ++ drop (length new) rows)) ≡ rows_in new
rows_back n rows new e f = ap rows_in (back n rows new e f)

pub lanes_of : {G : Type 0} (h : HarbourSeen) (docks : List DockSeen) (hs : List (List Event)) (calls : List (List Call)) (rows slice : List (Vec (Lane StationSeen) G)) → docks ≡ h.docks → slice ≡ rows → RowsStand 0 h.docks hs calls (rows_in rows) → Each (AreLanesAt docks) (rows_in slice)
lanes_of {G} h docks hs calls rows slice e f s = subst (λ (w : List (Vec (Lane StationSeen) G)). Each (AreLanesAt docks) (rows_in w)) (sym f) (lanes_at h docks hs calls (rows_in rows) e s)

pub many_slice : {G : Type 0} (h : HarbourSeen) (rows slice : List (Vec (Lane StationSeen) G)) → slice ≡ rows → length (rows_in rows) ≡ callers h → length slice ≡ callers h
many_slice h rows slice f e = ap length f ∙ (sym (as_many rows) ∙ e)

pub asks_slice : {G : Type 0} (h : HarbourSeen) (asks : List ℕ) (rows slice : List (Vec (Lane StationSeen) G)) → asks ≡ asks_of h → slice ≡ rows → length (rows_in rows) ≡ callers h → length asks ≡ length slice
asks_slice h asks rows slice e f size = ap length e ∙ (asks_many h ∙ sym (many_slice h rows slice f size))

pub met_back : {G : Type 0} (h : HarbourSeen) (docks : List DockSeen) (needs asks : List ℕ) (n : ℕ) (rows slice new : List (Vec (Lane StationSeen) G)) → docks ≡ h.docks → needs ≡ asks → slice ≡ rows → n ≡ length rows → length new ≡ length slice → AllMeet docks needs (rows_in slice) (rows_in new)
    → AllMeet h.docks asks (rows_in rows) (rows_in (take n (new ++ drop (length new) rows)))
met_back {G} h docks needs asks n rows slice new e a f m l met =
    let one : AllMeet h.docks needs (rows_in slice) (rows_in new) = met_at h docks needs (rows_in slice) (rows_in new) e met in
    let two : AllMeet h.docks asks (rows_in slice) (rows_in new) = subst (λ (w : List ℕ). AllMeet h.docks w (rows_in slice) (rows_in new)) a one in
    let three : AllMeet h.docks asks (rows_in rows) (rows_in new) = subst (λ (w : List (Vec (Lane StationSeen) G)). AllMeet h.docks asks (rows_in w) (rows_in new)) f two in
    subst (λ (w : List (List (Lane StationSeen))). AllMeet h.docks asks (rows_in rows) w) (sym (rows_back n rows new m (l ∙ ap length f))) three
