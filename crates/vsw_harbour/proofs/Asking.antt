-- A command is asked by its controller, and all callers meet the ports.
use Rattle.std.proofs.Common.{◌≡◌, ◌≤◌, ◌<◌, ℕ, zero, suc, true, map, List, [], ◌∷◌, ◌++◌, length, replicate, ◌+◌, Vec, subst, refl, ap, sym, ◌∙◌, arith, length-append}
use Rattle.std.proofs.lemmas.List.{length-map, length-replicate}
use Rattle.vsw_dock.specs.Lane.{Lane}
use Rattle.vsw_dock.specs.Lanes.{AreFit, IsOwn, IsTaken}
use Rattle.vsw_many.specs.Turns.{append_each}
use Rattle.vsw_dock.specs.Work.{IsPlaced, MayDo}
use Rattle.vsw_dock.specs.ActorsDone.{AreAlike}
use Rattle.vsw_dock.proofs.Steps.{place_within}
use Rattle.vsw_dock.specs.DealWork.{Work}
use Rattle.vsw_dock.specs.Docks.{is_of, locals, pass_in, permits, port_in, takes}
use Rattle.vsw_dock.specs.Opening.{rows_in}
use Rattle.vsw_dock.specs.Seen.{DockSeen, StationSeen}
use Rattle.vsw_port.specs.Calls.{Call, Job, job_doer, controller_at}
use Rattle.vsw_port.specs.declared.event.Event.{Event}
use Rattle.vsw_dock.specs.Phases.{Track}
use Rattle.vsw_dock.specs.Rounds.{calls_by_port}
use Rattle.vsw_policy.specs.Layers.{place_of}
use Rattle.vsw_policy.specs.Sound.{Each, is_listed}
use Rattle.vsw_promise.specs.Jobs.{Placed}
use Rattle.vsw_harbour.specs.Able.{IsAble}
use Rattle.vsw_harbour.specs.Harbour.{HarbourSeen, IsHarbour, asks_of, callers, ports_in}
use Rattle.vsw_harbour.specs.Meeting.{AreLanesAt}
use Rattle.vsw_harbour.specs.Standing.{RowMay, RowsMay, RowsStand}
use Rattle.vsw_harbour.specs.Steps.{Did, MayGo}
use Rattle.vsw_harbour.specs.Working.{AreWorking, RowsWork}
use Rattle.vsw_harbour.proofs.Held.{as_many}
use Rattle.vsw_harbour.proofs.Standing.{are_fit}

-- ---- who may ask

-- at the place of the caller, from this one on, one entry may be made
Ones : ℕ → ℕ → List ℕ → Type 0
Ones at caller [] = Unit {0}
Ones at caller (n ∷ ns) = ((at ≡ caller) → n ≡ 1) × Ones (suc at) caller ns

ones : (m at caller : ℕ) → Ones at caller (replicate m 1)
unfolding Ones
ones zero at caller = tt
ones (suc m) at caller = ((λ e. refl), ones m (suc at) caller)

zeros : (m at caller : ℕ) (rest : List ℕ) → at + m ≤ caller → ((to : ℕ) → Ones to caller rest) → Ones at caller (replicate m 0 ++ rest)
unfolding Ones
zeros zero at caller rest le r = r at
zeros (suc m) at caller rest le r = ((λ e. absurd (omega (arith, e, le))), zeros m (suc at) caller rest (omega (arith, le)) r)

able : (at caller : ℕ) (ns : List ℕ) (ds : List DockSeen) (hs : List (List Event)) (calls : List (List Call)) (rows : List (List (Lane StationSeen))) → Ones at caller ns → RowsStand at ds hs calls rows → RowsMay ns rows → IsAble at caller ds rows
unfolding Ones
able at caller [] ds hs calls [] o s m = tt
able at caller (n ∷ ns) ds hs calls (r ∷ rs) o s m = ((λ e. subst (λ w. AreFit pass_in is_of permits w 1 ds r) e (are_fit at 1 ds hs calls r s.0 (subst (λ w. RowMay w r) (o.0 e) m.0))), able (suc at) caller ns ds hs calls rs o.1 s.1 m.1)
able at caller [] ds hs calls (r ∷ rs) o s m = absurd m
able at caller (n ∷ ns) ds hs calls [] o s m = absurd m

asks_ones : (h : HarbourSeen) (caller : ℕ) → 16 ≤ caller → Ones 0 caller (asks_of h)
asks_ones h caller low = zeros 16 0 caller (replicate (length h.controllers) 1) (omega (arith, low)) (λ to. ones (length h.controllers) to caller)

-- a controller may ask from where all stand
pub may_ask : (h : HarbourSeen) (docks : List DockSeen) (c caller : ℕ) (rows : List (List (Lane StationSeen))) → docks ≡ h.docks → caller ≡ controller_at h.controllers c → MayGo h (asks_of h) rows → IsAble 0 caller docks rows
may_ask h docks c caller rows e f m =
    let low : 16 ≤ caller = omega (arith, f) in
    subst (λ (ds : List DockSeen). IsAble 0 caller ds rows) (sym e) (able 0 caller (asks_of h) h.docks m.histories m.calls rows (asks_ones h caller low) m.stand m.may)

own_all : (cs : List ℕ) (k : ℕ) (j : Job) (ds : List DockSeen) → Each (λ d. d.live.looking.1.controllers ≡ cs) ds → job_doer cs j ≡ k → IsOwn port_in j k ds
own_all cs k j [] c e = tt
own_all cs k j (d ∷ ds) c e = (ap (λ v. job_doer v j) c.0 ∙ e, own_all cs k j ds c.1 e)

taken_all : (cs : List ℕ) (at place : ℕ) (w : Work) (ds : List DockSeen) → Each (λ d. d.live.looking.1.controllers ≡ cs) ds → IsPlaced place w → MayDo cs w → IsTaken takes at place w ds
taken_all cs at place w [] c p m = tt
taken_all cs at place w (d ∷ ds) c p m = ((λ e. (p, subst (λ v. MayDo v w) (sym c.0) m)), taken_all cs (suc at) place w ds c.1 p m)

-- the number of a controller among the callers
pub caller_is : (h g : HarbourSeen) (controllers : List ℕ) (c place : ℕ) → h ≡ g → controllers ≡ h.controllers → place ≡ place_of c controllers → 16 + place ≡ controller_at g.controllers c
caller_is h g controllers c place e f is = ap (λ n. 16 + n) (is ∙ ap (place_of c) (f ∙ ap (λ (w : HarbourSeen). w.controllers) e))

-- a caller may do its job at each port
pub harbour_own : (h : HarbourSeen) (numbers macs listed asks : List ℕ) (docks : List DockSeen) (k : ℕ) (j : Job) → IsHarbour h numbers macs listed asks → docks ≡ h.docks → k ≡ job_doer h.controllers j → IsOwn port_in j k docks
harbour_own h numbers macs listed asks docks k j i e f = subst (λ (ds : List DockSeen). IsOwn port_in j k ds) (sym e) (own_all h.controllers k j h.docks i.controllers_are (sym f))

pub harbour_takes : (h : HarbourSeen) (numbers macs listed asks : List ℕ) (docks : List DockSeen) (place : ℕ) (w : Work) → IsHarbour h numbers macs listed asks → docks ≡ h.docks → IsPlaced place w → MayDo h.controllers w → IsTaken takes 0 place w docks
harbour_takes h numbers macs listed asks docks place w i e p m = subst (λ (ds : List DockSeen). IsTaken takes 0 place w ds) (sym e) (taken_all h.controllers 0 place w h.docks i.controllers_are p m)

-- all docks hand packets on to the same ports
pub harbour_alike : (h : HarbourSeen) (numbers macs listed asks : List ℕ) (docks : List DockSeen) → IsHarbour h numbers macs listed asks → docks ≡ h.docks → AreAlike locals docks
harbour_alike h numbers macs listed asks docks i e = subst (λ (ds : List DockSeen). AreAlike locals ds) (sym e) i.alike

-- a port that a line names is here
pub harbour_within : (h : HarbourSeen) (numbers macs listed asks given : List ℕ) (docks : List DockSeen) (port place : ℕ) → IsHarbour h numbers macs listed asks → given ≡ numbers → docks ≡ h.docks → place ≡ place_of port given → is_listed (map (λ d. d.number) h.docks) port ≡ true → place < length docks
harbour_within h numbers macs listed asks given docks port place i n e at is =
    let here : place_of port given ≡ place_of port (map (λ d. d.number) h.docks) = ap (place_of port) (n ∙ i.numbers_are) in
    let many : length (map (λ (d : DockSeen). d.number) h.docks) ≡ length h.docks = length-map h.docks (λ (d : DockSeen). d.number) in
    omega (arith, at, here, many, ap length e, place_within (map (λ d. d.number) h.docks) port is)

-- few rows, so that their numbers fit
pub rows_few : {G : Type 0} (h : HarbourSeen) (numbers macs listed asks needs : List ℕ) (rows : List (Vec (Lane StationSeen) G)) → IsHarbour h numbers macs listed asks → MayGo h needs (rows_in rows) → 0 + length rows ≤ 65536
rows_few h numbers macs listed asks needs rows i m = omega (arith, as_many rows, m.size, i.callers_few)

-- ---- callers at work have lanes at the docks

lanes_at : (k : ℕ) (ds : List DockSeen) (calls : List (List Call)) (ts : List Track) (ls : List (Lane StationSeen)) → AreWorking k ds calls ts ls → AreLanesAt ds ls
lanes_at k [] [] [] [] w = tt
lanes_at k (d ∷ ds) (c ∷ cs) (t ∷ ts) (l ∷ ls) w = (w.0.of, lanes_at k ds cs ts ls w.1)
lanes_at k [] [] [] (l ∷ ls) w = absurd w
lanes_at k [] [] (t ∷ ts) ls w = absurd w
lanes_at k [] (c ∷ cs) ts ls w = absurd w
lanes_at k (d ∷ ds) [] ts ls w = absurd w
lanes_at k (d ∷ ds) (c ∷ cs) [] ls w = absurd w
lanes_at k (d ∷ ds) (c ∷ cs) (t ∷ ts) [] w = absurd w

-- so they have, whatever each has done
pub rows_at : (cs : List ℕ) (k : ℕ) (ds : List DockSeen) (hs : List (List Event)) (calls : List (List Call)) (jobs : List Placed) (rows : List (List (Lane StationSeen))) → RowsWork cs k ds hs calls jobs rows → Each (AreLanesAt ds) rows
rows_at cs k ds hs calls jobs [] w = tt
rows_at cs k ds hs calls jobs (r ∷ rs) w = (lanes_at k ds calls w.0.tracks r w.0.lanes, rows_at cs (suc k) ds hs calls jobs rs w.1)

-- ---- and meet

-- what jobs leave of rows that stood somewhere
abbrev pub JobsWork : HarbourSeen → List Placed → List (List (Lane StationSeen)) → List (List (Lane StationSeen)) → Type 0
JobsWork h jobs rows after = (hs : List (List Event)) (calls : List (List Call)) → RowsStand 0 h.docks hs calls rows → RowsWork h.controllers 0 h.docks hs calls jobs after

-- one need for each caller
pub asks_many : (h : HarbourSeen) → length (asks_of h) ≡ callers h
asks_many h =
    let none : List ℕ = replicate 16 0 in
    let one : List ℕ = replicate (length h.controllers) 1 in
    let all : length (none ++ one) ≡ length none + length one = length-append none one in
    let more : length one ≡ length h.controllers = length-replicate (length h.controllers) 1 in
    omega (arith, all, more)

-- whoever worked may meet the ports
pub may_meet : (h : HarbourSeen) (jobs : List Placed) (rows after : List (List (Lane StationSeen))) → MayGo h (asks_of h) rows → JobsWork h jobs rows after → Each (AreLanesAt h.docks) after
may_meet h jobs rows after m w = rows_at h.controllers 0 h.docks m.histories m.calls jobs after (w m.histories m.calls m.stand)

-- no row came or went
pub still_many : {G : Type 0} (h : HarbourSeen) (asks : List ℕ) (rows after : List (Vec (Lane StationSeen) G)) → MayGo h asks (rows_in rows) → length after ≡ length rows → length after ≡ callers h
still_many h asks rows after m same = same ∙ (sym (as_many rows) ∙ m.size)

-- from where all stood they may go on
pub may_go : {G : Type 0} (h : HarbourSeen) (needs asks : List ℕ) (jobs : List Placed) (rows : List (List (Lane StationSeen))) (met : List (Vec (Lane StationSeen) G)) → MayGo h asks rows → ((hs : List (List Event)) (calls : List (List Call)) → RowsStand 0 h.docks hs calls rows → Did h hs calls jobs (rows_in met))
    → length met ≡ callers h → needs ≡ asks → RowsMay needs (rows_in met) → MayGo h asks (rows_in met)
may_go h needs asks jobs rows met g did size e may =
    let d = did g.histories g.calls g.stand in record {
      histories = d.histories;
      calls = append_each g.calls (calls_by_port (ports_in h.docks) d.rows);
      size = as_many met ∙ size;
      stand = d.stand;
      may = subst (λ (ns : List ℕ). RowsMay ns (rows_in met)) e may;
    }
