-- All callers meet the ports.
use Rattle.std.proofs.Common.{◌≡◌, ◌<◌, ℕ, suc, List, [], ◌∷◌, ◌++◌, length, Some, map, slice_get, ◌+◌, ◌==◌, subst, refl, ap, sym, ◌∙◌, arith, append_assoc}
use mathlib.Core.List.{IsPrefix}
use Rattle.vsw_dock.specs.Lane.{Lane}
use Rattle.vsw_flows.specs.Flows.{IsOf}
use Rattle.vsw_dock.specs.Docks.{pass_in, port_in, tells}
use Rattle.vsw_dock.specs.Meeting.{AreHeld, RowMeets, histories_of, passes_in}
use Rattle.vsw_dock.specs.Seen.{DockSeen, StationSeen}
use Rattle.vsw_port.specs.Calls.{Call, calls_of, doer, named}
use Rattle.vsw_port.specs.History.{AllRight}
use Rattle.vsw_port.specs.declared.event.Event.{Event}
use Rattle.vsw_port.proofs.Fronts.{prefix_trans}
use Rattle.vsw_dock.specs.LiveMeeting.{HeldSeen}
use Rattle.vsw_dock.specs.Ports as live
use Rattle.vsw_dock.specs.Actors.{AllMeet, AllRest, AreRows, HasWorked, lanes_of}
use Rattle.vsw_dock.specs.Handing.{AreHandedRows, HaveHanded, with_hops}
use Rattle.vsw_dock.proofs.Ending.{calls_met}
use Rattle.vsw_dock.specs.Passes.{AtRest, Meets, PassNow}
use Rattle.vsw_dock.specs.Phases as many
use Rattle.vsw_dock.specs.Phases.{Track}
use Rattle.vsw_dock.specs.Rounds.{AreJournals, calls_by_port}
use Rattle.vsw_dock.proofs.Actors.{actor_ends, filter_append}
use Rattle.vsw_policy.specs.Sound.{Each}
use Rattle.vsw_promise.specs.Jobs.{Placed}
use Rattle.vsw_many.specs.Dealing.{deal}
use Rattle.vsw_promise.specs.Rounds.{opening_of}
use Rattle.vsw_many.proofs.Turns.{rows_are_own}
use Rattle.vsw_many.specs.Turns.{AreOwn, append_each}
use Rattle.vsw_harbour.proofs.Pool.{pooled}
use Rattle.vsw_harbour.specs.Harbour.{HarbourSeen, callers, locals_in, ports_in}
use Rattle.vsw_harbour.specs.Meeting.{RowsMeet}
use Rattle.vsw_harbour.specs.Standing.{RowStands, RowsStand}
use Rattle.vsw_harbour.specs.Steps.{Did}
use Rattle.vsw_harbour.specs.Working.{AreWorking, RowWorks, RowsWork}

-- ---- one row

-- a lane that has met: it tells the calls that were told before, and then its track's
record HasMet (k : ℕ) (d : DockSeen) (g : List Event) (told calls : List Call) (m : Lane StationSeen) : Type 0 where
  of : IsOf d.live.looking m.station.pass
  rest : AtRest (opening_of (port_in d)) g k (pass_in m.station)
  base : m.base ≡ length g
  tells_all : tells m.station (told ++ calls)

abbrev HaveMet : ℕ → List DockSeen → List (List Event) → List (List Call) → List many.Lane → List (Lane StationSeen) → Type 0
HaveMet k [] [] [] [] [] = Unit {0}
HaveMet k (d ∷ ds) (g ∷ gs) (c ∷ cs) (l ∷ ls) (m ∷ ms) = HasMet k d g (calls_of (port_in d).controllers k c) l.track.calls m × HaveMet k ds gs cs ls ms
HaveMet k _ _ _ _ _ = ⊥

record RowMet (k : ℕ) (ds : List DockSeen) (hs gs : List (List Event)) (calls : List (List Call)) (ms : List (Lane StationSeen)) (done : List Placed) : Type 0 where
  lanes : List many.Lane
  hops : List (List Placed)
  worked : HasWorked 0 k (ports_in ds) hs gs lanes (with_hops done hops)
  handed : HaveHanded (locals_in ds) (map (λ l. l.track.calls) lanes) done hops
  met : HaveMet k ds gs calls lanes ms

tells_still : (l m : Lane StationSeen) (calls : List Call) → m.station.lines ≡ l.station.lines → m.station.whole ≡ l.station.whole → tells l.station calls → tells m.station calls
tells_still l m calls lines whole t w = lines ∙ t (sym whole ∙ w)

all_meet : (n k : ℕ) (ds : List DockSeen) (helds : List HeldSeen) (calls : List (List Call)) (ts : List Track) (ls ms : List (Lane StationSeen)) → AreHeld ds helds → AreWorking k ds calls ts ls → RowMeets n helds ls ms → AllMeet (ports_in ds) (histories_of helds) ts (passes_in ms)
all_meet n k [] [] [] [] [] [] a w r = tt
all_meet n k (d ∷ ds) (h ∷ helds) (c ∷ cs) (t ∷ ts) (l ∷ ls) (m ∷ ms) a w r =
    let opens : Meets (opening_of (port_in d)) h.history (pass_in l.station) (pass_in m.station) = subst (λ (p : live.PortSeen). Meets (opening_of (record { number = d.number; mac = d.mac; rows = p.looking.2; controllers = p.looking.1.controllers; layers = p.looking.1.layers })) h.history (pass_in l.station) (pass_in m.station)) a.0 r.0.station.meets in
    (subst (λ (p : PassNow). Meets (opening_of (port_in d)) h.history p (pass_in m.station)) (sym w.0.now) opens, all_meet n k ds helds cs ts ls ms a.1 w.1 r.1)
all_meet n k [] [] [] [] [] (m ∷ ms) a w r = absurd r
all_meet n k [] [] [] [] (l ∷ ls) ms a w r = absurd w
all_meet n k [] [] [] (t ∷ ts) ls ms a w r = absurd w
all_meet n k [] [] (c ∷ cs) ts ls ms a w r = absurd w
all_meet n k [] (h ∷ helds) cs ts ls ms a w r = absurd a
all_meet n k (d ∷ ds) [] cs ts ls ms a w r = absurd a
all_meet n k (d ∷ ds) (h ∷ helds) [] ts ls ms a w r = absurd w
all_meet n k (d ∷ ds) (h ∷ helds) (c ∷ cs) [] ls ms a w r = absurd w
all_meet n k (d ∷ ds) (h ∷ helds) (c ∷ cs) (t ∷ ts) [] ms a w r = absurd w
all_meet n k (d ∷ ds) (h ∷ helds) (c ∷ cs) (t ∷ ts) (l ∷ ls) [] a w r = absurd r

have_met : (n k : ℕ) (ds : List DockSeen) (helds : List HeldSeen) (calls : List (List Call)) (ts : List Track) (ls ms : List (Lane StationSeen)) → AreHeld ds helds → AreWorking k ds calls ts ls → RowMeets n helds ls ms
    → AllRest k (ports_in ds) (histories_of helds) (passes_in ms) → HaveMet k ds (histories_of helds) calls (lanes_of ts (passes_in ms)) ms
have_met n k [] [] [] [] [] [] a w r e = tt
have_met n k (d ∷ ds) (h ∷ helds) (c ∷ cs) (t ∷ ts) (l ∷ ls) (m ∷ ms) a w r e = (
  record {
    of = subst (λ (p : live.PortSeen). IsOf p.looking m.station.pass) a.0 r.0.station.of;
    rest = e.0;
    base = r.0.base;
    tells_all = tells_still l m (calls_of (port_in d).controllers k c ++ t.calls) r.0.station.lines r.0.station.whole w.0.tells_all;
  },
  have_met n k ds helds cs ts ls ms a.1 w.1 r.1 e.1,
)
have_met n k [] [] [] [] [] (m ∷ ms) a w r e = absurd r
have_met n k [] [] [] [] (l ∷ ls) ms a w r e = absurd w
have_met n k [] [] [] (t ∷ ts) ls ms a w r e = absurd w
have_met n k [] [] (c ∷ cs) ts ls ms a w r e = absurd w
have_met n k [] (h ∷ helds) cs ts ls ms a w r e = absurd a
have_met n k (d ∷ ds) [] cs ts ls ms a w r e = absurd a
have_met n k (d ∷ ds) (h ∷ helds) [] ts ls ms a w r e = absurd w
have_met n k (d ∷ ds) (h ∷ helds) (c ∷ cs) [] ls ms a w r e = absurd w
have_met n k (d ∷ ds) (h ∷ helds) (c ∷ cs) (t ∷ ts) [] ms a w r e = absurd w
have_met n k (d ∷ ds) (h ∷ helds) (c ∷ cs) (t ∷ ts) (l ∷ ls) [] a w r e = absurd r

row_met : (n k : ℕ) (ds : List DockSeen) (helds : List HeldSeen) (hs : List (List Event)) (calls : List (List Call)) (ls ms : List (Lane StationSeen)) (done : List Placed) → AreHeld ds helds → RowWorks k ds hs calls ls done → RowMeets n helds ls ms → RowMet k ds hs (histories_of helds) calls ms done
row_met n k ds helds hs calls ls ms done a w r =
    let meet = all_meet n k ds helds calls w.tracks ls ms a w.lanes r in
    let ends = actor_ends 0 k (ports_in ds) hs (histories_of helds) w.tracks (passes_in ms) (with_hops done w.work.hops) w.work.work meet in record {
      lanes = lanes_of w.tracks (passes_in ms);
      hops = w.work.hops;
      worked = ends.0;
      handed = subst (λ cs. HaveHanded (locals_in ds) cs done w.work.hops) (calls_met (ports_in ds) (histories_of helds) w.tracks (passes_in ms) meet) w.work.handed;
      met = have_met n k ds helds calls w.tracks ls ms a w.lanes r ends.1;
    }

-- ---- all rows

abbrev AllHaveMet : ℕ → List DockSeen → List (List Event) → List (List Call) → List (List many.Lane) → List (List (Lane StationSeen)) → Type 0
AllHaveMet k ds gs calls [] [] = Unit {0}
AllHaveMet k ds gs calls (r ∷ rs) (m ∷ ms) = HaveMet k ds gs calls r m × AllHaveMet (suc k) ds gs calls rs ms
AllHaveMet k ds gs calls _ _ = ⊥

record RowsMet (cs : List ℕ) (k : ℕ) (ds : List DockSeen) (hs gs : List (List Event)) (calls : List (List Call)) (jobs : List Placed) (ms : List (List (Lane StationSeen))) : Type 0 where
  rows : List (List many.Lane)
  hops : List (List (List Placed))
  size : length rows ≡ length ms
  done : AreHandedRows (locals_in ds) cs jobs k (ports_in ds) hs gs rows hops
  met : AllHaveMet k ds gs calls rows ms

rows_met : (cs : List ℕ) (k : ℕ) (needs : List ℕ) (ds : List DockSeen) (helds : List HeldSeen) (hs : List (List Event)) (calls : List (List Call)) (jobs : List Placed) (ls ms : List (List (Lane StationSeen))) → AreHeld ds helds → RowsWork cs k ds hs calls jobs ls → RowsMeet needs helds ls ms
    → RowsMet cs k ds hs (histories_of helds) calls jobs ms
rows_met cs k [] ds helds hs calls jobs [] [] a w r = record { rows = []; hops = []; size = refl; done = tt; met = tt }
rows_met cs k (n ∷ needs) ds helds hs calls jobs (l ∷ ls) (m ∷ ms) a w r =
    let one = row_met n k ds helds hs calls l m (deal cs k jobs) a w.0 r.0 in
    let rest = rows_met cs (suc k) needs ds helds hs calls jobs ls ms a w.1 r.1 in
    record { rows = one.lanes ∷ rest.rows; hops = one.hops ∷ rest.hops; size = ap suc rest.size; done = (one.worked, one.handed, rest.done); met = (one.met, rest.met) }
rows_met cs k [] ds helds hs calls jobs [] (m ∷ ms) a w r = absurd r
rows_met cs k [] ds helds hs calls jobs (l ∷ ls) ms a w r = absurd r
rows_met cs k (n ∷ needs) ds helds hs calls jobs [] ms a w r = absurd r
rows_met cs k (n ∷ needs) ds helds hs calls jobs (l ∷ ls) [] a w r = absurd r

-- ---- what they tell then

own_append : (cs : List ℕ) (k : ℕ) (xs ys : List Call) → calls_of cs k (xs ++ ys) ≡ calls_of cs k xs ++ calls_of cs k ys
own_append cs k xs ys = filter_append (λ c. doer cs c.deed == k) xs ys

row_stands : (k : ℕ) (ds : List DockSeen) (gs : List (List Event)) (calls more : List (List Call)) (lanes : List many.Lane) (ms : List (Lane StationSeen)) → HaveMet k ds gs calls lanes ms → AreOwn k (ports_in ds) more lanes → RowStands k ds gs (append_each calls more) ms
row_stands k [] [] [] [] [] [] m o = tt
row_stands k (d ∷ ds) (g ∷ gs) (c ∷ cs) (e ∷ es) (l ∷ ls) (m ∷ ms) x o =
    let all : calls_of (port_in d).controllers k c ++ l.track.calls ≡ calls_of (port_in d).controllers k (c ++ e) = ap (λ w. calls_of (port_in d).controllers k c ++ w) (sym o.0) ∙ sym (own_append (port_in d).controllers k c e) in
    (record { of = x.0.of; rest = x.0.rest; base = x.0.base; told = subst (tells m.station) all x.0.tells_all }, row_stands k ds gs cs es ls ms x.1 o.1)
row_stands k [] [] [] [] [] (m ∷ ms) x o = absurd x
row_stands k [] [] [] [] (l ∷ ls) ms x o = absurd x
row_stands k [] [] [] (e ∷ es) [] ms x o = absurd o
row_stands k [] [] [] (e ∷ es) (l ∷ ls) ms x o = absurd o
row_stands k [] [] (c ∷ cs) es ls ms x o = absurd x
row_stands k [] (g ∷ gs) cs es ls ms x o = absurd x
row_stands k (d ∷ ds) [] cs es ls ms x o = absurd x
row_stands k (d ∷ ds) (g ∷ gs) [] es ls ms x o = absurd x
row_stands k (d ∷ ds) (g ∷ gs) (c ∷ cs) es [] ms x o = absurd x
row_stands k (d ∷ ds) (g ∷ gs) (c ∷ cs) [] (l ∷ ls) ms x o = absurd o
row_stands k (d ∷ ds) (g ∷ gs) (c ∷ cs) (e ∷ es) (l ∷ ls) [] x o = absurd x

-- these rows stand among all from this place on
abbrev Among : List (List many.Lane) → ℕ → List (List many.Lane) → Type 0
Among all k [] = Unit {0}
Among all k (r ∷ rs) = (slice_get all k ≡ Some r) × Among all (suc k) rs

get_behind : {A : Type 0} (xs ys : List A) (y : A) → slice_get (xs ++ y ∷ ys) (length xs) ≡ Some y
get_behind [] ys y = refl
get_behind (x ∷ xs) ys y = get_behind xs ys y

one_longer : {A : Type 0} (xs : List A) (x : A) → length (xs ++ x ∷ []) ≡ suc (length xs)
one_longer [] x = refl
one_longer (y ∷ xs) x = ap suc (one_longer xs x)

among_front : (front rest : List (List many.Lane)) → Among (front ++ rest) (length front) rest
among_front front [] = tt
among_front front (r ∷ rs) =
    (get_behind front rs r, subst (λ all. Among all (suc (length front)) rs) (append_assoc front (r ∷ []) rs) (subst (λ n. Among ((front ++ r ∷ []) ++ rs) n rs) (one_longer front r) (among_front (front ++ r ∷ []) rs)))

rows_stand : (cs : List ℕ) (jobs : List Placed) (k : ℕ) (ds : List DockSeen) (hs gs : List (List Event)) (calls : List (List Call)) (all rows : List (List many.Lane)) (ms : List (List (Lane StationSeen))) → AreRows cs jobs 0 0 (ports_in ds) hs gs all → Among all k rows → AllHaveMet k ds gs calls rows ms
    → RowsStand k ds gs (append_each calls (calls_by_port (ports_in ds) all)) ms
rows_stand cs jobs k ds hs gs calls all [] [] d a m = tt
rows_stand cs jobs k ds hs gs calls all (r ∷ rs) (m ∷ ms) d a x =
    (row_stands k ds gs calls (calls_by_port (ports_in ds) all) r m x.0 (rows_are_own cs jobs 0 k (ports_in ds) hs gs all r d a.0), rows_stand cs jobs (suc k) ds hs gs calls all rs ms d a.1 x.1)
rows_stand cs jobs k ds hs gs calls all [] (m ∷ ms) d a x = absurd x
rows_stand cs jobs k ds hs gs calls all (r ∷ rs) [] d a x = absurd x

-- ---- the histories

journals_met : (callers n k : ℕ) (ds : List DockSeen) (helds : List HeldSeen) (hs : List (List Event)) (ls ms : List (Lane StationSeen)) (lanes : List many.Lane) (done : List Placed) (place : ℕ) → Each (λ d. d.live.passes ≡ callers) ds → AreHeld ds helds → RowMeets n helds ls ms
    → HasWorked place k (ports_in ds) hs (histories_of helds) lanes done → AreJournals callers (ports_in ds) hs (histories_of helds)
journals_met callers n k [] [] [] [] [] [] done place p a r w = tt
journals_met callers n k (d ∷ ds) (x ∷ helds) (h ∷ hs) (l ∷ ls) (m ∷ ms) (t ∷ ts) done place p a r w =
    let right : AllRight (opening_of (port_in d)) x.history = subst (λ (q : live.PortSeen). AllRight (opening_of (record { number = d.number; mac = d.mac; rows = q.looking.2; controllers = q.looking.1.controllers; layers = q.looking.1.layers })) x.history) a.0 r.0.station.right in
    let names : Each (λ e. named d.live.looking.1.controllers e < d.live.passes) x.history = subst (λ (q : live.PortSeen). Each (λ e. named q.looking.1.controllers e < q.passes) x.history) a.0 r.0.station.named in
    let begins : IsPrefix h t.track.now.front = subst (λ f. IsPrefix f t.track.now.front) w.0.is.rest.front w.0.is.works.seen in
    (right, prefix_trans h t.track.now.front x.history begins w.0.meets.seen, subst (λ c. Each (λ e. named d.live.looking.1.controllers e < c) x.history) p.0 names, journals_met callers n k ds helds hs ls ms ts done (suc place) p.1 a.1 r.1 w.2)
journals_met callers n k [] [] [] [] [] (t ∷ ts) done place p a r w = absurd w
journals_met callers n k [] [] [] [] (m ∷ ms) ts done place p a r w = absurd r
journals_met callers n k [] [] [] (l ∷ ls) ms ts done place p a r w = absurd r
journals_met callers n k [] [] (h ∷ hs) ls ms ts done place p a r w = absurd w
journals_met callers n k [] (x ∷ helds) hs ls ms ts done place p a r w = absurd a
journals_met callers n k (d ∷ ds) [] hs ls ms ts done place p a r w = absurd a
journals_met callers n k (d ∷ ds) (x ∷ helds) [] ls ms ts done place p a r w = absurd w
journals_met callers n k (d ∷ ds) (x ∷ helds) (h ∷ hs) [] ms ts done place p a r w = absurd r
journals_met callers n k (d ∷ ds) (x ∷ helds) (h ∷ hs) (l ∷ ls) [] ts done place p a r w = absurd r
journals_met callers n k (d ∷ ds) (x ∷ helds) (h ∷ hs) (l ∷ ls) (m ∷ ms) [] done place p a r w = absurd w

first_journals : (cs : List ℕ) (callers : ℕ) (needs : List ℕ) (ds : List DockSeen) (helds : List HeldSeen) (hs : List (List Event)) (jobs : List Placed) (ls ms : List (List (Lane StationSeen))) (rows : List (List many.Lane)) (hops : List (List (List Placed))) → 0 < length ms → length rows ≡ length ms → Each (λ d. d.live.passes ≡ callers) ds → AreHeld ds helds → RowsMeet needs helds ls ms
    → AreHandedRows (locals_in ds) cs jobs 0 (ports_in ds) hs (histories_of helds) rows hops → AreJournals callers (ports_in ds) hs (histories_of helds)
first_journals cs callers (n ∷ needs) ds helds hs jobs (l ∷ ls) (m ∷ ms) (row ∷ rows) (h ∷ hops) some size p a r d = journals_met callers n 0 ds helds hs l m row (with_hops (deal cs 0 jobs) h) 0 p a r.0 d.0
first_journals cs callers (n ∷ needs) ds helds hs jobs (l ∷ ls) (m ∷ ms) (row ∷ rows) [] some size p a r d = absurd d
first_journals cs callers needs ds helds hs jobs ls [] rows hops some size p a r d = absurd (omega (arith, some))
first_journals cs callers needs ds helds hs jobs ls (m ∷ ms) [] hops some size p a r d = absurd (omega (arith, size))
first_journals cs callers [] ds helds hs jobs [] (m ∷ ms) (row ∷ rows) hops some size p a r d = absurd r
first_journals cs callers [] ds helds hs jobs (l ∷ ls) (m ∷ ms) (row ∷ rows) hops some size p a r d = absurd r
first_journals cs callers (n ∷ needs) ds helds hs jobs [] (m ∷ ms) (row ∷ rows) hops some size p a r d = absurd r

-- all callers did their own of the jobs, and met
pub did : (h : HarbourSeen) (needs : List ℕ) (helds : List HeldSeen) (hs : List (List Event)) (calls : List (List Call)) (jobs : List Placed) (ls ms : List (List (Lane StationSeen))) → length ms ≡ callers h → Each (λ d. d.live.passes ≡ 16 + length h.controllers) h.docks → AreHeld h.docks helds
    → RowsWork h.controllers 0 h.docks hs calls jobs ls → RowsMeet needs helds ls ms → Did h hs calls jobs ms
did h needs helds hs calls jobs ls ms size passes a w r =
    let x = rows_met h.controllers 0 needs h.docks helds hs calls jobs ls ms a w r in
    let pool = pooled (locals_in h.docks) h.controllers jobs (ports_in h.docks) hs (histories_of helds) x.rows x.hops x.done in record {
      histories = histories_of helds;
      rows = x.rows;
      hops = x.hops;
      size = x.size ∙ size;
      done = x.done;
      journals = first_journals h.controllers (callers h) needs h.docks helds hs jobs ls ms x.rows x.hops (omega (arith, size)) x.size passes a r x.done;
      stand = rows_stand h.controllers pool.0 0 h.docks hs (histories_of helds) calls x.rows x.rows ms pool.1 (among_front [] x.rows) x.met;
    }
