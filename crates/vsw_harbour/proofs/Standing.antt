-- A row that stands begins to work.
use Rattle.std.proofs.Common.{◌≡◌, ◌<◌, ℕ, suc, List, [], ◌∷◌, ◌++◌, length, map, drop, subst, refl, ap, sym, ◌∙◌, arith}
use native.Mathlib.Decide.{ℕ_discrete}
use Rattle.vsw_dock.specs.Lane.{Lane}
use Rattle.vsw_dock.specs.Lanes.{start_of, AreTold, AreFit, DoesOn, IsOwn, MovesOn}
use Rattle.vsw_dock.specs.Work.{job_in}
use Rattle.vsw_dock.specs.DealWork.{Work}
use Rattle.vsw_dock.specs.DealWork.TheVariants as work
use Rattle.vsw_dock.specs.Docks.{fits, is_of, locals, pass_in, permits, port_in, tells}
use Rattle.vsw_dock.specs.Meeting.{passes_in}
use Rattle.vsw_dock.specs.Seen.{DockSeen, ParcelSeen, StationSeen}
use Rattle.vsw_port.specs.Calls.{Call, Job, calls_of}
use Rattle.vsw_port.specs.History.{Opening}
use Rattle.vsw_port.specs.declared.event.Event.{Event}
use Rattle.vsw_port.proofs.Fronts.{append_end}
use Rattle.vsw_dock.specs.Actors.{AllRest, Moves, begun}
use Rattle.vsw_dock.specs.ActorsDone.{AreAlike, AtWorkOn}
use Rattle.vsw_dock.specs.Passes.{Crosses, PassNow}
use Rattle.vsw_dock.specs.Phases.{Track}
use Rattle.vsw_dock.proofs.Actors.{actor_begins}
use Rattle.vsw_dock.proofs.Doing.{goes_on}
use Rattle.vsw_policy.specs.Sound.{Each}
use Rattle.vsw_promise.specs.Jobs.{Placed}
use Rattle.vsw_promise.specs.Rounds.{opening_of}
use Rattle.vsw_dock.specs.Plain.{IsAsk}
use Rattle.vsw_harbour.proofs.Pool.{line_alone}
use Rattle.vsw_harbour.specs.Able.{IsLine}
use Rattle.vsw_harbour.specs.Harbour.{locals_in, ports_in}
use Rattle.vsw_harbour.specs.Standing.{RowMay, RowStands}
use Rattle.vsw_harbour.specs.Working.{AreWorking, RowWorks}

-- ---- nothing is done yet

pub rests : (k : ℕ) (ds : List DockSeen) (hs : List (List Event)) (calls : List (List Call)) (row : List (Lane StationSeen)) → RowStands k ds hs calls row → AllRest k (ports_in ds) hs (passes_in row)
rests k [] [] [] [] s = tt
rests k (d ∷ ds) (h ∷ hs) (c ∷ cs) (l ∷ ls) s = (s.0.rest, rests k ds hs cs ls s.1)
rests k [] [] [] (l ∷ ls) s = absurd s
rests k [] [] (c ∷ cs) ls s = absurd s
rests k [] (h ∷ hs) cs ls s = absurd s
rests k (d ∷ ds) [] cs ls s = absurd s
rests k (d ∷ ds) (h ∷ hs) [] ls s = absurd s
rests k (d ∷ ds) (h ∷ hs) (c ∷ cs) [] s = absurd s

begun_lanes : (k : ℕ) (ds : List DockSeen) (hs : List (List Event)) (calls : List (List Call)) (row : List (Lane StationSeen)) → RowStands k ds hs calls row → AreWorking k ds calls (map begun (passes_in row)) row
begun_lanes k [] [] [] [] s = tt
begun_lanes k (d ∷ ds) (h ∷ hs) (c ∷ cs) (l ∷ ls) s =
    (record { of = s.0.of; now = refl; tells_all = subst (tells l.station) (sym (append_end (calls_of (port_in d).controllers k c))) s.0.told }, begun_lanes k ds hs cs ls s.1)
begun_lanes k [] [] [] (l ∷ ls) s = absurd s
begun_lanes k [] [] (c ∷ cs) ls s = absurd s
begun_lanes k [] (h ∷ hs) cs ls s = absurd s
begun_lanes k (d ∷ ds) [] cs ls s = absurd s
begun_lanes k (d ∷ ds) (h ∷ hs) [] ls s = absurd s
begun_lanes k (d ∷ ds) (h ∷ hs) (c ∷ cs) [] s = absurd s

begun_work : (k : ℕ) (ds : List DockSeen) (hs : List (List Event)) (calls : List (List Call)) (row : List (Lane StationSeen)) → RowStands k ds hs calls row → AtWorkOn (locals_in ds) k (ports_in ds) hs (map begun (passes_in row)) []
begun_work k ds hs calls row s = record { hops = []; work = actor_begins 0 k (ports_in ds) hs (passes_in row) (rests k ds hs calls row s); handed = tt }

pub works_none : (k : ℕ) (ds : List DockSeen) (hs : List (List Event)) (calls : List (List Call)) (row : List (Lane StationSeen)) → RowStands k ds hs calls row → RowWorks k ds hs calls row []
works_none k ds hs calls row s = record { tracks = map begun (passes_in row); work = begun_work k ds hs calls row s; lanes = begun_lanes k ds hs calls row s }

-- ---- one job

is_asked : (w : Work) → IsLine w → IsAsk (job_in w)
is_asked (work.Line l) e = tt
is_asked (work.Packet p) e = absurd e

-- the tracks of lanes that have told these calls already
abbrev pub told_tracks : ℕ → List DockSeen → List (List Call) → List (Lane StationSeen) → List Track
told_tracks k (d ∷ ds) (c ∷ cs) (l ∷ ls) = record { start = start_of (port_in d).controllers l.base (pass_in l.station); now = pass_in l.station; calls = calls_of (port_in d).controllers k c } ∷ told_tracks k ds cs ls
told_tracks k _ _ _ = []

pub are_told : (k : ℕ) (ds : List DockSeen) (hs : List (List Event)) (calls : List (List Call)) (row : List (Lane StationSeen)) → RowStands k ds hs calls row → AreTold port_in pass_in tells ds row (told_tracks k ds calls row)
are_told k [] [] [] [] s = tt
are_told k (d ∷ ds) (h ∷ hs) (c ∷ cs) (l ∷ ls) s = (record { start = refl; now = refl; calls = s.0.told }, are_told k ds hs cs ls s.1)
are_told k [] [] [] (l ∷ ls) s = absurd s
are_told k [] [] (c ∷ cs) ls s = absurd s
are_told k [] (h ∷ hs) cs ls s = absurd s
are_told k (d ∷ ds) [] cs ls s = absurd s
are_told k (d ∷ ds) (h ∷ hs) [] ls s = absurd s
are_told k (d ∷ ds) (h ∷ hs) (c ∷ cs) [] s = absurd s

pub are_fit : (k n : ℕ) (ds : List DockSeen) (hs : List (List Event)) (calls : List (List Call)) (row : List (Lane StationSeen)) → RowStands k ds hs calls row → RowMay n row → AreFit pass_in is_of permits k n ds row
are_fit k n [] [] [] [] s m = tt
are_fit k n (d ∷ ds) (h ∷ hs) (c ∷ cs) (l ∷ ls) s m =
    (record { station = s.0.of; number = s.0.rest.number; based = omega (arith, s.0.base, ap length s.0.rest.front); room = m.0 }, are_fit k n ds hs cs ls s.1 m.1)
are_fit k n [] [] [] (l ∷ ls) s m = absurd s
are_fit k n [] [] (c ∷ cs) ls s m = absurd s
are_fit k n [] (h ∷ hs) cs ls s m = absurd s
are_fit k n (d ∷ ds) [] cs ls s m = absurd s
are_fit k n (d ∷ ds) (h ∷ hs) [] ls s m = absurd s
are_fit k n (d ∷ ds) (h ∷ hs) (c ∷ cs) [] s m = absurd s

-- what a track did since it had told its first calls
since : Track → PassNow → Track → Track
since t p u = record { start = p; now = u.now; calls = drop (length t.calls) u.calls }

drop_front : {A : Type 0} (xs ys : List A) → drop (length xs) (xs ++ ys) ≡ ys
drop_front [] ys = refl
drop_front (x ∷ xs) ys = drop_front xs ys

drop_all : {A : Type 0} (xs : List A) → drop (length xs) xs ≡ []
drop_all [] = refl
drop_all (x ∷ xs) = drop_all xs

moved : (o : Opening) (macs : List ℕ) (place : ℕ) (j : Job) (hops : List Placed) (t u : Track) (p : PassNow) → t.now ≡ p → MovesOn o macs place j hops t u → MovesOn o macs place j hops (begun p) (since t p u)
unfolding since
moved o macs place j hops t u p at x = let m = x.moves in record {
  moves = record {
    call = m.call;
    crosses = subst (λ w. Crosses o w u.now j m.call) at m.crosses;
    start = refl;
    calls = ap (drop (length t.calls)) m.calls ∙ drop_front t.calls (m.call ∷ []);
  };
  hands = x.hands;
}

stayed : (t u : Track) (p : PassNow) → t.now ≡ p → u ≡ t → since t p u ≡ begun p
unfolding since
stayed t u p at e =
    let now : u.now ≡ p = ap (λ w. w.now) e ∙ at in
    let calls : drop (length t.calls) u.calls ≡ [] = ap (λ w. drop (length t.calls) w.calls) e ∙ drop_all t.calls in
    λ i. record { start = p; now = now i; calls = calls i }

all_moved : (o : Opening) (j : Job) (t u : Track) (p : PassNow) → Moves o j t u → t.calls ++ (since t p u).calls ≡ u.calls
unfolding since
all_moved o j t u p m =
    let last : drop (length t.calls) u.calls ≡ m.call ∷ [] = ap (drop (length t.calls)) m.calls ∙ drop_front t.calls (m.call ∷ []) in
    ap (λ w. t.calls ++ w) last ∙ sym m.calls

all_stayed : (t u : Track) (p : PassNow) → u ≡ t → t.calls ++ (since t p u).calls ≡ u.calls
unfolding since
all_stayed t u p e =
    let none : drop (length t.calls) u.calls ≡ [] = ap (λ w. drop (length t.calls) w.calls) e ∙ drop_all t.calls in
    ap (λ w. t.calls ++ w) none ∙ (append_end t.calls ∙ sym (ap (λ w. w.calls) e))

record Restarts (place at k : ℕ) (j : Job) (hops : List Placed) (ds : List DockSeen) (calls : List (List Call)) (ls ms : List (Lane StationSeen)) : Type 0 where
  tracks : List Track
  does : DoesOn port_in locals place at j hops ds (map begun (passes_in ls)) tracks
  lanes : AreWorking k ds calls tracks ms

restarted : (place at k : ℕ) (j : Job) (hops : List Placed) (ds : List DockSeen) (hs : List (List Event)) (calls : List (List Call)) (ls ms : List (Lane StationSeen)) (us : List Track) → RowStands k ds hs calls ls → AreTold port_in pass_in tells ds ms us
    → AreFit pass_in is_of permits k 0 ds ms → DoesOn port_in locals place at j hops ds (told_tracks k ds calls ls) us → Restarts place at k j hops ds calls ls ms
unfolding since
restarted place at k j hops [] [] [] [] [] [] s a f d = record { tracks = []; does = tt; lanes = tt }
restarted place at k j hops (d ∷ ds) (h ∷ hs) (c ∷ cs) (l ∷ ls) (m ∷ ms) (u ∷ us) s a f x = by (ℕ_discrete place at) (restarted (suc place) at k j hops ds hs cs ls ms us s.1 a.1 f.1 x.2)
  where
    own : List Call
    own = calls_of (port_in d).controllers k c

    t : Track
    t = record { start = start_of (port_in d).controllers l.base (pass_in l.station); now = pass_in l.station; calls = own }

    tells_so : own ++ (since t (pass_in l.station) u).calls ≡ u.calls → tells m.station (own ++ (since t (pass_in l.station) u).calls)
    tells_so e = subst (tells m.station) (sym e) a.0.calls

    by : Dec (place ≡ at) → Restarts (suc place) at k j hops ds cs ls ms → Restarts place at k j hops (d ∷ ds) (c ∷ cs) (l ∷ ls) (m ∷ ms)
    by (yes e) r = let v = x.0 e in record {
      tracks = since t (pass_in l.station) u ∷ r.tracks;
      does = ((λ f. moved (opening_of (port_in d)) d.locals at j hops t u (pass_in l.station) refl v), (λ ne. absurd (ne e)), r.does);
      lanes = (record { of = f.0.station; now = a.0.now; tells_all = tells_so (all_moved (opening_of (port_in d)) j t u (pass_in l.station) v.moves) }, r.lanes);
    }
    by (no ne) r = let v = x.1 ne in record {
      tracks = since t (pass_in l.station) u ∷ r.tracks;
      does = ((λ e. absurd (ne e)), (λ f. stayed t u (pass_in l.station) refl v), r.does);
      lanes = (record { of = f.0.station; now = a.0.now; tells_all = tells_so (all_stayed t u (pass_in l.station) v) }, r.lanes);
    }
restarted place at k j hops [] [] [] [] [] (u ∷ us) s a f d = absurd a
restarted place at k j hops [] [] [] [] (m ∷ ms) us s a f d = absurd f
restarted place at k j hops [] [] [] (l ∷ ls) ms us s a f d = absurd s
restarted place at k j hops [] [] (c ∷ cs) ls ms us s a f d = absurd s
restarted place at k j hops [] (h ∷ hs) cs ls ms us s a f d = absurd s
restarted place at k j hops (d ∷ ds) [] cs ls ms us s a f x = absurd s
restarted place at k j hops (d ∷ ds) (h ∷ hs) [] ls ms us s a f x = absurd s
restarted place at k j hops (d ∷ ds) (h ∷ hs) (c ∷ cs) [] ms us s a f x = absurd s
restarted place at k j hops (d ∷ ds) (h ∷ hs) (c ∷ cs) (l ∷ ls) [] us s a f x = absurd f
restarted place at k j hops (d ∷ ds) (h ∷ hs) (c ∷ cs) (l ∷ ls) (m ∷ ms) [] s a f x = absurd a

-- the caller of a line has asked it, and done nothing else
pub works_one : (at k : ℕ) (w : Work) (hops : List Placed) (ds : List DockSeen) (hs : List (List Event)) (calls : List (List Call)) (ls ms : List (Lane StationSeen)) → IsLine w → AreAlike locals ds → IsOwn port_in (job_in w) k ds → at < length ds → RowStands k ds hs calls ls
    → AreFit pass_in is_of permits k 0 ds ms
    → ((ts : List Track) → AreTold port_in pass_in tells ds ls ts → (us : List Track) × AreTold port_in pass_in tells ds ms us × DoesOn port_in locals 0 at (job_in w) hops ds ts us)
    → RowWorks k ds hs calls ms ((at, job_in w) ∷ [])
works_one at k w hops ds hs calls ls ms line same who lt s f does =
    let u = does (told_tracks k ds calls ls) (are_told k ds hs calls ls s) in
    let r = restarted 0 at k (job_in w) hops ds hs calls ls ms u.0 s u.1 f u.2 in
    let asked : hops ≡ [] = line_alone port_in locals at (job_in w) hops ds (map begun (passes_in ls)) r.tracks (is_asked w line) lt r.does in
    record {
      tracks = r.tracks;
      work = goes_on port_in locals k at (job_in w) ds hs (map begun (passes_in ls)) r.tracks [] same who lt (begun_work k ds hs calls ls s)
          (record { hops = []; tracks = r.tracks; own = subst (λ h. DoesOn port_in locals 0 at (job_in w) h ds (map begun (passes_in ls)) r.tracks) asked r.does; on = refl });
      lanes = r.lanes;
    }

-- ---- before it

-- a line needs no room
pub line_fits : (w : Work) (q : ParcelSeen) (ds : List DockSeen) → IsLine w → Each (λ d. fits d w q) ds
line_fits w q [] e = tt
line_fits (work.Line l) q (d ∷ ds) e = (tt, line_fits (work.Line l) q ds e)
line_fits (work.Packet p) q (d ∷ ds) e = absurd e

-- a lane for each dock
pub fit_long : (k n : ℕ) (ds : List DockSeen) (ls : List (Lane StationSeen)) → AreFit pass_in is_of permits k n ds ls → length ds ≡ length ls
fit_long k n [] [] f = refl
fit_long k n (d ∷ ds) (l ∷ ls) f = ap suc (fit_long k n ds ls f.1)
fit_long k n [] (l ∷ ls) f = absurd f
fit_long k n (d ∷ ds) [] f = absurd f
