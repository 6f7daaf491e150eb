-- Rows that met their ports.
use Rattle.std.proofs.Common.{◌≡◌, ◌≤◌, ◌∷◌, [], ℕ, List, length, sym, ap, ◌∙◌, subst, arith}
use Rattle.vsw_actors.specs.declared.lane.Lane.{Lane}
use Rattle.vsw_actors.specs.Lanes.{AreFit, IsFit}
use Rattle.vsw_port.specs.declared.event.Event.{Event}
use Rattle.vsw_port.specs.Calls.{entries_naming}
use Rattle.vsw_live.specs.Meeting.{HeldSeen}
use Rattle.vsw_live.specs.Ports as live
use Rattle.vsw_actors.specs.Passes.{AtRest, Meets}
use Rattle.vsw_promise.specs.Rounds.{opening_of}
use Rattle.vsw_flows.specs.Flows.{IsOf}
use Rattle.vsw_dock.specs.Docks.{is_of, pass_in, permits, port_in}
use Rattle.vsw_dock.specs.Laws.{MayMeet, NewRests, RowRests}
use Rattle.vsw_dock.specs.Meeting.{AreHeld, AreOfCaller, RowMeets, StationMeets}
use Rattle.vsw_dock.specs.Opening.{IsNewLane, IsNewRow}
use Rattle.vsw_dock.specs.Seen.{DockSeen, StationSeen}

-- what a station knows that met the port of its dock, whose history is this
pub record Rests (more k : ℕ) (d : DockSeen) (g : List Event) (r s : StationSeen) : Type 0 where
  pub of : is_of d s
  pub met : Meets (opening_of (port_in d)) g (pass_in r) (pass_in s)
  pub rest : AtRest (opening_of (port_in d)) g k (pass_in s)
  pub room : more ≤ permits s

rests_at : (more k : ℕ) (d : DockSeen) (g : List Event) (r s : StationSeen) → StationMeets more (record { port = d.live; history = g }) r s → r.pass.view.number ≡ k → Rests more k d g r s
rests_at more k d g r s m n =
    let number : s.pass.view.number ≡ k = m.meets.number ∙ n in
    record {
      of = m.of;
      met = m.meets;
      rest = record { number = number; front = m.meets.front; receipts = m.meets.own ∙ ap (λ i. entries_naming d.live.looking.1.controllers i g) number };
      room = m.room;
    }

rests : (more k : ℕ) (d : DockSeen) (h : HeldSeen) (r s : StationSeen) → h.port ≡ d.live → StationMeets more h r s → r.pass.view.number ≡ k → Rests more k d h.history r s
rests more k d h r s at m n =
    let here : StationMeets more (record { port = d.live; history = h.history }) r s = subst (λ (p : live.PortSeen). StationMeets more (record { port = p; history = h.history }) r s) at m in
    rests_at more k d h.history r s here n

lane_fit : (more k : ℕ) (d : DockSeen) (g : List Event) (r : StationSeen) (m : Lane StationSeen) → Rests more k d g r m.station → m.base ≡ length g → IsFit pass_in is_of permits k more d m
lane_fit more k d g r m x base = record { station = x.of; number = x.rest.number; based = omega (arith, base, ap length x.rest.front); room = x.room }

begins_at : (more k : ℕ) (d : DockSeen) (g : List Event) (r s : StationSeen) → Rests more k d g r s → AtRest (opening_of (port_in d)) s.pass.view.front k (pass_in s)
begins_at more k d g r s x = subst (λ h. AtRest (opening_of (port_in d)) h k (pass_in s)) (sym x.rest.front) x.rest

pub row_rests : (k more : ℕ) (ds : List DockSeen) (hs : List HeldSeen) (ls ms : List (Lane StationSeen)) → AreHeld ds hs → AreOfCaller k ls → RowMeets more hs ls ms → RowRests more k ds hs ls ms
row_rests k more [] [] [] [] held own m = record { rest = tt; met = tt; fit = tt; begins = λ n. tt }
row_rests k more (d ∷ ds) (h ∷ hs) (l ∷ ls) (m ∷ ms) held own met =
    let later = row_rests k more ds hs ls ms held.1 own.1 met.1 in
    let x : Rests more k d h.history l.station m.station = rests more k d h l.station m.station held.0 met.0.station own.0 in
    record {
      rest = (x.rest, later.rest);
      met = (x.met, later.met);
      fit = (lane_fit more k d h.history l.station m x met.0.base, later.fit);
      begins = λ n. (met.0.base ∙ sym (ap length x.rest.front), begins_at more k d h.history l.station m.station x, (λ w. n.0), later.begins n.1);
    }
row_rests k more [] [] [] (m ∷ ms) held own met = absurd met
row_rests k more [] [] (l ∷ ls) ms held own met = absurd met
row_rests k more [] (h ∷ hs) ls ms held own met = absurd held
row_rests k more (d ∷ ds) [] ls ms held own met = absurd held
row_rests k more (d ∷ ds) (h ∷ hs) [] ms held own met = absurd met
row_rests k more (d ∷ ds) (h ∷ hs) (l ∷ ls) [] held own met = absurd met

-- ---- rows that may meet

of_held : (d : DockSeen) (h : HeldSeen) (s : StationSeen) → h.port ≡ d.live → is_of d s → IsOf h.port.looking s.pass
of_held d h s at of = subst (λ (p : live.PortSeen). IsOf p.looking s.pass) (sym at) of

pub fit_meets : (k more : ℕ) (ds : List DockSeen) (hs : List HeldSeen) (ls : List (Lane StationSeen)) → AreFit pass_in is_of permits k more ds ls → AreHeld ds hs → MayMeet k hs ls
fit_meets k more [] [] [] fit held = record { lanes = tt; caller = tt }
fit_meets k more (d ∷ ds) (h ∷ hs) (l ∷ ls) fit held =
    let later = fit_meets k more ds hs ls fit.1 held.1 in
    record { lanes = (of_held d h l.station held.0 fit.0.station, later.lanes); caller = (fit.0.number, later.caller) }
fit_meets k more [] (h ∷ hs) ls fit held = absurd held
fit_meets k more (d ∷ ds) [] ls fit held = absurd held
fit_meets k more [] [] (l ∷ ls) fit held = absurd fit
fit_meets k more (d ∷ ds) (h ∷ hs) [] fit held = absurd fit

new_rest : (k : ℕ) (d : DockSeen) (l : Lane StationSeen) → IsNewLane k d l → AtRest (opening_of (port_in d)) [] k (pass_in l.station)
new_rest k d l x = record { number = x.pass.number; front = x.pass.front; receipts = x.pass.receipts }

new_meets : (k : ℕ) (ds : List DockSeen) (hs : List HeldSeen) (ls : List (Lane StationSeen)) → IsNewRow k ds ls → AreHeld ds hs → MayMeet k hs ls
new_meets k [] [] [] new held = record { lanes = tt; caller = tt }
new_meets k (d ∷ ds) (h ∷ hs) (l ∷ ls) new held =
    let later = new_meets k ds hs ls new.1 held.1 in
    record { lanes = (of_held d h l.station held.0 new.0.pass.of, later.lanes); caller = (new.0.pass.number, later.caller) }
new_meets k [] (h ∷ hs) ls new held = absurd held
new_meets k (d ∷ ds) [] ls new held = absurd held
new_meets k [] [] (l ∷ ls) new held = absurd new
new_meets k (d ∷ ds) (h ∷ hs) [] new held = absurd new

pub new_rests : (k : ℕ) (ds : List DockSeen) (ls : List (Lane StationSeen)) → IsNewRow k ds ls → NewRests k ds ls
new_rests k [] [] new = record { rest = tt; meets = λ hs held. new_meets k [] hs [] new held; lines = tt }
new_rests k (d ∷ ds) (l ∷ ls) new =
    let later = new_rests k ds ls new.1 in
    record { rest = (new_rest k d l new.0, later.rest); meets = λ hs held. new_meets k (d ∷ ds) hs (l ∷ ls) new held; lines = (new.0.lines, later.lines) }
new_rests k [] (l ∷ ls) new = absurd new
new_rests k (d ∷ ds) [] new = absurd new
