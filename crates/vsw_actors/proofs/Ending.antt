-- An actor's passes meet the ports.
use Rattle.std.proofs.Common.{◌≡◌, ℕ, List, [], ◌∷◌, map, refl, ap, subst, sym}
use Rattle.vsw_promise.specs.Ports.{PortSeen}
use Rattle.vsw_port.specs.declared.event.Event.{Event}
use Rattle.vsw_port.specs.Calls.{Job, Call}
use Rattle.vsw_promise.specs.Rounds.{opening_of}
use Rattle.vsw_hairpin.specs.Handing.{HaveHanded, with_hops}
use Rattle.vsw_many.specs.Actors.{AllMeet, lanes_of}
use Rattle.vsw_many.specs.Passes.{PassNow, Meets}
use Rattle.vsw_many.specs.Phases.{Track}
use Rattle.vsw_many.proofs.Actors.{actor_ends}
use Rattle.vsw_actors.specs.declared.actor.Placed.{Placed}
use Rattle.vsw_actors.specs.declared.lane.Lane.{Lane}
use Rattle.vsw_actors.specs.Actors.{locals_at, placed_of, HasDone}
use Rattle.vsw_actors.specs.Ends.{AllMet, AllTell, IsWorked}
use Rattle.vsw_actors.specs.Lanes.{AreTold}

tracks_meet : {P S : Type 0} (port_in : P → PortSeen) (pass_in : S → PassNow) (tells : S → List Call → Type 0) (ps : List P) (gs : List (List Event)) (ls : List (Lane S)) (ts : List Track) (qs : List PassNow) → AreTold port_in pass_in tells ps ls ts → AllMet port_in pass_in ps gs ls qs
    → AllMeet (map port_in ps) gs ts qs × AllTell tells ls (lanes_of ts qs)
tracks_meet port_in pass_in tells [] [] [] [] [] a m = (tt, tt)
tracks_meet port_in pass_in tells (p ∷ ps) (g ∷ gs) (l ∷ ls) (t ∷ ts) (q ∷ qs) a m =
    let rest = tracks_meet port_in pass_in tells ps gs ls ts qs a.1 m.1 in
    ((subst (λ n. Meets (opening_of (port_in p)) g n q) (sym a.0.now) m.0, rest.0), (a.0.calls, rest.1))
tracks_meet port_in pass_in tells [] [] [] [] (q ∷ qs) a m = absurd m
tracks_meet port_in pass_in tells [] [] [] (t ∷ ts) qs a m = absurd a
tracks_meet port_in pass_in tells [] [] (l ∷ ls) ts qs a m = absurd a
tracks_meet port_in pass_in tells [] (g ∷ gs) ls ts qs a m = absurd m
tracks_meet port_in pass_in tells (p ∷ ps) [] ls ts qs a m = absurd m
tracks_meet port_in pass_in tells (p ∷ ps) (g ∷ gs) [] ts qs a m = absurd a
tracks_meet port_in pass_in tells (p ∷ ps) (g ∷ gs) (l ∷ ls) [] qs a m = absurd a
tracks_meet port_in pass_in tells (p ∷ ps) (g ∷ gs) (l ∷ ls) (t ∷ ts) [] a m = absurd m

-- the calls of lanes are those of their tracks
pub calls_met : (ps : List PortSeen) (gs : List (List Event)) (ts : List Track) (qs : List PassNow) → AllMeet ps gs ts qs → map (λ t. t.calls) ts ≡ map (λ l. l.track.calls) (lanes_of ts qs)
calls_met [] [] [] [] m = refl
calls_met (p ∷ ps) (g ∷ gs) (t ∷ ts) (q ∷ qs) m = ap (λ w. t.calls ∷ w) (calls_met ps gs ts qs m.1)
calls_met [] [] [] (q ∷ qs) m = absurd m
calls_met [] [] (t ∷ ts) qs m = absurd m
calls_met [] (g ∷ gs) ts qs m = absurd m
calls_met (p ∷ ps) [] ts qs m = absurd m
calls_met (p ∷ ps) (g ∷ gs) [] qs m = absurd m
calls_met (p ∷ ps) (g ∷ gs) (t ∷ ts) [] m = absurd m

pub all_met : {J P S : Type 0} (port_in : P → PortSeen) (locals : P → List ℕ) (pass_in : S → PassNow) (job_in : J → Job) (tells : S → List Call → Type 0) (k : ℕ) (ps : List P) (hs gs : List (List Event)) (ls : List (Lane S)) (qs : List PassNow) (done : List (Placed J))
    → HasDone port_in locals pass_in job_in tells k ps hs ls done → AllMet port_in pass_in ps gs ls qs → IsWorked port_in locals job_in tells k ps hs gs ls qs done
all_met port_in locals pass_in job_in tells k ps hs gs ls qs done h m =
    let t = tracks_meet port_in pass_in tells ps gs ls h.0 qs h.1 m in
    let all = map (placed_of job_in) done in
    let e = actor_ends 0 k (map port_in ps) hs gs h.0 qs (with_hops all h.2.hops) h.2.work t.0 in
    record {
      row = lanes_of h.0 qs;
      hops = h.2.hops;
      worked = e.0;
      handed = subst (λ cs. HaveHanded (locals_at locals ps) cs all h.2.hops) (calls_met (map port_in ps) gs h.0 qs t.0) h.2.handed;
      told = t.1;
      rest = e.1;
    }
