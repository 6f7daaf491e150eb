-- Lanes that meet their ports one after another.
use Rattle.std.proofs.Common.{◌≡◌, ◌<◌, ◌+◌, ℕ, zero, suc, List, [], ◌∷◌, length, slice_set, slice_index_or, refl, sym, ap, subst, arith}
use Rattle.std.specs.Prelude.{OnOk, Result, Ok, Err}
use Rattle.vsw_actors.specs.declared.lane.Lane.{Lane}
use Rattle.vsw_base.specs.declared.fault.NoMemory.{NoMemory}
use Rattle.vsw_flows.specs.Flows.{IsOf}
use Rattle.vsw_live.specs.Meeting.{HeldSeen}
use Rattle.vsw_dock.specs.Meeting.{AreLanes, LaneMeets, RowMeets}
use Rattle.vsw_dock.specs.Private.Met.{MetAt, MetTo}
use Rattle.vsw_dock.specs.Seen.{StationSeen}

-- ---- places

pub as_many : (hs : List HeldSeen) (ls : List (Lane StationSeen)) → AreLanes hs ls → length hs ≡ length ls
as_many [] [] a = refl
as_many (h ∷ hs) (l ∷ ls) a = ap suc (as_many hs ls a.1)
as_many [] (l ∷ ls) a = absurd a
as_many (h ∷ hs) [] a = absurd a

-- the lane at a place is of the port there
pub lane_at : (hs : List HeldSeen) (ls : List (Lane StationSeen)) (i : ℕ) (d : HeldSeen) (e : Lane StationSeen) → AreLanes hs ls → i < length ls → IsOf (slice_index_or hs i d).port.looking (slice_index_or ls i e).station.pass
lane_at [] [] i d e a low = absurd (omega (arith, low))
lane_at (h ∷ hs) (l ∷ ls) zero d e a low = a.0
lane_at (h ∷ hs) (l ∷ ls) (suc i) d e a low = lane_at hs ls i d e a.1 (omega (arith, low))
lane_at [] (l ∷ ls) i d e a low = absurd a
lane_at (h ∷ hs) [] i d e a low = absurd a

-- a lane that met is put at its place
pub met_at : (more i : ℕ) (hs : List HeldSeen) (ls : List (Lane StationSeen)) (d : HeldSeen) (e m : Lane StationSeen) → AreLanes hs ls → i < length ls → LaneMeets more (slice_index_or hs i d) (slice_index_or ls i e) m → MetAt more i hs ls (slice_set ls i m)
met_at more i [] [] d e m a low x = absurd (omega (arith, low))
met_at more zero (h ∷ hs) (l ∷ ls) d e m a low x = (x, refl)
met_at more (suc i) (h ∷ hs) (l ∷ ls) d e m a low x = (refl, met_at more i hs ls d e m a.1 (omega (arith, low)) x)
met_at more i [] (l ∷ ls) d e m a low x = absurd a
met_at more i (h ∷ hs) [] d e m a low x = absurd a

pub met_at_ok : (r : Result (Unit {0}) NoMemory) (more i : ℕ) (hs : List HeldSeen) (ls : List (Lane StationSeen)) (d : HeldSeen) (e m : Lane StationSeen) → AreLanes hs ls → i < length ls → OnOk r (LaneMeets more (slice_index_or hs i d) (slice_index_or ls i e) m) → OnOk r (MetAt more i hs ls (slice_set ls i m))
met_at_ok (Ok u) more i hs ls d e m a low x = met_at more i hs ls d e m a low x
met_at_ok (Err f) more i hs ls d e m a low x = tt

-- ---- one after another

-- one lane more
pub met_more : (more i : ℕ) (hs : List HeldSeen) (ls ms ns : List (Lane StationSeen)) → MetTo more i hs ls ms → MetAt more i hs ms ns → MetTo more (i + 1) hs ls ns
met_more more i hs ls ms ns to at = subst (λ k. MetTo more k hs ls ns) here (step i hs ls ms ns to at)
  where
    here : suc i ≡ i + 1
    here = omega arith

    first : (h : HeldSeen) (hs : List HeldSeen) (ls ms ns : List (Lane StationSeen)) → ms ≡ ls → MetAt more zero (h ∷ hs) ms ns → MetTo more (suc zero) (h ∷ hs) ls ns
    first h hs ls (m ∷ ms) (n ∷ ns) same at = subst (λ ks. MetTo more (suc zero) (h ∷ hs) ks (n ∷ ns)) same (at.0, at.1)
    first h hs ls [] ns same at = absurd at
    first h hs ls (m ∷ ms) [] same at = absurd at

    step : (i : ℕ) (hs : List HeldSeen) (ls ms ns : List (Lane StationSeen)) → MetTo more i hs ls ms → MetAt more i hs ms ns → MetTo more (suc i) hs ls ns
    step zero (h ∷ hs) ls ms ns to at = first h hs ls ms ns to at
    step zero [] ls ms ns to at = absurd at
    step (suc i) (h ∷ hs) (l ∷ ls) (m ∷ ms) (n ∷ ns) to at = (subst (LaneMeets more h l) (sym at.0) to.0, step i hs ls ms ns to.1 at.1)
    step (suc i) [] ls ms ns to at = absurd to
    step (suc i) (h ∷ hs) [] ms ns to at = absurd to
    step (suc i) (h ∷ hs) (l ∷ ls) [] ns to at = absurd to
    step (suc i) (h ∷ hs) (l ∷ ls) (m ∷ ms) [] to at = absurd at

-- all lanes
pub all_met : (more : ℕ) (hs : List HeldSeen) (ls ms : List (Lane StationSeen)) → AreLanes hs ls → MetTo more (length ls) hs ls ms → RowMeets more hs ls ms
all_met more [] [] ms a to = subst (RowMeets more [] []) (sym to) tt
all_met more (h ∷ hs) (l ∷ ls) (m ∷ ms) a to = (to.0, all_met more hs ls ms a.1 to.1)
all_met more (h ∷ hs) (l ∷ ls) [] a to = absurd to
all_met more [] (l ∷ ls) ms a to = absurd a
all_met more (h ∷ hs) [] ms a to = absurd a

-- lanes that met are lanes of the same ports
pub still_lanes : (more i : ℕ) (hs : List HeldSeen) (ls ms : List (Lane StationSeen)) → AreLanes hs ls → MetTo more i hs ls ms → AreLanes hs ms
still_lanes more zero hs ls ms a to = subst (AreLanes hs) (sym to) a
still_lanes more (suc i) (h ∷ hs) (l ∷ ls) (m ∷ ms) a to = (to.0.station.of, still_lanes more i hs ls ms a.1 to.1)
still_lanes more (suc i) [] ls ms a to = absurd to
still_lanes more (suc i) (h ∷ hs) [] ms a to = absurd to
still_lanes more (suc i) (h ∷ hs) (l ∷ ls) [] a to = absurd to
