-- A worker's part of a round, which travels to whoever does it: the row of its lanes, and its packets.
use Rattle.std.specs.Prelude.{◌≡◌, ◌<◌, ◌≤◌, ◌+◌, ◌^◌, ℕ, List, IfSome, drop, length, map, take}
use Rattle.vsw_harbour.specs.Lane.{Lane}
use Rattle.vsw_harbour.specs.Actors.{AreAlike, AtWorkOn, locals_at}
use Rattle.vsw_harbour.specs.Lanes.{AreFit, AreTold, fronts_of}
use Rattle.vsw_harbour.specs.Docks.{is_of, locals, pass_in, permits, port_in, tells}
use Rattle.vsw_harbour.specs.Seen.{DockSeen, StationSeen}
use Rattle.vsw_harbour.specs.Phases.{Track}
use Rattle.vsw_port.specs.declared.event.Event.{Event}
use Rattle.vsw_pcap.specs.declared.capture.Record.{Record}
use Rattle.vsw_policy.specs.Sound.{Each}
use Rattle.vsw_promise.specs.Jobs.{Placed}
use Rattle.vsw_actors.specs.Picks.{IsPick, picked_jobs}
use Rattle.vsw_actors.specs.declared.pick.Pick.{Pick}
use Rattle.vsw_crew.specs.declared.share.Carried.{Carried}

-- whose it is, at which ports, since they had which histories; its lanes; and of the round's packets, of which the first has this number, those that are
-- its, the first `next` of which are carried
pub record ShareSeen : Type 0 where
  pub number : ℕ
  pub docks : List DockSeen
  pub histories : List (List Event)
  pub row : List (Lane StationSeen)
  pub packets : List Record
  pub first : ℕ
  pub picks : List Pick
  pub next : ℕ

-- the jobs of a share
abbrev pub jobs_in : ShareSeen → List Placed
jobs_in s = picked_jobs s.number s.first s.packets s.picks

-- a row of lanes has done these jobs since the ports had these histories, and after each of them what its call handed on
pub record RowCarried (k : ℕ) (ds : List DockSeen) (hs : List (List Event)) (row : List (Lane StationSeen)) (done : List Placed) : Type 0 where
  pub tracks : List Track
  pub told : AreTold port_in pass_in tells ds row tracks
  pub work : AtWorkOn (locals_at locals ds) k (map port_in ds) hs tracks done

-- a share of which the first picks are carried, and whose row may make an entry for each that is left
pub record IsShare (s : ShareSeen) : Type 0 where
  pub wide : length s.docks ≡ length s.row
  pub small : length s.docks < 65536
  pub few : length s.picks < 4294967296
  pub within : s.next ≤ length s.picks
  pub worker : s.number < 16
  pub numbers : s.first + length s.packets < 2 ^ 32
  pub alike : AreAlike locals s.docks
  pub fit : AreFit pass_in is_of permits s.number (length (drop s.next s.picks)) s.docks s.row
  pub picks_fit : Each (IsPick (length s.docks) s.packets) s.picks
  pub carried : RowCarried s.number s.docks s.histories s.row (picked_jobs s.number s.first s.packets (take s.next s.picks))

-- the same share, gone on with
pub record GoesOn (was now : ShareSeen) : Type 0 where
  pub number : now.number ≡ was.number
  pub docks : now.docks ≡ was.docks
  pub histories : now.histories ≡ was.histories
  pub packets : now.packets ≡ was.packets
  pub first : now.first ≡ was.first
  pub picks : now.picks ≡ was.picks

-- all of a share is carried by this row
pub record IsCarried (s : ShareSeen) (row : List (Lane StationSeen)) : Type 0 where
  pub fit : AreFit pass_in is_of permits s.number 0 s.docks row
  pub carried : RowCarried s.number s.docks s.histories row (jobs_in s)

-- the share of a row that stands, of which nothing is carried
abbrev pub share_of : ℕ → List DockSeen → List (Lane StationSeen) → List Record → ℕ → List Pick → ShareSeen
share_of k ds row packets first picks = record { number = k; docks = ds; histories = fronts_of pass_in row; row = row; packets = packets; first = first; picks = picks; next = 0 }

-- what is told of a share: all of it is carried, if there was memory
abbrev pub DoesShare : ShareSeen → Carried → Type 0
DoesShare s t = IfSome t.row (λ row. IsCarried s row.items)
