-- A worker's part of a round whose packets come by a ring, which travels to whoever does it: the row of its lanes, and the end of its ring.
use Rattle.std.specs.Prelude.{◌≡◌, ◌<◌, ℕ, List, IfSome, length, map, true, false}
use Rattle.vsw_harbour.specs.Lane.{Lane}
use Rattle.vsw_harbour.specs.Actors.{AreAlike}
use Rattle.vsw_harbour.specs.Lanes.{AreFit, fronts_of}
use Rattle.vsw_harbour.specs.Docks.{is_of, locals, pass_in, permits}
use Rattle.vsw_harbour.specs.Seen.{DockSeen, StationSeen}
use Rattle.vsw_port.specs.declared.event.Event.{Event}
use Rattle.vsw_promise.specs.Jobs.{Placed}
use Rattle.vsw_rings.specs.Rings.{SameDrain, is_at_end, taken}
use Rattle.vsw_rings.specs.declared.drain.Drain.{Drain}
use Rattle.vsw_actors.specs.Handed.{handed_job}
use Rattle.vsw_actors.specs.declared.handed.Handed.{Handed}
use Rattle.vsw_crew.specs.Shares.{RowCarried}
use Rattle.vsw_crew.specs.declared.stream_share.Frames.{Frames}
use Rattle.vsw_crew.specs.declared.stream_share.StreamCarried.{StreamCarried}

-- whose it is, at which ports, since they had which histories; its lanes; the end of its ring; and how many packets more the lanes may carry
pub record StreamSeen : Type 0 where
  pub number : ℕ
  pub docks : List DockSeen
  pub histories : List (List Event)
  pub row : List (Lane StationSeen)
  pub drain : Drain Handed Frames
  pub left : ℕ

-- the jobs of the packets that came by a ring, to this worker
abbrev pub jobs_by : ℕ → Drain Handed Frames → List Placed
jobs_by k d = map (handed_job k) (taken d)

-- a share whose row has carried all that came so far, and may carry so many more
pub record IsStreamShare (s : StreamSeen) : Type 0 where
  pub wide : length s.docks ≡ length s.row
  pub small : length s.docks < 65536
  pub worker : s.number < 16
  pub alike : AreAlike locals s.docks
  pub not_at_end : is_at_end s.drain ≡ false
  pub fit : AreFit pass_in is_of permits s.number s.left s.docks s.row
  pub carried : RowCarried s.number s.docks s.histories s.row (jobs_by s.number s.drain)

-- the same share, gone on with
pub record StreamGoesOn (was now : StreamSeen) : Type 0 where
  pub number : now.number ≡ was.number
  pub docks : now.docks ≡ was.docks
  pub histories : now.histories ≡ was.histories
  pub ring : SameDrain was.drain now.drain

-- all that came by the ring, up to its end, is carried by this row
pub record IsStreamed (s : StreamSeen) (row : List (Lane StationSeen)) (drain : Drain Handed Frames) : Type 0 where
  pub ring : SameDrain s.drain drain
  pub end : is_at_end drain ≡ true
  pub fit : AreFit pass_in is_of permits s.number 0 s.docks row
  pub carried : RowCarried s.number s.docks s.histories row (jobs_by s.number drain)

-- what is told of a share: all of it is carried, if there was memory
abbrev pub DoesStreamShare : StreamSeen → StreamCarried → Type 0
DoesStreamShare s t = IfSome t.done (λ d. IsStreamed s d.row.items d.drain)

-- the share of a row that stands, of which nothing is carried
abbrev pub stream_of : ℕ → List DockSeen → List (Lane StationSeen) → Drain Handed Frames → ℕ → StreamSeen
stream_of k ds row drain left = record { number = k; docks = ds; histories = fronts_of pass_in row; row = row; drain = drain; left = left }
