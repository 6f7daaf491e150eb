-- A round whose packets are handed over as they are read: its workers' shares are out, each with the end of a ring, and then it is to be told.
use Rattle.std.specs.Prelude.{◌≡◌, ◌≤◌, ◌<◌, ◌+◌, ◌^◌, ℕ, suc, List, [], ◌∷◌, ◌++◌, drop, false, length, map}
use Rattle.vsw_actors.specs.Handed.{handed_job}
use Rattle.vsw_actors.specs.Picks.{ArePicks, dealt_to, picked}
use Rattle.vsw_actors.specs.declared.handed.Handed.{Handed}
use Rattle.vsw_commandfile.specs.declared.line.Line.{Line}
use Rattle.vsw_crew.specs.Crew.{CrewSeen, IsOfSome}
use Rattle.vsw_crew.specs.Private.Round.{HasBegun, macs_in}
use Rattle.vsw_crew.specs.Shift.{HasNoneBeside, TellsOwed}
use Rattle.vsw_crew.specs.StreamShares.{StreamSeen}
use Rattle.vsw_crew.specs.declared.feeding.Feeding.{Feeding}
use Rattle.vsw_crew.specs.declared.owed.Owed.{Owed}
use Rattle.vsw_crew.specs.declared.stream_share.Frames.{Frames}
use Rattle.vsw_crew.specs.declared.underway.Underway.{Underway}
use Rattle.vsw_harbour.specs.Harbour.{HarbourSeen, IsOfRun, MayAsk, callers, ports_in}
use Rattle.vsw_harbour.specs.HarbourOpening.{rows_in}
use Rattle.vsw_harbour.specs.Lane.{Lane}
use Rattle.vsw_harbour.specs.Rounds.{AreJournals}
use Rattle.vsw_harbour.specs.Seen.{StationSeen}
use Rattle.vsw_harbour.specs.Standing.{RowsStand, no_calls}
use Rattle.vsw_harbour.specs.Steps.{Did}
use Rattle.vsw_pcap.specs.declared.capture.Record.{Record}
use Rattle.vsw_policy.specs.Sound.{Each}
use Rattle.vsw_port.specs.Order.{numbered}
use Rattle.vsw_port.specs.declared.event.Event.{Event}
use Rattle.vsw_promise.specs.Jobs.{Placed, Setting, loose_among, placed_packets}
use Rattle.vsw_rings.specs.Rings.{IsRing, fed, has_ended, room}
use Rattle.vsw_rings.specs.declared.feed.Feed.{Feed}

-- ---- shares that are out

-- these are the shares of the workers from k on, at ports that had these histories
abbrev pub AreStreamsAt : ℕ → HarbourSeen → List (List Event) → List StreamSeen → Type 0
AreStreamsAt k h gs [] = Unit {0}
AreStreamsAt k h gs (s ∷ ss) = ((s.number ≡ k) × (s.docks ≡ h.docks) × (s.histories ≡ gs)) × AreStreamsAt (suc k) h gs ss

-- since all were ready at these histories the commands before the packets were asked in turn, all met, and the workers' shares went out; the others have nothing to do
pub record IsStreaming (h : HarbourSeen) (s : Setting) (hs : List (List Event)) (first : ℕ) (u : Underway) (out : List StreamSeen) : Type 0 where
  pub rows : List (List (Lane StationSeen))
  pub begun : HasBegun h s hs first (u.firsts.items) rows
  pub met : List (List (Lane StationSeen))
  pub quiet : Did h begun.middles (no_calls h.docks) [] met
  pub shares : AreStreamsAt 0 h quiet.histories out
  pub idle : RowsStand h.workers h.docks quiet.histories (no_calls h.docks) (rows_in (drop h.workers u.rows.items))
  pub befores : u.befores.items ≡ map length hs

-- ---- packets that were handed over

-- each ring is open, has room for so many items and its end, and its other end went out with the share at its place
abbrev pub AreRings : ℕ → List (Feed Handed Frames) → List StreamSeen → Type 0
AreRings n [] [] = Unit {0}
AreRings n (f ∷ fs) (s ∷ ss) = (IsRing f s.drain × (has_ended f ≡ false) × (n < room f)) × AreRings n fs ss
AreRings n _ _ = ⊥

-- the jobs that packets are to the workers from k on, to whom they were handed over
abbrev pub jobs_fed : ℕ → List (List Handed) → List (List Placed)
jobs_fed k [] = []
jobs_fed k (packets ∷ rest) = map (handed_job k) packets ∷ jobs_fed (suc k) rest

-- the round that begins with this packet has its shares out since a crew stood so, and these packets of it, in order, were handed over to their workers or are loose
pub record IsFeeding (c : CrewSeen) (lines : List Line) (first : ℕ) (packets : List Record) (f : Feeding) (out : List StreamSeen) : Type 0 where
  pub run : IsOfSome c.harbour
  pub may : Each (MayAsk c.harbour) lines
  pub quiet : HasNoneBeside lines first
  pub journals : AreJournals (callers c.harbour) (ports_in c.harbour.docks) c.histories c.histories
  pub first_is : f.underway.first ≡ first
  pub count : f.fed ≡ length packets
  pub within : f.fed ≤ f.most
  pub numbers : first + f.most < 2 ^ 32
  pub workers : length out ≡ c.harbour.workers
  pub many : length f.picks.items ≡ c.harbour.workers
  pub size : length f.underway.rows.items ≡ callers c.harbour
  pub rings : (n : ℕ) → n + f.fed ≡ f.most → AreRings n f.feeds.items out
  pub handed : jobs_fed 0 (map fed f.feeds.items) ≡ picked 0 first packets f.picks.items
  pub dealt : (cs : List ℕ) → picked 0 first packets f.picks.items ≡ dealt_to c.harbour.workers cs (placed_packets c.harbour.workers false (macs_in c.harbour) [] (numbered first packets))
  pub fit : ArePicks (length c.harbour.docks) packets f.picks.items
  pub loose : f.underway.loose.items ≡ loose_among (macs_in c.harbour) (numbered first packets)
  pub under : (s : Setting) → IsOfRun c.harbour s → s.commands ≡ lines → IsStreaming c.harbour s c.histories first f.underway out

-- some crew of this harbour has begun the round of these packets, of which all but the last were handed over, and the round may have one more
abbrev pub MayFeed : HarbourSeen → List Record → Feeding → Type 0
MayFeed h packets f = (c : CrewSeen) × (lines : List Line) × (first : ℕ) × (before : List Record) × (last : Record) × (out : List StreamSeen) × (c.harbour ≡ h) × IsFeeding c lines first before f out × (packets ≡ before ++ last ∷ []) × (length before < f.most)

-- whichever crew it is, the last of these packets was handed over too
abbrev pub FeedsLast : HarbourSeen → List Record → Feeding → Feeding → Type 0
FeedsLast h packets old new = (c : CrewSeen) (lines : List Line) (first : ℕ) (before : List Record) (last : Record) (out : List StreamSeen) → c.harbour ≡ h → IsFeeding c lines first before old out → packets ≡ before ++ last ∷ [] → length before < old.most → IsFeeding c lines first packets new out

-- some crew of this harbour has begun the round whose packets were handed over
abbrev pub MayClose : HarbourSeen → Feeding → List StreamSeen → Type 0
MayClose h f out = (c : CrewSeen) × (lines : List Line) × (first : ℕ) × (packets : List Record) × (c.harbour ≡ h) × IsFeeding c lines first packets f out

-- whichever crew it is, its round is to be told, and this is the crew behind it
abbrev pub ClosesOwed : HarbourSeen → Feeding → List StreamSeen → Owed → CrewSeen → Type 0
ClosesOwed h f out o after = (c : CrewSeen) (lines : List Line) (first : ℕ) (packets : List Record) → c.harbour ≡ h → IsFeeding c lines first packets f out → TellsOwed c lines first packets o after
