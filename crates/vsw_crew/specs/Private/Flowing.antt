-- The shares of a round whose packets come by rings, given and taken back.
use Rattle.std.specs.Prelude.{◌≡◌, ◌≤◌, ◌<◌, ◌+◌, ◌-◌, ℕ, suc, false, List, [], ◌∷◌, ◌++◌, Option, Some, None, drop, length, map, replicate, Vec}
use Rattle.std.specs.declared.alloc.Global.{Global}
use Rattle.vsw_actors.specs.Handed.{with_more}
use Rattle.vsw_actors.specs.Picks.{picked}
use Rattle.vsw_actors.specs.declared.handed.Given.{Given}
use Rattle.vsw_actors.specs.declared.handed.Handed.{Handed}
use Rattle.vsw_actors.specs.declared.pick.Pick.{Pick}
use Rattle.vsw_commandfile.specs.declared.line.Line.{Line}
use Rattle.vsw_hands.specs.Hands.{AllDone}
use Rattle.vsw_harbour.specs.Lane.{Lane}
use Rattle.vsw_harbour.specs.Seen.{DockSeen, StationSeen}
use Rattle.vsw_harbour.specs.Harbour.{HarbourSeen, IsOfRun}
use Rattle.vsw_harbour.specs.HarbourOpening.{rows_in}
use Rattle.vsw_pcap.specs.declared.capture.Record.{Record}
use Rattle.vsw_policy.specs.Sound.{Each}
use Rattle.vsw_port.specs.declared.event.Event.{Event}
use Rattle.vsw_promise.specs.Jobs.{Setting}
use Rattle.vsw_rings.specs.Rings.{IsRing, SameFeed, fed, has_ended, is_at_end, room, taken}
use Rattle.vsw_rings.specs.declared.drain.Drain.{Drain}
use Rattle.vsw_rings.specs.declared.feed.Feed.{Feed}
use Rattle.vsw_crew.specs.Crew.{AreReady}
use Rattle.vsw_crew.specs.Private.Round.{HasWorked}
use Rattle.vsw_crew.specs.Shares.{DoesShare, ShareSeen}
use Rattle.vsw_crew.specs.Shift.{IsOut}
use Rattle.vsw_crew.specs.StreamShares.{DoesStreamShare, IsStreamShare, StreamSeen, stream_of}
use Rattle.vsw_crew.specs.Streams.{AreStreamsAt, IsFeeding, jobs_fed}
use Rattle.vsw_crew.specs.declared.feeding.Feeding.{Feeding}
use Rattle.vsw_crew.specs.declared.round.Worked.{Worked}
use Rattle.vsw_crew.specs.declared.share.Carried.{Carried}
use Rattle.vsw_crew.specs.declared.stream_share.Frames.{Frames}
use Rattle.vsw_crew.specs.declared.stream_share.StreamCarried.{StreamCarried}
use Rattle.vsw_crew.specs.declared.underway.Underway.{Underway}

-- by callers, so many entries for each worker, and none for the others
abbrev pub needs_for : (workers most callers : ℕ) → List ℕ
needs_for workers most callers = replicate workers most ++ replicate (callers - workers) 0

-- ---- rings

-- both ends of a ring that is new, with room for so many things
abbrev pub IsFresh : ℕ → Feed Handed Frames → Drain Handed Frames → Type 0
IsFresh n f d = IsRing f d × (fed f ≡ []) × (has_ended f ≡ false) × (room f ≡ n) × (taken d ≡ []) × (is_at_end d ≡ false)

-- both ends of new rings, at one place each
abbrev pub AreFresh : ℕ → List (Feed Handed Frames) → List (Option (Drain Handed Frames)) → Type 0
AreFresh n [] [] = Unit {0}
AreFresh n (f ∷ fs) (Some d ∷ ds) = IsFresh n f d × AreFresh n fs ds
AreFresh n _ _ = ⊥

-- each is open, and has room for an item and its end
abbrev pub MayPush : List (Feed Handed Frames) → Type 0
MayPush fs = Each (λ f. (has_ended f ≡ false) × (1 < room f)) fs

-- the same rings, open, each with as much room as it had, or one less
abbrev pub AreKept : List (Feed Handed Frames) → List (Feed Handed Frames) → Type 0
AreKept [] [] = Unit {0}
AreKept (f ∷ fs) (g ∷ gs) = (SameFeed f g × (has_ended g ≡ false) × (room f ≤ room g + 1)) × AreKept fs gs
AreKept _ _ = ⊥

-- a packet was put into the ring of its worker, if it has one
abbrev pub IsPushed : List (Feed Handed Frames) → Option Given → List (Feed Handed Frames) → Type 0
IsPushed olds None news = news ≡ olds
IsPushed olds (Some g) news = (map fed news ≡ with_more g.worker g.packet (map fed olds)) × AreKept olds news

-- these ends were told that nothing follows
abbrev pub AreEnded : List (Feed Handed Frames) → List (Feed Handed Frames) → Type 0
AreEnded [] [] = Unit {0}
AreEnded (f ∷ fs) (g ∷ gs) = ((fed g ≡ fed f) × SameFeed f g) × AreEnded fs gs
AreEnded _ _ = ⊥

-- each is open, and has room for its end
abbrev pub MayEnd : List (Feed Handed Frames) → Type 0
MayEnd [] = Unit {0}
MayEnd (f ∷ fs) = ((has_ended f ≡ false) × (0 < room f)) × MayEnd fs

-- ---- shares

-- the shares of these rows, from worker k on, each with the end of its ring
abbrev pub streams_of : {F : Type 0} → ℕ → List DockSeen → ℕ → List (Vec (Lane StationSeen) F) → List (Option (Drain Handed Frames)) → List StreamSeen
streams_of k ds most (r ∷ rs) (Some d ∷ drains) = stream_of k ds r.items d most ∷ streams_of (suc k) ds most rs drains
streams_of k ds most _ _ = []

-- there is a row for each end of a ring, and each is a share
abbrev pub AreStreams : {F : Type 0} → ℕ → List DockSeen → ℕ → List (Vec (Lane StationSeen) F) → List (Option (Drain Handed Frames)) → Type 0
AreStreams k ds most rs [] = Unit {0}
AreStreams k ds most (r ∷ rs) (Some d ∷ drains) = IsStreamShare (stream_of k ds r.items d most) × AreStreams (suc k) ds most rs drains
AreStreams k ds most (r ∷ rs) (None ∷ drains) = ⊥
AreStreams k ds most [] (d ∷ drains) = ⊥

-- with new rings for the workers these rows are shares
abbrev pub MayStream : {F : Type 0} → HarbourSeen → ℕ → List (Vec (Lane StationSeen) F) → Type 0
MayStream h most rows = (feeds : List (Feed Handed Frames)) (drains : List (Option (Drain Handed Frames))) → AreFresh (most + 1) feeds drains → length feeds ≡ h.workers → AreStreams 0 h.docks most rows drains

-- the shares of the first rows went out, each with an end of a new ring
pub record AreStreamed {F : Type 0} (h : HarbourSeen) (most : ℕ) (olds news : List (Vec (Lane StationSeen) F)) (feeds : List (Feed Handed Frames)) (out : List StreamSeen) : Type 0 where
  pub drains : List (Option (Drain Handed Frames))
  pub fresh : AreFresh (most + 1) feeds drains
  pub many : length feeds ≡ h.workers
  pub out_are : out ≡ streams_of 0 h.docks most olds drains
  pub behind : drop h.workers news ≡ drop h.workers olds
  pub size : length news ≡ length olds

-- a share by its packets: those that came by the ring, as picks of the round's packets
abbrev pub share_with : ℕ → List Record → StreamSeen → List Pick → ShareSeen
share_with first packets s picks = record { number = s.number; docks = s.docks; histories = s.histories; row = s.row; packets = packets; first = first; picks = picks; next = 0 }

abbrev pub shares_with : {G : Type 0} → ℕ → List Record → List StreamSeen → List (Vec Pick G) → List ShareSeen
shares_with first packets (s ∷ ss) (p ∷ ps) = share_with first packets s p.items ∷ shares_with first packets ss ps
shares_with first packets _ _ = []

-- each share went out with the other end of the ring at its place
abbrev pub AreEnds : List (Feed Handed Frames) → List StreamSeen → Type 0
AreEnds [] [] = Unit {0}
AreEnds (f ∷ fs) (s ∷ ss) = IsRing f s.drain × AreEnds fs ss
AreEnds _ _ = ⊥

-- behind others, rows came back that carried these shares
pub record CameBack (shares : List ShareSeen) (olds news : List Carried) : Type 0 where
  pub rows : List Carried
  pub news_are : news ≡ olds ++ rows
  pub done : AllDone DoesShare shares rows

-- whichever shares went out with the other ends of these rings, and this is told of: where each ring was fed what its worker has picked, they came back
abbrev pub ComeBack : List (Feed Handed Frames) → List StreamCarried → List Carried → List Carried → Type 0
ComeBack feeds tolds olds news =
    (k first : ℕ) (h : HarbourSeen) (gs : List (List Event)) (packets : List Record) (out : List StreamSeen) (picks : List (Vec Pick Global)) → AllDone DoesStreamShare out tolds → AreEnds feeds out → AreStreamsAt k h gs out → jobs_fed k (map fed feeds) ≡ picked k first packets picks → CameBack (shares_with first packets out picks) olds news

-- ---- a round that is done

-- whenever it began as the shares say, all was done that a round is
abbrev pub DoesRound : HarbourSeen → Underway → List ShareSeen → Worked → Type 0
DoesRound h u out w = (hs : List (List Event)) (lines : List Line) (first : ℕ) (packets : List Record) → IsOut (record { harbour = h; histories = hs }) lines first packets u out → (s : Setting) → IsOfRun h s → s.commands ≡ lines → HasWorked h s hs first packets w.befores.items w.firsts.items w.loose.items (rows_in w.rows.items)

-- the round of these packets began as some shares say, and is done
pub record IsClosed (h : HarbourSeen) (hs : List (List Event)) (lines : List Line) (first : ℕ) (packets : List Record) (u : Underway) (w : Worked) : Type 0 where
  pub out : List ShareSeen
  pub is_out : IsOut (record { harbour = h; histories = hs }) lines first packets u out
  pub does : DoesRound h u out w

-- at whichever histories all were ready with these rows, the round that begins with this packet has its shares out, and none was handed over
abbrev pub Opens : HarbourSeen → List (List (Lane StationSeen)) → List Line → ℕ → Feeding → List StreamSeen → Type 0
Opens h rows lines first f out = (hs : List (List Event)) → AreReady h hs rows → IsFeeding (record { harbour = h; histories = hs }) lines first [] f out

-- at some histories a round began whose packets were handed over
abbrev pub HasOpened : HarbourSeen → Feeding → List StreamSeen → Type 0
HasOpened h f out = (hs : List (List Event)) × (lines : List Line) × (first : ℕ) × (packets : List Record) × IsFeeding (record { harbour = h; histories = hs }) lines first packets f out

-- whichever round it is whose packets were handed over, it began and is done so
abbrev pub Closes : HarbourSeen → Feeding → List StreamSeen → Worked → Type 0
Closes h f out w = (hs : List (List Event)) (lines : List Line) (first : ℕ) (packets : List Record) → IsFeeding (record { harbour = h; histories = hs }) lines first packets f out → IsClosed h hs lines first packets f.underway w
