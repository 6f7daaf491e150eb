-- The shares of a round, given and taken back.
use Rattle.std.specs.Prelude.{◌≡◌, ◌-◌, ℕ, suc, List, [], ◌∷◌, ◌++◌, Some, length, replicate, Vec}
use Rattle.std.specs.declared.alloc.Global.{Global}
use Rattle.vsw_actors.specs.declared.pick.Pick.{Pick}
use Rattle.vsw_commandfile.specs.declared.line.Line.{Line}
use Rattle.vsw_hands.specs.Hands.{AllDone}
use Rattle.vsw_harbour.specs.Harbour.{HarbourSeen}
use Rattle.vsw_harbour.specs.Lane.{Lane}
use Rattle.vsw_harbour.specs.Seen.{DockSeen, StationSeen}
use Rattle.vsw_pcap.specs.declared.capture.Record.{Record}
use Rattle.vsw_port.specs.declared.event.Event.{Event}
use Rattle.vsw_crew.specs.Crew.{AreReady}
use Rattle.vsw_crew.specs.Shares.{DoesShare, IsShare, ShareSeen, share_of}
use Rattle.vsw_crew.specs.Shift.{IsOut, IsPicked}
use Rattle.vsw_crew.specs.declared.picked.Picked.{Picked}
use Rattle.vsw_crew.specs.declared.share.Carried.{Carried}
use Rattle.vsw_crew.specs.declared.underway.Underway.{Underway}

-- by callers, as many entries as each share has packets, and none for callers without a share
abbrev pub picks_many : {G : Type 0} → List (Vec Pick G) → List ℕ
picks_many [] = []
picks_many (p ∷ ps) = length p.items ∷ picks_many ps

abbrev pub needs_of : {G : Type 0} → List (Vec Pick G) → ℕ → List ℕ
needs_of ps callers = picks_many ps ++ replicate (callers - length ps) 0

-- the shares of these rows, from worker k on
abbrev pub shares_of : {F G : Type 0} → ℕ → List DockSeen → List Record → ℕ → List (Vec (Lane StationSeen) F) → List (Vec Pick G) → List ShareSeen
shares_of k ds packets first (r ∷ rs) (p ∷ ps) = share_of k ds r.items packets first p.items ∷ shares_of (suc k) ds packets first rs ps
shares_of k ds packets first _ _ = []

-- there is a row for each share, and each is a share
abbrev pub AreShares : {F G : Type 0} → ℕ → List DockSeen → List Record → ℕ → List (Vec (Lane StationSeen) F) → List (Vec Pick G) → Type 0
AreShares k ds packets first rs [] = Unit {0}
AreShares k ds packets first (r ∷ rs) (p ∷ ps) = IsShare (share_of k ds r.items packets first p.items) × AreShares (suc k) ds packets first rs ps
AreShares k ds packets first [] (p ∷ ps) = ⊥

-- rows told of shares were put in the places of the first rows
abbrev pub ArePut : List Carried → List (Vec (Lane StationSeen) Global) → List (Vec (Lane StationSeen) Global) → Type 0
ArePut [] olds news = news ≡ olds
ArePut (t ∷ ts) (r ∷ rs) (s ∷ ss) = (t.row ≡ Some s) × ArePut ts rs ss
ArePut _ _ _ = ⊥

-- at whichever histories all were ready with these rows, and of whichever packets this is picked, the shares of their round are out
abbrev pub GoesOut : HarbourSeen → List (List (Lane StationSeen)) → List Line → Picked → Underway → List ShareSeen → Type 0
GoesOut h rows lines p u out = (hs : List (List Event)) (packets : List Record) → AreReady h hs rows → IsPicked h p.first packets p → IsOut (record { harbour = h; histories = hs }) lines p.first packets u out

-- at some histories a round began whose shares are out
abbrev pub HasGoneOut : HarbourSeen → Underway → List ShareSeen → Type 0
HasGoneOut h u out = (hs : List (List Event)) × (lines : List Line) × (first : ℕ) × (packets : List Record) × IsOut (record { harbour = h; histories = hs }) lines first packets u out

-- and they came back so
abbrev pub HasComeBack : HarbourSeen → Underway → List Carried → Type 0
HasComeBack h u tolds =
    (hs : List (List Event)) × (lines : List Line) × (first : ℕ) × (packets : List Record) × (out : List ShareSeen) × IsOut (record { harbour = h; histories = hs }) lines first packets u out × AllDone DoesShare out tolds
