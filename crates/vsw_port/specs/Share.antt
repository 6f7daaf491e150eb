-- What holds of the calls of callers.
use Rattle.std.specs.Prelude.{◌≡◌, ◌<◌, ℕ, List, [], ◌∷◌, ◌++◌, take, true}
use mathlib.Core.List.{IsPrefix}
use Rattle.vsw_port.specs.declared.event.Event.{Event}
use Rattle.vsw_port.specs.Calls.{Call, IsCall, IsRead, IsShare, IsShort, AreShares, InOrder, Legal, entries_of, event_of}
use Rattle.vsw_port.specs.History.{Opening, AllRight, after, replay}
use Rattle.vsw_port.specs.Next.{IsNext, Goes}

-- a call on a history is one on each longer history
abbrev pub CallsLast : Type 0
CallsLast = (o : Opening) (h k : List Event) (c : Call) → IsPrefix h k → IsCall o h c → IsCall o k c

-- the calls of a caller in one stretch, and then in the next, are its calls in both
abbrev pub SharesJoin : Type 0
SharesJoin = (o : Opening) (g h k : List Event) (n : ℕ) (cs ds : List Call) → IsShare o g h n cs → IsShare o h k n ds → IsShare o g k n (cs ++ ds)

-- the shares of all callers from the beginning on, on a right history, are legal
abbrev pub SharesAreLegal : Type 0
SharesAreLegal = (o : Opening) (h : List Event) (calls : List Call) → AllRight o h → AreShares o [] h calls → Legal o h calls

-- the call after an entry sees that entry: its count is greater
abbrev pub EntriesAreSeen : Type 0
EntriesAreSeen = (low high : ℕ) (c d : Call) (cs : List Call) → c.entry ≡ true → InOrder low (c ∷ d ∷ cs) high → c.count < d.count

-- a read changes nothing: its packet leaves the layers that answered it as they were
abbrev pub ReadsChangeNothing : Type 0
ReadsChangeNothing = (o : Opening) (h : List Event) (c : Call) → IsRead o h c → after o.controllers (replay o (take c.count h)) (event_of c.deed) ≡ replay o (take c.count h)

-- want of memory changes nothing: a call that was told of it adds no entry
abbrev pub ShortAddsNothing : Type 0
ShortAddsNothing = (o : Opening) (h : List Event) (c : Call) → IsShort o h c → entries_of (c ∷ []) ≡ []

-- one more call at the end of the history
abbrev pub GoesOn : Type 0
GoesOn = (o : Opening) (before h : List Event) (calls : List Call) (c : Call) → Goes o before h calls → IsNext o h c → Goes o before (h ++ entries_of (c ∷ [])) (calls ++ c ∷ [])

-- calls that were made one after the other are the shares of all callers
abbrev pub GoingIsShared : Type 0
GoingIsShared = (o : Opening) (before after : List Event) (calls : List Call) → Goes o before after calls → AreShares o before after calls
