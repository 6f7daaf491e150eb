-- Calls one after the other: each is the last on the history when it is made.
use Rattle.std.specs.Prelude.{◌≡◌, List, ◌++◌, length, Bool, true, false}
use Rattle.vsw_policy.specs.Sound.{Each}
use Rattle.vsw_port.specs.declared.event.Event.{Event}
use Rattle.vsw_port.specs.Calls.{Call, Deed, event_of, entries_of, Reads, Wants, ShowsAt, IsCall, InOrder, HasBytes}
use Rattle.vsw_port.specs.History.{Opening, replay, IsRight, AllRight}

-- a deed at the end of a history: an entry that is right, or a read, or one for which memory is wanting
pub data IsDone (o : Opening) (h : List Event) (d : Deed) (entry : Bool) : Type 0 where
  Enters : entry ≡ true → IsRight o.controllers (replay o h) (event_of d) → IsDone o h d entry
  Reading : entry ≡ false → Reads (replay o h) d → IsDone o h d entry
  Wanting : entry ≡ false → Wants (replay o h) d → IsDone o h d entry

-- a call at the end of a history
pub record IsNext (o : Opening) (h : List Event) (c : Call) : Type 0 where
  pub last : c.count ≡ length h
  pub done : IsDone o h c.deed c.entry
  pub shows : ShowsAt (replay o h) c.deed

-- the history grew from one to another by these calls, one after the other
pub record Goes (o : Opening) (before after : List Event) (calls : List Call) : Type 0 where
  pub right : AllRight o after
  pub grown : after ≡ before ++ entries_of calls
  pub each : Each (IsCall o after) calls
  pub bytes : Each (HasBytes o after) calls
  pub in_order : InOrder (length before) calls (length after)
