-- What becomes of a packet that crosses the layers of a port, and of these layers.
use Rattle.std.specs.Prelude.{ℕ, List, [], ◌∷◌, Bool, true, false, not, length, ◌==◌, Option, Some, None, Result, Ok, Err}
use Rattle.vsw_port.specs.declared.stop.Stop.{Stop}
use Rattle.vsw_port.specs.declared.stop.Stop.TheVariants.{Memory}
use Rattle.vsw_port.specs.Admit.{cause_of, stop_of}
use Rattle.vsw_base.specs.declared.fate.Cause.{Cause}
use Rattle.vsw_base.specs.declared.fate.Cause.TheVariants as cause
use Rattle.vsw_base.specs.declared.fate.Verdict.{Verdict}
use Rattle.vsw_base.specs.declared.fate.Verdict.TheVariants.{Pass, Rule, Default}
use Rattle.vsw_base.specs.declared.flow.Crossing.{Crossing}
use Rattle.vsw_base.specs.declared.header.Header.{Header}
use Rattle.vsw_port.specs.WalkWanted.{Wanted}
use Rattle.vsw_port.specs.WalkWanted.TheVariants.{Make, Touch, Leave}
use Rattle.vsw_port.specs.Walk.{walk_of}
use Rattle.vsw_policy.specs.Layer.{LayerSeen, with_pair, with_touched, without_pair}
use Rattle.vsw_policy.specs.Layers.{changed_at}

-- a change is made in the layer at its place: a pair goes, has another state and last use, or stands behind the others
abbrev pub done : Wanted → List LayerSeen → List LayerSeen
done (Make place p) ls = changed_at place (with_pair p) ls
done (Touch place number state last) ls = changed_at place (with_touched number state last) ls
done (Leave place number) ls = changed_at place (without_pair number) ls

-- all that a packet wants, done in turn
abbrev pub all_done : List Wanted → List LayerSeen → List LayerSeen
all_done [] ls = ls
all_done (w ∷ ws) ls = all_done ws (done w ls)

abbrev pub is_make : Wanted → Bool
is_make (Make place p) = true
is_make (Touch place number state last) = false
is_make (Leave place number) = false

-- a pair is made
abbrev pub makes : List Wanted → Bool
makes [] = false
makes (Make place p ∷ ws) = true
makes (Touch place number state last ∷ ws) = makes ws
makes (Leave place number ∷ ws) = makes ws

-- how a packet passes: with this stack, and so many of the frame's encapsulations kept
pub record Passing : Type 0 where
  pub stack : List Header
  pub kept : ℕ

-- what becomes of a packet and of the layers, and whether anything was changed of these
pub record Crossed : Type 0 where
  pub fate : Result Passing Cause
  pub layers : List LayerSeen
  pub changed : Bool

-- a packet that its walk drops, or that is stopped, changes nothing. Any other has all changed that it wants
abbrev pub made_after : Verdict → Option Stop → List Wanted → List Wanted
made_after Pass None ws = ws
made_after verdict stop ws = []

-- what a crossing changes of the layers
abbrev pub made_by : List LayerSeen → Crossing → List Wanted
made_by ls x = made_after (walk_of ls x).verdict (stop_of ls x (walk_of ls x)) (walk_of ls x).changes

-- the verdict drops it, or the stop, or it passes
abbrev pub fate_after : Verdict → Option Stop → List Header → ℕ → Result Passing Cause
fate_after Pass None hs kept = Ok (record { stack = hs; kept = kept })
fate_after Pass (Some stop) hs kept = Err (cause_of stop)
fate_after (Rule controller layer group rule) stop hs kept = Err (cause.Rule controller layer group rule)
fate_after (Default controller layer dir) stop hs kept = Err (cause.Default controller layer dir)

-- the crossing of a packet, but for want of memory
abbrev pub cross_of : List LayerSeen → Crossing → Crossed
cross_of ls x = record {
  fate = fate_after (walk_of ls x).verdict (stop_of ls x (walk_of ls x)) (walk_of ls x).stack (walk_of ls x).kept;
  layers = all_done (made_by ls x) ls;
  changed = not (length (made_by ls x) == 0);
}

-- a crossing as a walk and a commit tell it: the verdict, the stack and what was kept, what the commit answers, and the layers after it
abbrev pub stop_in : Result Bool Stop → Option Stop
stop_in (Ok changed) = None
stop_in (Err stop) = Some stop

abbrev pub changed_in : Result Bool Stop → Bool
changed_in (Ok changed) = changed
changed_in (Err stop) = false

abbrev pub told : Verdict → List Header → ℕ → Result Bool Stop → List LayerSeen → Crossed
told verdict hs kept answer ls = record { fate = fate_after verdict (stop_in answer) hs kept; layers = ls; changed = changed_in answer }

abbrev pub is_memory : Result Bool Stop → Bool
is_memory (Err Memory) = true
is_memory _ = false
