-- A round told by one thread.
use Rattle.std.proofs.Common.{◌≡◌, ℕ, Bool, List, Result, Ok, Err, IfOk}
use Rattle.vsw_base.specs.declared.fault.NoMemory.{NoMemory}
use Rattle.vsw_commandfile.specs.declared.line.Line.{Line}
use Rattle.vsw_port.specs.declared.event.Event.{Event}
use Rattle.vsw_pcap.specs.declared.capture.Record.{Record}
use Rattle.vsw_promise.specs.Jobs.{Setting}
use Rattle.vsw_crew.specs.Round.{RunsRound, TellsRound}
use Rattle.vsw_crew.specs.Switch.{SwitchNow, IsAt}

pub told_alone : (lines : List Line) (first : ℕ) (packets : List Record) (s w : SwitchNow) (r : Result Bool NoMemory) (old new : List ℕ)
    → IfOk r (λ short. (set : Setting) (hs : List (List Event)) → set.commands ≡ lines → IsAt set hs s → RunsRound set hs first packets w short old new)
    → IfOk r (λ short. (set : Setting) (hs : List (List Event)) → set.commands ≡ lines → IsAt set hs s → TellsRound set hs first packets w short old new)
told_alone lines first packets s w (Err e) old new t = tt
told_alone lines first packets s w (Ok short) old new t = λ set hs is stands. (t set hs is stands).tells
