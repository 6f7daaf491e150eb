-- A run through a switch that is at its beginning.
use Rattle.std.specs.Prelude.{◌≡◌, ℕ, List, [], map, Ok}
use Rattle.vsw_commandfile.specs.declared.line.Line.{Line}
use Rattle.vsw_config.specs.Policy.{policy_file_of}
use Rattle.vsw_config.specs.declared.file.PolicyFile.{PolicyFile}
use Rattle.vsw_crew.specs.Switch.{SwitchNow, IsAt}
use Rattle.vsw_generate.specs.Policy.{policy_text}
use Rattle.vsw_host.specs.Outside.{Outside}
use Rattle.vsw_promise.specs.Jobs.{Setting}
use Rattle.vsw_promise.specs.Ports.{ports_of}
use Rattle.vsw_run.specs.Generated.{alone_under}
use Rattle.vsw_replay.specs.Runs.{RunsTrace}
use Rattle.vsw_replay.specs.declared.ending.TraceEnd.{TraceEnd}

-- the ports of the run have no history yet
abbrev pub IsFresh : Setting → SwitchNow → Type 0
IsFresh s switch = IsAt s (map (λ p. []) (ports_of s.policy)) switch

-- in each run with these commands for which the switch is fresh, the trace of this name was run, and it ended so
abbrev pub RunsFresh : List Line → SwitchNow → Outside → Outside → List ℕ → TraceEnd → Type 0
RunsFresh lines switch old new name end = (s : Setting) → s.commands ≡ lines → IsFresh s switch → RunsTrace s old new name end

-- the fact holds where the switch is fresh for a workload: it has one worker, and the workload's policy
abbrev pub IfFreshForWorkload : SwitchNow → Type 0 → Type 0
IfFreshForWorkload switch fact = (policy : PolicyFile) → policy_file_of policy_text ≡ Ok policy → IsFresh (alone_under policy) switch → fact
