-- The files of a run: what was opened and read of them, and what they say.
use Rattle.std.specs.Prelude.{◌≡◌, ◌<◌, ◌≤◌, ◌+◌, ℕ, List, [], ◌∷◌, length, take, Bool, Ok, Err}
use Rattle.vsw_commandfile.specs.declared.fault.CommandsFault.{CommandsFault}
use Rattle.vsw_commandfile.specs.declared.fault.CommandsFault.TheVariants as commands_fault
use Rattle.vsw_commandfile.specs.Commands.{commands_file_of}
use Rattle.vsw_commandfile.specs.declared.line.Line.{Line}
use Rattle.vsw_host.specs.Outside.{Opened, Outside, Rose}
use Rattle.vsw_host.specs.Reading.{piece}
use Rattle.vsw_host.specs.Told.{TellsHeld, TellsSince}
use Rattle.vsw_policy.specs.Sound.{Each}
use Rattle.vsw_config.specs.declared.file.PolicyFile.{PolicyFile}
use Rattle.vsw_config.specs.declared.file.ConfigFault.{ConfigFault}
use Rattle.vsw_config.specs.declared.file.ConfigFault.TheVariants as policy_fault
use Rattle.vsw_config.specs.Policy.{policy_file_of}
use Rattle.vsw_promise.specs.Jobs.{Setting}
use Rattle.vsw_run.specs.declared.ending.Ending.{Ending}
use Rattle.vsw_run.specs.declared.ending.Ending.TheVariants as ending
use Rattle.vsw_run.specs.Words.{Request}
use Rattle.vsw_run.specs.Trace.{Reach, All, Fault, Stopped, Trace}

-- the most bytes of a policy file
abbrev pub most_policy : ℕ
most_policy = 4194304

-- the most bytes of a commands file
abbrev pub most_commands : ℕ
most_commands = 16777216

-- all of a file was read
abbrev pub IsWhole : Opened → Type 0
IsWhole f = f.read ≡ length f.bytes

-- the file of this name was read to its end, and is this policy
pub record IsPolicy (name : List ℕ) (f : Opened) (policy : PolicyFile) : Type 0 where
  pub named : f.name ≡ name
  pub whole : IsWhole f
  pub good : policy_file_of f.bytes ≡ Ok policy

-- the file of this name was read to its end, and is these commands, under this policy
pub record AreCommands (name : List ℕ) (f : Opened) (policy : PolicyFile) (lines : List Line) : Type 0 where
  pub named : f.name ≡ name
  pub whole : IsWhole f
  pub good : commands_file_of policy f.bytes ≡ Ok lines

-- the policy is opened first; the commands only once it was read and is good; the trace only once these were read and are good
abbrev pub InTurn : Request → List Opened → Type 0
InTurn q [] = Unit {0}
InTurn q (p ∷ []) = p.name ≡ q.policy
InTurn q (p ∷ c ∷ []) = (policy : PolicyFile) × IsPolicy q.policy p policy × (c.name ≡ q.commands)
InTurn q (p ∷ c ∷ t ∷ []) = (policy : PolicyFile) × (lines : List Line) × IsPolicy q.policy p policy × AreCommands q.commands c policy lines × (t.name ≡ q.trace)
InTurn q _ = ⊥

-- no more is read of the policy and of the commands than the limit and one piece
abbrev pub AreCutShort : List Opened → Type 0
AreCutShort [] = Unit {0}
AreCutShort (p ∷ []) = p.read ≤ most_policy + piece
AreCutShort (p ∷ c ∷ fs) = (p.read ≤ most_policy + piece) × (c.read ≤ most_commands + piece)

-- these files were opened since, and no other, in this order; the host held them, where it tells that
pub record Opens (old new : Outside) (q : Request) (files : List Opened) : Type 0 where
  pub since : TellsSince old.inputs new.inputs files
  pub held : Each (λ f. TellsHeld old.inputs f.name f.bytes) files
  pub within : Each (λ f. f.read ≤ length f.bytes) files
  pub in_turn : InTurn q files

-- a file over its limit is read no further than one piece past it. Any other fault is shown by the whole file
abbrev pub ShowsPolicy : ConfigFault → Opened → Type 0
ShowsPolicy policy_fault.PolicyLimit f = (most_policy < f.read) × (f.read ≤ most_policy + piece)
ShowsPolicy why f = IsWhole f

-- so it is of commands
abbrev pub ShowsCommands : CommandsFault → Opened → Type 0
ShowsCommands commands_fault.CommandsLimit f = (most_commands < f.read) × (f.read ≤ most_commands + piece)
ShowsCommands why f = IsWhole f

-- the policy is refused, or over a limit, and no other file was opened. No bytes give the fault Memory: a run without memory ends by that
pub record HasBadPolicy (files : List Opened) (why : ConfigFault) : Type 0 where
  pub policy : Opened
  pub only : files ≡ policy ∷ []
  pub shown : ShowsPolicy why policy
  pub bad : policy_file_of policy.bytes ≡ Err why

-- the commands are refused, or over a limit, and the trace wasn't opened
pub record HasBadCommands (files : List Opened) (why : CommandsFault) : Type 0 where
  pub policy : Opened
  pub commands : Opened
  pub only : files ≡ policy ∷ commands ∷ []
  pub shown : ShowsCommands why commands
  pub given : PolicyFile
  pub good : policy_file_of policy.bytes ≡ Ok given
  pub bad : commands_file_of given commands.bytes ≡ Err why

-- the trace wasn't opened
pub record LacksTrace (files : List Opened) : Type 0 where
  pub few : length files ≤ 2
  pub cut_short : AreCutShort files

-- the trace was opened, of a run in this setting, in which packets are handed on between ports or aren't
pub record HasTrace (local : Bool) (q : Request) (files : List Opened) (s : Setting) (trace : Opened) : Type 0 where
  pub policy : Opened
  pub commands : Opened
  pub all : files ≡ policy ∷ commands ∷ trace ∷ []
  pub workers : s.workers ≡ q.workers
  pub hands_on : s.local ≡ local
  pub policy_good : policy_file_of policy.bytes ≡ Ok s.policy
  pub commands_good : commands_file_of s.policy commands.bytes ≡ Ok s.commands

-- what shows where the reading ended: all is read at the end, and the host counted a fault. Stopping needs no sign
abbrev pub Reaches : Outside → Outside → Opened → Reach → Type 0
Reaches old new f All = IsWhole f
Reaches old new f Fault = Rose old.input_faults new.input_faults
Reaches old new f Stopped = Unit {0}

-- this was read of a file
pub record IsReadOf (old new : Outside) (f : Opened) (t : Trace) : Type 0 where
  pub bytes : t.bytes ≡ take f.read f.bytes
  pub reaches : Reaches old new f t.reach

-- why a run ends before it opened its trace. Want of memory needs no sign, and may come later
abbrev pub IsEarly : Outside → Outside → List Opened → Ending → Type 0
IsEarly old new files (ending.Policy why) = HasBadPolicy files why
IsEarly old new files (ending.Commands why) = HasBadCommands files why
IsEarly old new files ending.ReadFault = Rose old.input_faults new.input_faults × LacksTrace files
IsEarly old new files ending.Memory = Unit {0}
IsEarly old new files _ = ⊥
