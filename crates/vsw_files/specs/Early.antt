-- What the reading of the policy and of the commands leaves.
use Rattle.std.specs.Prelude.{◌≡◌, ◌≤◌, ℕ, List, [], ◌∷◌, Result, Ok, Err}
use Rattle.vsw_commandfile.specs.Commands.{commands_file_of}
use Rattle.vsw_commandfile.specs.declared.line.Line.{Line}
use Rattle.vsw_host.specs.Outside.{Opened, Outside, SameOutputs}
use Rattle.vsw_config.specs.Policy.{policy_file_of}
use Rattle.vsw_config.specs.declared.file.PolicyFile.{PolicyFile}
use Rattle.vsw_run.specs.Files.{AreCommands, AreCutShort, IsEarly, IsPolicy, Opens}
use Rattle.vsw_run.specs.declared.ending.Ending.{Ending}
use Rattle.vsw_run.specs.declared.ending.Ending.TheVariants as ending
use Rattle.vsw_run.specs.Words.{Request}

-- the bytes of a policy file, judged: what is wrong with them ends the run by that, and want of memory by that
abbrev pub JudgesPolicy : List ℕ → Result PolicyFile Ending → Type 0
JudgesPolicy bytes (Ok policy) = policy_file_of bytes ≡ Ok policy
JudgesPolicy bytes (Err (ending.Policy why)) = policy_file_of bytes ≡ Err why
JudgesPolicy bytes (Err ending.Memory) = Unit {0}
JudgesPolicy bytes (Err _) = ⊥

-- the same of the bytes of a commands file, under a policy
abbrev pub JudgesCommands : PolicyFile → List ℕ → Result (List Line) Ending → Type 0
JudgesCommands policy bytes (Ok lines) = commands_file_of policy bytes ≡ Ok lines
JudgesCommands policy bytes (Err (ending.Commands why)) = commands_file_of policy bytes ≡ Err why
JudgesCommands policy bytes (Err ending.Memory) = Unit {0}
JudgesCommands policy bytes (Err _) = ⊥

-- these files were read, and nothing else was done
pub record HasRead (q : Request) (old new : Outside) (files : List Opened) : Type 0 where
  pub opens : Opens old new q files
  pub short : AreCutShort files
  pub outputs : SameOutputs old new
  pub later : old.input_faults ≤ new.input_faults

-- the policy was read, and is good
pub record HasPolicy (q : Request) (old new : Outside) (policy : PolicyFile) : Type 0 where
  pub file : Opened
  pub read : HasRead q old new (file ∷ [])
  pub is : IsPolicy q.policy file policy

-- so were the commands
pub record HasCommands (q : Request) (old new : Outside) (policy : PolicyFile) (lines : List Line) : Type 0 where
  pub policy_file : Opened
  pub file : Opened
  pub read : HasRead q old new (policy_file ∷ file ∷ [])
  pub policy_is : IsPolicy q.policy policy_file policy
  pub are : AreCommands q.commands file policy lines

-- the run ended so early, and nothing was put or complained
pub record EndsEarly (q : Request) (old new : Outside) (end : Ending) : Type 0 where
  pub files : List Opened
  pub opens : Opens old new q files
  pub outputs : SameOutputs old new
  pub why : IsEarly old new files end

-- what the reading of the policy leaves, and that of the commands
abbrev pub ReadsPolicy : Request → Outside → Outside → Result PolicyFile Ending → Type 0
ReadsPolicy q old new (Ok policy) = HasPolicy q old new policy
ReadsPolicy q old new (Err end) = EndsEarly q old new end

abbrev pub ReadsCommands : Request → Outside → Outside → PolicyFile → Result (List Line) Ending → Type 0
ReadsCommands q old new policy (Ok lines) = HasCommands q old new policy lines
ReadsCommands q old new policy (Err end) = EndsEarly q old new end
