-- The policy of the generated workload is good.
use Rattle.std.specs.Prelude.{◌≡◌, Ok}
use Rattle.vsw_generate.specs.Policy.{policy_text}
use Rattle.vsw_config.specs.declared.file.PolicyFile.{PolicyFile}
use Rattle.vsw_config.specs.Policy.{policy_file_of}

-- its text is a policy file that is read
abbrev pub IsRead : Type 0
IsRead = (policy : PolicyFile) × (policy_file_of policy_text ≡ Ok policy)
