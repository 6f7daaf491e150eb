-- What a run over a generated workload puts: the summary of the rounds that a report would tell.
use Rattle.std.specs.Prelude.{◌≡◌, ℕ, List, [], length, map, Bool, false, Ok}
use Rattle.vsw_generate.specs.Policy.{policy_text}
use Rattle.vsw_generate.specs.Workload.{workload_of}
use Rattle.vsw_pcap.specs.declared.capture.Record.{Record}
use Rattle.vsw_config.specs.declared.file.PolicyFile.{PolicyFile}
use Rattle.vsw_config.specs.Policy.{policy_file_of}
use Rattle.vsw_report.specs.declared.round.Round.{Round}
use Rattle.vsw_report.specs.Short.{are_short}
use Rattle.vsw_promise.specs.Jobs.{Setting, cuts}
use Rattle.vsw_promise.specs.Rounds.{AreRounds}
use Rattle.vsw_promise.specs.Summary.{summary_text}

-- a packet of the workload as a record that was captured whole
abbrev pub whole_record : ℕ × List ℕ → Record
whole_record p = record { moment = p.0; original = length p.1; bytes = p.1 }

-- so many packets, drawn from this number
abbrev pub generated_records : (start packets : ℕ) → List Record
generated_records start packets = map whole_record (workload_of start packets)

-- one worker, no commands, and no packet is handed on between ports
abbrev pub alone_under : PolicyFile → Setting
alone_under policy = record { workers = 1; policy = policy; commands = []; local = false }

-- the text is the summary of the rounds of these packets under the workload's policy. Memory was wanting in them, or not
pub record Summarizes (start packets : ℕ) (short : Bool) (text : List ℕ) : Type 0 where
  pub policy : PolicyFile
  pub good : policy_file_of policy_text ≡ Ok policy
  pub rounds : List Round
  pub are : AreRounds (alone_under policy) (generated_records start packets) (cuts [] packets) rounds
  pub short_is : are_short rounds ≡ short
  pub text_is : text ≡ summary_text packets rounds
