-- Reports that were worked out by hand.
use Rattle.std.specs.Prelude.{◌≡◌, ℕ, List, [], ◌∷◌, ◌++◌, length, true, false, codes}
use Rattle.vsw_base.specs.declared.packet.Dir.TheVariants.{Out}
use Rattle.vsw_base.specs.Vectors.{plain_frame}
use Rattle.vsw_commandfile.specs.declared.line.Line.{Line}
use Rattle.vsw_pcap.specs.declared.capture.Record.{Record}
use Rattle.vsw_policy.specs.declared.command.Command.TheVariants.{AddGroup, PutRules, RemoveGroup}
use Rattle.vsw_config.specs.declared.file.PolicyFile.{PolicyFile}
use Rattle.vsw_rule.specs.declared.field.Field.TheVariants.{DstIp}
use Rattle.vsw_rule.specs.declared.rule.Action.{Action}
use Rattle.vsw_rule.specs.declared.rule.Action.TheVariants.{Allow, Drop}
use Rattle.vsw_rule.specs.declared.rule.Item.TheVariants.{Prefix}
use Rattle.vsw_rule.specs.declared.rule.Rule.{Rule}
use Rattle.vsw_report.specs.declared.round.Round.{Round}
use Rattle.vsw_promise.specs.Jobs.{Setting, cuts}
use Rattle.vsw_report.specs.Print.{report_text}
use Rattle.vsw_promise.specs.Rounds.{AreRounds}

-- a trace that ends cleanly after these records has this report
pub record IsReport (s : Setting) (records : List Record) (text : List ℕ) : Type 0 where
  pub rounds : List Round
  pub are : AreRounds s records (cuts s.commands (length records)) rounds
  pub text_is : report_text rounds ≡ text

-- what is done with packets to 10.0.0.0/24
abbrev pub rule_with : Action → Rule
rule_with action = record { number = 5; priority = 10; when = record { field = DstIp; items = Prefix (record { value = 0x0a000000; bits = 24 }) ∷ [] } ∷ []; action = action; stateful = false; last = false }

-- one controller, and one port with one layer and one rule, which allows them
abbrev pub sample_policy : PolicyFile
sample_policy = record {
  version = 1;
  controllers = 1 ∷ [];
  ports = record {
    port = 1;
    mac = 0x020000000001;
    rows = 64;
    layers = record {
      controller = 1;
      spec = record { layer = 10; order = 1; allow_out = false; allow_in = false; pairs = 100; idle = 240; linger = 10 };
      groups = record { number = 1; dir = Out; when = []; rules = rule_with Allow ∷ [] } ∷ [];
    } ∷ [];
  } ∷ [];
  seed = tt;
}

-- a run of one worker with these commands
abbrev pub sample_setting : List Line → Setting
sample_setting commands = record { workers = 1; policy = sample_policy; commands = commands; local = false }

-- the plain frame, captured whole
abbrev pub captured : ℕ → Record
captured moment = record { moment = moment; original = 44; bytes = plain_frame }

-- ---- one packet twice, and between them a command by which the second is dropped

abbrev pub dropping_line : Line
dropping_line = record { number = 1; at = 1; during = false; controller = 1; port = 1; command = PutRules 10 1 (rule_with Drop ∷ []) }

abbrev pub CommandBetween : Type 0
CommandBetween = IsReport (sample_setting (dropping_line ∷ [])) (captured 0 ∷ captured 1000 ∷ []) (codes "vsw report 1\nround 0\nport 1 0 0\nw0 0 @0 pass 44 02000000009902000000000108004500001e00004000401126c20a0000050a00000904d20035000a7e5c6869\nloose\nround 1\nport 1 0 1\nc1 1 +0 ok\nw0 1 @1 drop rule 1/10/1/5\nloose\n")

-- ---- commands before and beside packets that reach no port

-- line 1 runs beside the packets, line 2 before them: the group isn't there yet when it is removed
abbrev pub early_and_late : List Line
early_and_late = record { number = 1; at = 0; during = true; controller = 1; port = 1; command = AddGroup 10 2 Out [] } ∷ record { number = 2; at = 0; during = false; controller = 1; port = 1; command = RemoveGroup 10 2 } ∷ []

-- one byte that is no frame; a frame cut to nothing; and one for no port
abbrev pub loose_records : List Record
loose_records = record { moment = 0; original = 1; bytes = 2 ∷ [] } ∷ record { moment = 0; original = 44; bytes = [] } ∷ record { moment = 0; original = 14; bytes = 2 ∷ 0 ∷ 0 ∷ 0 ∷ 0 ∷ 7 ∷ 2 ∷ 0 ∷ 0 ∷ 0 ∷ 0 ∷ 8 ∷ 8 ∷ 6 ∷ [] } ∷ []

abbrev pub BeforeAndBeside : Type 0
BeforeAndBeside = IsReport (sample_setting early_and_late) loose_records (codes "vsw report 1\nround 0\nport 1 0 2\nc1 2 +0 refused 3 NoGroup\nc1 1 +1 ok\nloose\n0 malformed 1 ShortEther\n1 snapped\n2 noport\n")
