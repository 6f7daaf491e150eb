-- Commands that are obeyed and refused, commands past the end of a trace, and a trace that ends early.
use Rattle.std.specs.Prelude.{◌≡◌, ℕ, ◌+◌, List, [], ◌∷◌, ◌++◌, length, map, true, false, codes}
use Rattle.vsw_base.specs.declared.packet.Dir.TheVariants.{In}
use Rattle.vsw_commandfile.specs.declared.line.Line.{Line}
use Rattle.vsw_pcap.specs.declared.capture.Record.{Record}
use Rattle.vsw_policy.specs.declared.command.Command.{Command}
use Rattle.vsw_policy.specs.declared.command.Command.TheVariants.{AddLayer, AddRule, PutRules, SetDefault}
use Rattle.vsw_policy.specs.declared.layer.LayerSpec.{LayerSpec}
use Rattle.vsw_rule.specs.declared.rule.Action.TheVariants.{Allow}
use Rattle.vsw_port.specs.Order.{counted}
use Rattle.vsw_report.specs.declared.round.Round.{Round}
use Rattle.vsw_promise.specs.Jobs.{Setting, cuts_within}
use Rattle.vsw_report.specs.Print.{report_text}
use Rattle.vsw_promise.specs.Rounds.{AreRounds}
use Rattle.vsw_promise.specs.Sample.{IsReport, captured, rule_with, sample_policy, sample_setting}

abbrev pub layer : ℕ → LayerSpec
layer number = record { layer = number; order = number; allow_out = false; allow_in = false; pairs = 100; idle = 240; linger = 10 }

-- line n asks before packet 0
abbrev pub asks : ℕ → ℕ → Command → Line
asks n controller command = record { number = n; at = 0; during = false; controller = controller; port = 1; command = command }

-- a layer that is there; a group that isn't; sixteen layers beside the one; a rule that is there; and another controller's layer of the first one's number
abbrev pub refused_lines : List Line
refused_lines = asks 1 1 (AddLayer (layer 10)) ∷ asks 2 1 (PutRules 10 9 []) ∷ map (λ i. asks (3 + i) 1 (AddLayer (layer (11 + i)))) (counted 0 16) ++ asks 19 1 (AddRule 10 1 (rule_with Allow)) ∷ asks 20 2 (AddLayer (layer 10)) ∷ []

abbrev pub RefusedCommands : Type 0
RefusedCommands = IsReport (record { workers = 1; policy = record { version = 1; controllers = 1 ∷ 2 ∷ []; ports = sample_policy.ports; seed = tt }; commands = refused_lines; local = false }) []
    (codes "vsw report 1\nround 0\nport 1 0 20\nc1 1 +0 refused 2 LayerExists\nc1 2 +1 refused 3 NoGroup\nc1 3 +2 ok\nc1 4 +3 ok\nc1 5 +4 ok\nc1 6 +5 ok\nc1 7 +6 ok\nc1 8 +7 ok\nc1 9 +8 ok\nc1 10 +9 ok\nc1 11 +10 ok\nc1 12 +11 ok\nc1 13 +12 ok\nc1 14 +13 ok\nc1 15 +14 ok\nc1 16 +15 ok\nc1 17 +16 ok\nc1 18 +17 refused 7 ManyLayers\nc1 19 +18 refused 6 RuleExists\nc2 20 +19 ok\nloose\n")

-- at packets 1 and 5 of a trace of two
abbrev pub late_lines : List Line
late_lines = record { number = 1; at = 5; during = true; controller = 1; port = 1; command = SetDefault 10 In true } ∷ record { number = 2; at = 1; during = false; controller = 1; port = 1; command = SetDefault 10 In true } ∷ []

-- after a clean end rounds begin past the last packet, too
abbrev pub PastTheEnd : Type 0
PastTheEnd = IsReport (sample_setting late_lines) (captured 0 ∷ captured 1000 ∷ [])
    (codes "vsw report 1\nround 0\nport 1 0 0\nw0 0 @0 pass 44 02000000009902000000000108004500001e00004000401126c20a0000050a00000904d20035000a7e5c6869\nloose\nround 1\nport 1 0 1\nc1 2 +0 ok\nw0 1 @1 pass 44 02000000009902000000000108004500001e00004000401126c20a0000050a00000904d20035000a7e5c6869\nloose\nround 5\nport 1 1 2\nc1 1 +1 ok\nloose\n")

-- if a trace ends early, those rounds are told that begin at one of its records
pub record EndsEarly : Type 0 where
  pub rounds : List Round
  pub are : AreRounds (sample_setting late_lines) (captured 0 ∷ []) (cuts_within late_lines (length (captured 0 ∷ []))) rounds
  pub text_is : report_text rounds ≡ codes "vsw report 1\nround 0\nport 1 0 0\nw0 0 @0 pass 44 02000000009902000000000108004500001e00004000401126c20a0000050a00000904d20035000a7e5c6869\nloose\n"
