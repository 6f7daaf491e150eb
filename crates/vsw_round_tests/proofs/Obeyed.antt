-- Commands.
use Rattle.std.proofs.Common.{ℕ, false, List, [], ◌∷◌, refl}
use Rattle.std.specs.Fmt.{digits}
use Rattle.hex.specs.Hex.{encode_with}
use Rattle.vsw_base.specs.Frame.{frame_in}
use Rattle.vsw_walk.specs.Walk.{walk_of}
use Rattle.vsw_report.specs.Print.{port_line}
use Rattle.vsw_promise.specs.Alone.{rounds_alone}
use Rattle.vsw_promise.specs.Jobs.{Setting}
use Rattle.vsw_promise.specs.Sample.{captured, sample_policy, sample_setting}
use Rattle.vsw_promise.proofs.Exists.{always_rounds}
use Rattle.vsw_round_tests.specs.Commands.{RefusedCommands, PastTheEnd, EndsEarly, refused_lines, late_lines}

abbrev setting : Setting
setting = record { workers = 1; policy = record { version = 1; controllers = 1 ∷ 2 ∷ []; ports = sample_policy.ports; seed = tt }; commands = refused_lines; local = false }

pub refused_commands : RefusedCommands
unfolding port_line digits
refused_commands = record { rounds = rounds_alone setting [] (0 ∷ []); are = always_rounds setting [] (0 ∷ []) refl; text_is = refl }

pub past_the_end : PastTheEnd
unfolding port_line digits encode_with frame_in walk_of
past_the_end = record { rounds = rounds_alone (sample_setting late_lines) (captured 0 ∷ captured 1000 ∷ []) (0 ∷ 1 ∷ 5 ∷ []); are = always_rounds (sample_setting late_lines) (captured 0 ∷ captured 1000 ∷ []) (0 ∷ 1 ∷ 5 ∷ []) refl; text_is = refl }

pub ends_early : EndsEarly
unfolding port_line digits encode_with frame_in walk_of
ends_early = record { rounds = rounds_alone (sample_setting late_lines) (captured 0 ∷ []) (0 ∷ []); are = always_rounds (sample_setting late_lines) (captured 0 ∷ []) (0 ∷ []) refl; text_is = refl }
