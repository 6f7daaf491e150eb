-- The life of a connection.
use Rattle.std.proofs.Common.{ℕ, false, List, [], ◌∷◌, refl}
use Rattle.std.specs.Fmt.{digits}
use Rattle.hex.specs.Hex.{encode_with}
use Rattle.vsw_base.specs.Frame.{frame_in}
use Rattle.vsw_walk.specs.Walk.{walk_of}
use Rattle.vsw_report.specs.Print.{port_line}
use Rattle.vsw_promise.specs.Alone.{rounds_alone}
use Rattle.vsw_promise.specs.Jobs.{Setting}
use Rattle.vsw_promise.proofs.Exists.{always_rounds}
use Rattle.vsw_round_tests.specs.Life.{LifeOfAPair, life_policy, life_records, sweep_line}

abbrev setting : Setting
setting = record { workers = 1; policy = life_policy; commands = sweep_line ∷ []; local = false }

pub life_of_a_pair : LifeOfAPair
unfolding port_line digits encode_with frame_in walk_of
life_of_a_pair = record { rounds = rounds_alone setting life_records (0 ∷ 6 ∷ []); are = always_rounds setting life_records (0 ∷ 6 ∷ []) refl; text_is = refl }
