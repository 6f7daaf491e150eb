-- The reports that were worked out by hand.
use Rattle.std.proofs.Common.{[], ◌∷◌, refl}
use Rattle.std.specs.Fmt.{digits}
use Rattle.hex.specs.Hex.{encode_with}
use Rattle.vsw_base.specs.Frame.{frame_in}
use Rattle.vsw_walk.specs.Walk.{walk_of}
use Rattle.vsw_report.specs.Print.{layer_text, fault_text, port_line}
use Rattle.vsw_promise.specs.Alone.{rounds_alone}
use Rattle.vsw_promise.specs.Sample.{CommandBetween, BeforeAndBeside, sample_setting, captured, dropping_line, early_and_late, loose_records}
use Rattle.vsw_promise.specs.ToldSample.{IsToldSo}
use Rattle.vsw_promise.proofs.Exists.{always_rounds}

pub told_so : IsToldSo
unfolding digits encode_with
told_so = refl

pub command_between : CommandBetween
unfolding port_line digits encode_with frame_in walk_of layer_text
command_between = record {
  rounds = rounds_alone (sample_setting (dropping_line ∷ [])) (captured 0 ∷ captured 1000 ∷ []) (0 ∷ 1 ∷ []);
  are = always_rounds (sample_setting (dropping_line ∷ [])) (captured 0 ∷ captured 1000 ∷ []) (0 ∷ 1 ∷ []) refl;
  text_is = refl;
}

pub before_and_beside : BeforeAndBeside
unfolding port_line digits frame_in fault_text
before_and_beside = record {
  rounds = rounds_alone (sample_setting early_and_late) loose_records (0 ∷ []);
  are = always_rounds (sample_setting early_and_late) loose_records (0 ∷ []) refl;
  text_is = refl;
}
