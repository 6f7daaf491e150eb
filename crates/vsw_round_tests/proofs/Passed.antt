-- One packet, and none.
use Rattle.std.proofs.Common.{[], ◌∷◌, refl}
use Rattle.std.specs.Fmt.{digits}
use Rattle.hex.specs.Hex.{encode_with}
use Rattle.vsw_base.specs.Frame.{frame_in}
use Rattle.vsw_walk.specs.Walk.{walk_of}
use Rattle.vsw_report.specs.Print.{port_line}
use Rattle.vsw_promise.specs.Alone.{rounds_alone}
use Rattle.vsw_promise.specs.Sample.{captured, sample_setting}
use Rattle.vsw_promise.proofs.Exists.{always_rounds}
use Rattle.vsw_round_tests.specs.OnePacket.{NoPacket, OnePacket}

pub one_packet : OnePacket
unfolding port_line digits encode_with frame_in walk_of
one_packet = record { rounds = rounds_alone (sample_setting []) (captured 0 ∷ []) (0 ∷ []); are = always_rounds (sample_setting []) (captured 0 ∷ []) (0 ∷ []) refl; text_is = refl }

pub no_packet : NoPacket
unfolding port_line digits
no_packet = record { rounds = rounds_alone (sample_setting []) [] (0 ∷ []); are = always_rounds (sample_setting []) [] (0 ∷ []) refl; text_is = refl }
