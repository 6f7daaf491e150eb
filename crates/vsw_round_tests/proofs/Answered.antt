-- A packet and its reply.
use Rattle.std.proofs.Common.{ℕ, false, List, [], ◌∷◌, refl}
use Rattle.std.specs.Fmt.{digits}
use Rattle.hex.specs.Hex.{encode_with}
use Rattle.vsw_base.specs.Frame.{frame_in}
use Rattle.vsw_walk.specs.Walk.{walk_of}
use Rattle.vsw_header.specs.Ip.{pushed_checksum}
use Rattle.vsw_pcap.specs.declared.capture.Record.{Record}
use Rattle.vsw_report.specs.Print.{port_line}
use Rattle.vsw_promise.specs.Alone.{rounds_alone}
use Rattle.vsw_promise.specs.Jobs.{Setting}
use Rattle.vsw_promise.specs.Sample.{captured}
use Rattle.vsw_promise.proofs.Exists.{always_rounds}
use Rattle.vsw_round_tests.specs.Replies.{Replies, reply_policy, reply_frame}

abbrev setting : Setting
setting = record { workers = 1; policy = reply_policy; commands = []; local = false }

abbrev records : List Record
records = captured 0 ∷ record { moment = 1000; original = 94; bytes = reply_frame } ∷ []

pub replies : Replies
unfolding port_line digits encode_with frame_in walk_of pushed_checksum
replies = record { rounds = rounds_alone setting records (0 ∷ []); are = always_rounds setting records (0 ∷ []) refl; text_is = refl }
