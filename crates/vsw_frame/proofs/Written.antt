-- The definition of outgoing bytes computes on frames that were rewritten by hand.
use Rattle.std.proofs.Common.{refl}
use Rattle.vsw_base.specs.Frame.{frame_in}
use Rattle.vsw_header.specs.Ip.{pushed_checksum}
use Rattle.vsw_frame.specs.Vectors.{WritesEncapsulated, WritesAnswer, WritesSixAnswer, WritesSixPort, WritesSixSource}

pub writes_encapsulated : WritesEncapsulated
unfolding frame_in pushed_checksum
writes_encapsulated = refl

pub writes_answer : WritesAnswer
unfolding frame_in pushed_checksum
writes_answer = refl

pub writes_six_port : WritesSixPort
unfolding frame_in
writes_six_port = refl

pub writes_six_answer : WritesSixAnswer
unfolding frame_in
writes_six_answer = refl

pub writes_six_source : WritesSixSource
unfolding frame_in
writes_six_source = refl
