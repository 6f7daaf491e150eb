-- What is read of a frame that was rewritten by hand.
use Rattle.std.proofs.Common.{refl}
use Rattle.vsw_base.specs.Frame.{frame_in}
use Rattle.vsw_frame.specs.Vectors.{ReadsInside, ReadsPlain, ReadsPlainSix}

pub reads_plain : ReadsPlain
unfolding frame_in
reads_plain = refl

pub reads_inside : ReadsInside
unfolding frame_in
reads_inside = refl

pub reads_plain_six : ReadsPlainSix
unfolding frame_in
reads_plain_six = refl
