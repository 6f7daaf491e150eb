-- The definition of a right checksum computes on headers of other programs.
use Rattle.std.proofs.Common.{refl}
use Rattle.vsw_header.specs.IpVectors.{OptionsAreRight, PlainIsRight}

pub plain_is_right : PlainIsRight
plain_is_right = refl

pub options_are_right : OptionsAreRight
options_are_right = refl
