-- The values that were worked out by hand.
use Rattle.std.proofs.Common.{refl}
use Rattle.vsw_port.specs.Sample.{CallersAre, AreMeasured}

pub callers_are : CallersAre
callers_are = refl

pub measured : AreMeasured
measured = record { bare = refl; pushed = refl }
