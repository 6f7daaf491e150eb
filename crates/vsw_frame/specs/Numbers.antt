-- The numbers of acts as far as their types bound them: all but VNIs, which the form of a transposition bounds.
use Rattle.std.specs.Prelude.{List, [], ◌∷◌}
use Rattle.vsw_base.specs.declared.header.Header.{Header}
use Rattle.vsw_base.specs.declared.header.Header.TheVariants.{Ether, Ip, Vxlan, Ports, Six}
use Rattle.vsw_base.specs.Fits.{IsFit}
use Rattle.vsw_transpose.specs.declared.act.Act.{Act}
use Rattle.vsw_transpose.specs.declared.act.Act.TheVariants.{Push, Pop, Modify, Ignore}
use Rattle.vsw_frame.specs.RoundTrip.{IsActFit}

abbrev pub IsOfTypes : Header → Type 0
IsOfTypes (Ether d s kind) = IsFit (Ether d s kind)
IsOfTypes (Ip a b proto part) = IsFit (Ip a b proto part)
IsOfTypes (Vxlan vni) = Unit {0}
IsOfTypes (Ports proto x y) = IsFit (Ports proto x y)
IsOfTypes (Six a b proto) = IsFit (Six a b proto)

abbrev pub IsActOfTypes : Act → Type 0
IsActOfTypes (Push h) = IsOfTypes h
IsActOfTypes Pop = IsActFit Pop
IsActOfTypes (Modify change) = IsActFit (Modify change)
IsActOfTypes Ignore = IsActFit Ignore

abbrev pub AreActsOfTypes : List Act → Type 0
AreActsOfTypes [] = Unit {0}
AreActsOfTypes (act ∷ acts) = IsActOfTypes act × AreActsOfTypes acts
