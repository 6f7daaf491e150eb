-- What actions keep, layer after layer.
use Rattle.std.proofs.Common.{true, false, arith}
use Rattle.vsw_rule.specs.declared.rule.Action.TheVariants.{Allow, Drop, Edit}
use Rattle.vsw_rule.specs.ComposeLaw.{KeepsAlong}

pub along : KeepsAlong
along Allow hs kept t l = omega (arith, l)
along Drop hs kept t l = omega (arith, l)
along (Edit false set encap) hs kept t l = omega (arith, l)
along (Edit true set encap) hs kept t l = omega arith
