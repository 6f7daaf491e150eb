use Rattle.std.proofs.Common.{map}
use Rattle.vsw_policy.specs.Layer.{seen}
use Rattle.vsw_flows.proofs.Obeyed.{Names}
use Rattle.vsw_flows.proofs.obeying.named_of.Given as goal

abbrev pub invariant-loop-place : goal.invariant-loop-place
invariant-loop-place l = Names (map seen l.layers) l.controller l.command l.place l.named
