use Rattle.std.proofs.Common.{◌≡◌, take}
use Rattle.vsw_base.proofs.stack.fill.Given as goal

abbrev pub invariant-loop-header : goal.invariant-loop-header
invariant-loop-header l = l.out ≡ take l.header-index l.headers
