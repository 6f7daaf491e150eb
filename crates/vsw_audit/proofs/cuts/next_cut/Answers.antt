use Rattle.std.proofs.Common.{◌≤◌, ◌+◌, ◌*◌, ◌/◌, arith}
use Rattle.vsw_audit.proofs.Cutting.{next_multiple_too, next_named}
use Rattle.vsw_audit.proofs.cuts.next_cut.Goals as goal

pub returns-then-first-total : goal.returns-then-first-total
returns-then-first-total c = let le : c.args.total ≤ (c.args.first / 1024 + 1) * 1024 = omega (arith, c.if-first-total.true) in next_named c.args.commands.now c.args.first c.args.total c.after-named.result c.after-named.ensures le

pub returns-then-multiple-total : goal.returns-then-multiple-total
returns-then-multiple-total c = next_multiple_too c.args.commands.now c.args.first c.args.total c.lesser.result c.after-named.result c.after-named.ensures c.if-multiple-total.true c.lesser.ensures

pub returns-else-multiple-total : goal.returns-else-multiple-total
returns-else-multiple-total c = let le : c.args.total ≤ (c.args.first / 1024 + 1) * 1024 = omega (arith, c.if-multiple-total.false) in next_named c.args.commands.now c.args.first c.args.total c.after-named.result c.after-named.ensures le
