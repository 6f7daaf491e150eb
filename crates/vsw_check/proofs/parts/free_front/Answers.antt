use Rattle.std.proofs.Common.{◌≡◌, ◌==◌, ◌+◌, ◌-◌, false, drop, take, subst, sym, arith}
use Rattle.std.specs.List.{list_any}
use Rattle.vsw_check.proofs.Fronts.{further}
use Rattle.vsw_check.proofs.parts.free_front.Goals as goal

pub loop-at-preserved : goal.loop-at-preserved
loop-at-preserved c =
    let block : list_any (λ b. b == c.args.separator) (take (c.loop-at.at + 64 - c.loop-at.at) (drop c.loop-at.at c.args.bytes.now)) ≡ false = sym c.if-has.ensures in
    let all : c.loop-at.at + 64 - c.loop-at.at ≡ 64 = omega arith in (
      omega (arith, c.loop-at.invariant.0, c.loop-at-test.true),
      further (λ b. b == c.args.separator) c.loop-at.at 64 c.args.bytes.now (omega (arith, c.loop-at.invariant.0, c.loop-at-test.true))
          (subst (λ k. list_any (λ b. b == c.args.separator) (take k (drop c.loop-at.at c.args.bytes.now)) ≡ false) all block) c.loop-at.invariant.1,
    )
