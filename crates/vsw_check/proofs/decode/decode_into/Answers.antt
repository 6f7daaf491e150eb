use Rattle.std.proofs.Common.{◌≡◌, ◌+◌, ◌-◌, ◌*◌, length, drop, Some, subst, sym, arith, slice_set, length-set, ◌∙◌, ap}
use Rattle.vsw_check.specs.Private.Decode.{decoded}
use Rattle.vsw_check.proofs.Hex.{not_a_pair, one_pair_more}
use Rattle.vsw_check.proofs.decode.decode_into.Goals as goal

pub returns-in-None : goal.returns-in-None
returns-in-None c =
    not_a_pair (c.loop-at.at - 1) c.args.text.now (omega (arith, c.loop-at.invariant.0, c.loop-at.invariant.1, c.loop-at-test.true)) (sym c.in-None.ensures)

pub loop-at-preserved : goal.loop-at-preserved
loop-at-preserved c =
    let long : length (slice_set c.loop-at.out (c.loop-at.at - 1) c.in-Some.byte) ≡ length c.loop-at.out = length-set c.loop-at.out (c.loop-at.at - 1) c.in-Some.byte in
    let there : c.loop-at.at ≡ c.loop-at.at - 1 + 1 = omega (arith, c.loop-at-test.true) in (
      omega (arith, long, c.loop-at.invariant.0),
      c.loop-at.invariant.1 ∙ ap (λ n. 2 * n) (sym long),
      one_pair_more (c.loop-at.at - 1) c.in-Some.byte c.args.text.now c.loop-at.out
          (omega (arith, c.loop-at.invariant.0, c.loop-at.invariant.1, c.loop-at-test.true))
          (omega (arith, c.loop-at.invariant.0, c.loop-at-test.true))
          (sym c.in-Some.ensures)
          (subst (λ k. decoded (drop (2 * k) c.args.text.now) ≡ Some (drop k c.loop-at.out)) there c.loop-at.invariant.2),
    )

pub returns : goal.returns
returns c =
    let nothing : c.loop-at.at ≡ 0 = omega (arith, c.loop-at-test.false) in
    subst (λ k. decoded (drop (2 * k) c.args.text.now) ≡ Some (drop k c.loop-at.out)) nothing c.loop-at.invariant.2
