use Rattle.std.proofs.Common.{◌≡◌, List, ℕ, ◌≤◌, ◌+◌, ◌*◌, ◌/◌, ◌++◌, ◌∙◌, ap, refl, subst, arith, take, drop, length}
use Rattle.hex.specs.Hex.{encode_lower}
use Rattle.vsw_report.proofs.Next.{next_block, no_digits}
use Rattle.vsw_report.proofs.text.write_hex.Goals as goal

pub loop-i-init : goal.loop-i-init
loop-i-init c = record { front = no_digits; long = refl }

pub loop-i-preserved : goal.loop-i-preserved
loop-i-preserved c =
    let i = c.loop-i.i in
    let bytes = c.args.bytes.now in
    let room : 32 * i + 32 ≤ length bytes = omega (arith, c.loop-i-test.true) in
    record {
      front = c.write_block.ensures.front ∙ ap (λ (l : List ℕ). l ++ encode_lower (take 32 (drop (32 * i) bytes))) c.loop-i.invariant.front ∙ next_block bytes i room;
      long = c.write_block.ensures.long ∙ c.loop-i.invariant.long;
    }

pub write_rest-requires-clause-front : goal.write_rest-requires-clause-front
write_rest-requires-clause-front c =
    let last : c.loop-i.i ≡ length c.args.bytes.now / 32 = omega (arith, c.loop-i-test.false, c.loop-i.auto.i-end) in
    subst (λ (n : ℕ). take (64 * n) c.loop-i.text ≡ encode_lower (take (32 * n) c.args.bytes.now)) last c.loop-i.invariant.front
