use Rattle.std.proofs.Common.{◌≤◌, ◌<◌, ℕ, length, arith, sym, subst}
use Rattle.std.specs.List.{AllWithin}
use Rattle.std.proofs.lemmas.List.{length_push}
use Rattle.vsw_index.specs.Block.{IsWithin, IsBlock}
use Rattle.vsw_index.proofs.Blocks.{part_bounds, AreBlocks-push}
use Rattle.vsw_index.proofs.block.blocks_of.Goals as goal

pub loop-at-preserved : goal.loop-at-preserved
loop-at-preserved c =
    let b = c.bounded-block.result in
    let behind : c.loop-at.at < c.end_of-end.result = c.end_of-end.ensures.behind in
    let within : c.end_of-end.result ≤ length c.args.ranges.now = c.end_of-end.ensures.within in
    let P : ℕ → Type 0 = λ n. AllWithin (IsWithin b) c.args.ranges.now c.loop-at.at n in
    let is : IsBlock c.args.ranges.now c.loop-at.at b = record {
      behind = rw c.bounded-block.ensures.end behind;
      ends = rw c.bounded-block.ensures.end within;
      bounds = subst P (sym c.bounded-block.ensures.end) (part_bounds b c.args.ranges.now c.loop-at.at c.end_of-end.result (omega arith) within c.bounded-block.ensures.bounds);
    } in
    let Q : ℕ → Type 0 = λ n. IsBlock c.args.ranges.now n b in
    record {
      blocks = rw c.in_ok-push.ensures (AreBlocks-push c.args.ranges.now c.loop-at.blocks.items b c.loop-at.invariant.blocks (subst Q (sym c.loop-at.invariant.count) is));
      count = rw (c.in_ok-push.ensures, length_push) (omega arith);
    }
