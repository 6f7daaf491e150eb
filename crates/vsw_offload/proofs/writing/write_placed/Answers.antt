use Rattle.std.proofs.Common.{◌<◌, ◌++◌, ◌∙◌, length, subst, sym, ap, arith}
use Rattle.vsw_offload.specs.Private.Writing.{at_place}
use Rattle.vsw_offload.specs.Rows.{row_bytes}
use Rattle.vsw_offload.proofs.Placed.{below_at, written_on}
use Rattle.vsw_offload.proofs.writing.write_placed.Goals as goal

pub at_place-requires : goal.at_place-requires
at_place-requires c =
    let lt : c.loop-index.index < length c.args.places.now = omega (arith, c.loop-index-test.true) in
    subst (λ p. p < length c.args.rows.now) (sym c.place_at.ensures) (below_at (length c.args.rows.now) c.args.places.now c.loop-index.index c.requires.below lt)

pub loop-index-preserved : goal.loop-index-preserved
loop-index-preserved c =
    let rows = c.args.rows.now in
    let before = c.loop-index.out.items in
    let lt : c.loop-index.index < length c.args.places.now = omega (arith, c.loop-index-test.true) in
    record {
      items = written_on rows c.args.places.now c.loop-index.index c.args.out.now.items before c.write_row.new.out.items lt c.loop-index.invariant.items
          (c.in_ok-write_row.ensures ∙ ap (λ x. before ++ row_bytes x) (c.at_place.ensures ∙ ap (at_place rows) c.place_at.ensures));
    }
