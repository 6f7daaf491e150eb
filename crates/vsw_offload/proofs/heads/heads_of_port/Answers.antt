use Rattle.std.proofs.Common.{◌≡◌, ◌<◌, ap, get_or, length, arith, subst, sym, ◌∙◌}
use Rattle.std.specs.Prelude.{[], None}
use Rattle.vsw_offload.proofs.Found.{one_there}
use Rattle.vsw_offload.specs.Private.Heading.{AreHeads}
use Rattle.vsw_offload.specs.Private.Making.{IsPlaceOf}
use Rattle.vsw_offload.proofs.heads.heads_of_port.Goals as goal

pub loop-row-preserved : goal.loop-row-preserved
loop-row-preserved c =
    let rows = c.args.rows.now in
    let n = c.loop-row.row-index in
    let below : n < length rows = omega (arith, c.loop-row-test.true) in
    let here : c.place_of.result ≡ get_or c.args.places.now n None = c.place_of.ensures ∙ ap (λ k. get_or c.args.places.now k None) c.loop-row.invariant.at in
    record {
      are = λ stacks places. c.in_ok-add.ensures rows stacks (one_there rows n below) (subst (IsPlaceOf (get_or rows n []) stacks) (sym here) (places n)) (c.loop-row.invariant.are stacks places);
      at = omega (arith, c.loop-row.invariant.at);
    }

pub returns : goal.returns
returns c = λ stacks places. subst (AreHeads c.args.rows.now stacks) (sym c.of.ensures) (c.loop-row.invariant.are stacks places)
