use Rattle.std.proofs.Common.{◌≡◌, ◌∷◌, ◌++◌, [], get_or, subst, sym, ◌∙◌}
use Rattle.vsw_offload.proofs.Remade.{more_places, ok_of, one_longer}
use Rattle.vsw_offload.specs.Private.Making.{IsPlaceOf}
use Rattle.vsw_offload.proofs.making.places_of.Goals as goal

pub loop-row-preserved : goal.loop-row-preserved
loop-row-preserved c =
    let n = c.loop-row.row-index in
    let rows = c.args.rows.now in
    let place = c.in_ok-place.place in
    let grown : c.push.new.self ≡ c.loop-row.places ++ place ∷ [] = ok_of c.push.result _ (sym c.if-is_err.false ∙ c.is_err.ensures.value) c.push.ensures.ok in
    let here = subst (λ k. IsPlaceOf (get_or rows k []) c.push_made.new.stacks place) (sym c.loop-row.invariant.long) c.in_ok-place.ensures.place in
    record {
      are = more_places rows c.loop-row.places c.push.new.self c.loop-row.stacks c.push_made.new.stacks place c.loop-row.invariant.are c.in_ok-place.ensures.stay here grown;
      long = one_longer c.loop-row.places c.push.new.self place n grown c.loop-row.invariant.long;
    }
