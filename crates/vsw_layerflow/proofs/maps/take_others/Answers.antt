use Rattle.std.proofs.Common.{◌∙◌, ap, cond, None, Option, ℕ}
use Rattle.std.specs.Map.{lookup}
use Rattle.vsw_layerflow.specs.Pairs.{same_probe, holds, back}
use Rattle.vsw_layerflow.proofs.Replaced.{others_taken}
use Rattle.vsw_layerflow.proofs.maps.take_others.Goals as goal

pub returns-clause-place : goal.returns-clause-place
returns-clause-place c q =
    let i = rw c.front.ensures at c.take_unheld.ensures.place in
    let j = rw c.back.ensures at c.take_unheld-2.ensures.place in
    let l = c.args.pair.now in
    let p = c.args.other.now in
    j q ∙ ap (λ (o : Option ℕ). cond (same_probe (back l) q) (cond (holds (back l) p) o None) o) (i q) ∙ others_taken p l q (lookup (same_probe q) c.args.places.now.entries)
