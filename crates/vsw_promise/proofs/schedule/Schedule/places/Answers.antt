use Rattle.std.proofs.Common.{◌≡◌, ◌+◌, List, map, Some, ap, subst, ◌∙◌, length, arith, rules}
use Rattle.std.specs.List.{slice_get}
use Rattle.vsw_commandfile.specs.declared.line.Line.{Line}
use Rattle.vsw_promise.specs.Index.{count_below}
use Rattle.vsw_promise.specs.Schedule.{commands_at}
use Rattle.vsw_promise.proofs.Beside.{part_is}
use Rattle.vsw_promise.proofs.Counts.{count_within, count_rises}
use Rattle.vsw_promise.proofs.schedule.Schedule.places.Goals as goal

pub part-requires : goal.part-requires
part-requires c =
    let firsts = c.self.inside.firsts.items in
    let from : c.below-from.result ≡ count_below c.args.first firsts = (search rules) in
    let to : c.below-to.result ≡ count_below (c.args.first + 1) firsts = (search rules) in
    let places = ap length c.deref-3.ensures.value in
    (omega (arith, count_rises c.args.first firsts), omega (arith, count_within (c.args.first + 1) firsts, c.self.invariant.long))

pub returns : goal.returns
returns c =
    let firsts = c.self.inside.firsts.items in
    let from : c.below-from.result ≡ count_below c.args.first firsts = (search rules) in
    let to : c.below-to.result ≡ count_below (c.args.first + 1) firsts = (search rules) in
    let part = part_is c.args.first _ _ firsts c.self.inside.places.items c.part.result.now from to (search rules) in
    let P : List Line → Type 0 = λ lines. map (λ place. slice_get lines place) c.part.result.now ≡ map (λ (l : Line). Some l) (commands_at c.args.first lines) in
    subst P c.self.view_is (ap (map (λ place. slice_get c.self.inside.lines place)) part ∙ c.self.invariant.commands c.args.first)
