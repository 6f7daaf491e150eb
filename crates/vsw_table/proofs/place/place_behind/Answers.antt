use Rattle.std.proofs.Common.{◌<◌, ◌+◌, ap, subst, sym, ◌∙◌}
use Rattle.vsw_table.specs.Places.{table_size}
use Rattle.vsw_table.proofs.Words.{in_part}
use Rattle.vsw_table.proofs.place.place_behind.Goals as goal

pub returns-clause-place : goal.returns-clause-place
returns-clause-place c = ap (λ n. n + c.args.behind) c.turn_place.ensures.place ∙ (in_part c.args.rows c.args.row c.args.from c.args.behind c.requires.inside.0 c.requires.inside.1 c.requires.part).0

pub returns-clause-inside : goal.returns-clause-inside
returns-clause-inside c =
    let is = in_part c.args.rows c.args.row c.args.from c.args.behind c.requires.inside.0 c.requires.inside.1 c.requires.part in
    subst (λ n. n < table_size c.args.rows) (sym (ap (λ n. n + c.args.behind) c.turn_place.ensures.place ∙ is.0)) is.1
