use Rattle.std.proofs.Common.{◌∷◌, ◌++◌, ◌∙◌, List, Some, ap}
use Rattle.vsw_base.specs.declared.header.Header.TheVariants.{Vxlan}
use Rattle.vsw_base.specs.Frame.{Level, Parts, level_of}
use Rattle.vsw_frame.specs.Levels.{level_fields, more_levels}
use Rattle.vsw_frame.specs.Seen.{opened_fields}
use Rattle.vsw_frame.proofs.LevelsOf.{level_is, two_levels}
use Rattle.vsw_frame.proofs.found.encapsulated.Goals as goal

pub returns-clause-parts : goal.returns-clause-parts
returns-clause-parts c = λ front hs vni e.
    let i = c.args.inner.now in
    let o = opened_fields front c.args.opened.now in
    let said : List Level → Parts = λ ls. record { stack = front ++ Vxlan vni ∷ hs; control = i.control; levels = ls; payload = i.payload.now } in
    ap (λ (l : Level). said (l ∷ (level_fields i.first ∷ more_levels i.second))) (level_is c.args.bytes.now o e)
    ∙ ap (λ (ls : List Level). said (level_of c.args.bytes.now o ∷ (level_fields i.first ∷ ls))) (two_levels i.second i.third c.requires.levels)
