use Rattle.std.proofs.Common.{◌∙◌, sym, ap}
use Rattle.std.specs.List.{position}
use Rattle.vsw_classify.specs.Groups.{is_group}
use Rattle.vsw_classify.proofs.Built.{removed_both}
use Rattle.vsw_classify.proofs.Firsts.{removed-none, removed-at}
use Rattle.vsw_classify.proofs.groups.remove_both.Goals as goal

pub returns-in_default-clause-gone : goal.returns-in_default-clause-gone
returns-in_default-clause-gone c =
    let p = is_group c.args.group in
    sym (removed-none p c.args.groups.now.items (ap (position p) (sym c.deref.ensures.value) ∙ sym c.group_place.ensures ∙ c.in_default.is))

pub returns-clause-gone : goal.returns-clause-gone
returns-clause-gone c =
    let p = is_group c.args.group in
    let i = ap (position p) (sym c.deref.ensures.value) ∙ sym c.group_place.ensures ∙ c.in-Some.is in
    c.remove.ensures.items ∙ removed-at p c.args.groups.now.items c.in-Some.place i

pub returns-clause-built : goal.returns-clause-built
returns-clause-built c =
    rw (c.remove.ensures.items, c.remove-2.ensures.items) (removed_both c.args.groups.now.items c.args.indexes.now.items c.in-Some.place c.requires.beside)
