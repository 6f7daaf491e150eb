use Rattle.std.proofs.Common.{◌∙◌, sym, ap}
use Rattle.std.specs.List.{position, slice_set}
use Rattle.vsw_classify.specs.Groups.{is_group, with_rules}
use Rattle.vsw_classify.proofs.Built.{set_both}
use Rattle.vsw_classify.proofs.Firsts.{changed-none, changed-at}
use Rattle.vsw_classify.proofs.groups.put_both.Goals as goal

pub returns-in_default-clause-put : goal.returns-in_default-clause-put
returns-in_default-clause-put c =
    let p = is_group c.args.group in
    sym (changed-none p (with_rules c.args.rules) c.args.groups.now.items (ap (position p) (sym c.deref.ensures.value) ∙ sym c.group_place.ensures ∙ c.in_default.is))

pub returns-clause-put : goal.returns-clause-put
returns-clause-put c =
    let p = is_group c.args.group in
    let i = ap (position p) (sym c.deref.ensures.value) ∙ sym c.group_place.ensures ∙ c.in-Some.is in
    let e = changed-at p (with_rules c.args.rules) c.args.groups.now.items c.in-Some.place c.index_mut.result.now i in
    ap (λ rs. slice_set c.args.groups.now.items c.in-Some.place (with_rules rs c.index_mut.result.now)) c.rules.view_is
    ∙ ap (λ g. slice_set c.args.groups.now.items c.in-Some.place (with_rules c.args.rules g)) c.index_mut.ensures.value
    ∙ e

pub returns-clause-built : goal.returns-clause-built
returns-clause-built c =
    set_both c.args.groups.now.items c.args.indexes.now.items c.in-Some.place c.rules.inside.rules c.index_mut.result.now c.requires.beside
    ∙ ap (λ rs. slice_set c.args.indexes.now.items c.in-Some.place rs) (sym c.rules.invariant)
