use Rattle.std.proofs.Common.{◌∙◌, ap, sym}
use Rattle.vsw_classify.specs.Groups.{is_group, rules_of}
use Rattle.vsw_classify.proofs.Firsts.{find-none, find-some}
use Rattle.vsw_classify.proofs.places.rules_in.Goals as goal

pub returns-in-Some : goal.returns-in-Some
returns-in-Some c =
    c.as_slice.ensures
    ∙ ap rules_of (sym (find-some (is_group c.args.number) c.args.groups.now c.in-Some.place c.index-groups-place.result (sym c.group_place.ensures ∙ c.in-Some.is)))

pub returns-in-None : goal.returns-in-None
returns-in-None c = ap rules_of (sym (find-none (is_group c.args.number) c.args.groups.now (sym c.group_place.ensures ∙ c.in-None.is)))
