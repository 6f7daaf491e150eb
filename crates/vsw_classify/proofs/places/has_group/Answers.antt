use Rattle.std.proofs.Common.{◌∙◌, ap}
use Rattle.std.specs.Option.{is_some}
use Rattle.vsw_classify.specs.Groups.{is_group}
use Rattle.vsw_classify.proofs.Firsts.{some-any}
use Rattle.vsw_classify.proofs.places.has_group.Goals as goal

pub returns : goal.returns
returns c = c.is_some.ensures ∙ ap is_some c.group_place.ensures ∙ some-any (is_group c.args.number) c.args.groups.now
