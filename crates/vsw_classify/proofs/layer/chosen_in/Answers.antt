use Rattle.std.proofs.Common.{◌∙◌, ap, sym}
use Rattle.vsw_classify.specs.Private.Layer.{marks_last}
use Rattle.vsw_classify.proofs.Layers.{left_out, some_not_none}
use Rattle.vsw_classify.proofs.layer.chosen_in.Goals as goal

pub returns-then-not-has_last : goal.returns-then-not-has_last
returns-then-not-has_last c =
    λ o e. left_out c.args.dir c.args.packet.now c.args.group.now o
    (e ∙ some_not_none c.args.later (sym c.is_some.ensures ∙ c.if-is_some.true))
    (sym (c.has_last.ensures ∙ ap marks_last c.requires.built) ∙ c.if-not-has_last.true)
