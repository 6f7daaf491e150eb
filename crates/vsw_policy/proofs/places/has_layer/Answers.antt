use Rattle.std.proofs.Common.{◌∙◌, ap, map}
use Rattle.std.specs.Option.{is_some}
use Rattle.vsw_policy.specs.Layer.{seen}
use Rattle.vsw_policy.proofs.LayerFirsts.{some-any}
use Rattle.vsw_policy.specs.Layers.{is_layer}
use Rattle.vsw_policy.proofs.places.has_layer.Goals as goal

pub returns : goal.returns
returns c = c.is_some.ensures ∙ ap is_some c.layer_place.ensures ∙ some-any (is_layer c.args.controller c.args.number) (map seen c.args.layers.now)
