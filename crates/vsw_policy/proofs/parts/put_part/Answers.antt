use Rattle.vsw_policy.specs.Layer.{seen}
use Rattle.vsw_policy.specs.Layers.{is_layer}
use Rattle.vsw_policy.specs.Obey.{within}
use Rattle.vsw_policy.specs.declared.command.Command.TheVariants.{PutRules}
use Rattle.vsw_policy.proofs.Firsts.{none-seen, some-seen}
use Rattle.vsw_policy.proofs.parts.put_part.Goals as goal

pub returns-in_default : goal.returns-in_default
returns-in_default c =
    none-seen seen (is_layer c.args.controller c.args.part.layer) (within (PutRules c.args.part.layer c.args.part.group c.args.part.rules)) c.args.layers.now.items _ _ c.layer_place.ensures c.deref.ensures.value c.in_default.is

pub returns : goal.returns
returns c =
    some-seen seen (is_layer c.args.controller c.args.part.layer) (within (PutRules c.args.part.layer c.args.part.group c.args.part.rules)) c.args.layers.now.items _ _ c.in-Some.place c.index_mut.result.now c.put_indexed.new.self c.layer_place.ensures c.deref.ensures.value c.in-Some.is c.index_mut.ensures.value c.put_indexed.ensures
