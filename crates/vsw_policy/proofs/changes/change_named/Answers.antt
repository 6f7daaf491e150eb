use Rattle.std.proofs.Common.{◌∙◌, ap}
use Rattle.std.proofs.Math.Seq.{map-set_same}
use Rattle.vsw_policy.specs.Layer.{seen}
use Rattle.vsw_policy.specs.Layers.{is_layer}
use Rattle.vsw_policy.specs.Obey.{within}
use Rattle.vsw_policy.proofs.LayerFirsts.{on_ok, on_err}
use Rattle.vsw_policy.proofs.Firsts.{none-seen, some-seen}
use Rattle.vsw_policy.proofs.changes.change_named.Goals as goal

pub returns-in_default-clause-ok : goal.returns-in_default-clause-ok
returns-in_default-clause-ok c =
    none-seen seen (is_layer c.args.controller c.args.layer) (within c.args.command.now) c.args.layers.now.items _ _ c.layer_place.ensures c.deref.ensures.value c.in_default.is

pub returns-clause-ok : goal.returns-clause-ok
returns-clause-ok c =
    on_ok c.change_within.result
    (λ e. some-seen seen (is_layer c.args.controller c.args.layer) (within c.args.command.now) c.args.layers.now.items _ _ c.in-Some.place c.index_mut.result.now c.change_within.new.layer c.layer_place.ensures c.deref.ensures.value c.in-Some.is c.index_mut.ensures.value e)
    c.change_within.ensures.ok

pub returns-clause-err : goal.returns-clause-err
returns-clause-err c =
    on_err c.change_within.result
    (λ e. map-set_same seen c.args.layers.now.items c.in-Some.place c.change_within.new.layer c.index_mut.result.now (e ∙ ap seen c.index_mut.ensures.value))
    c.change_within.ensures.err
