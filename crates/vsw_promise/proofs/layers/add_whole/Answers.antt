use Rattle.vsw_policy.proofs.LayerFirsts.{on_ok}
use Rattle.vsw_promise.proofs.Placing.{admits-all, whole-placed}
use Rattle.vsw_promise.proofs.layers.add_whole.Goals as goal

pub add_groups-requires : goal.add_groups-requires
add_groups-requires c =
    rw c.as_slice.ensures (admits-all c.args.policy.now.controllers c.add_layer.new.policy.controllers c.args.policy.now.layers c.add_layer.new.policy.layers c.args.layer.now c.requires.good c.requires.new c.in_ok-add_layer.ensures.controllers c.in_ok-add_layer.ensures.ok)

pub returns-clause-ok : goal.returns-clause-ok
returns-clause-ok c =
    on_ok c.add_groups.result
    (λ e. whole-placed c.args.policy.now.controllers c.args.policy.now.layers c.add_layer.new.policy.layers c.add_groups.new.policy.layers c.args.layer.now c.requires.new c.in_ok-add_layer.ensures.ok (rw c.as_slice.ensures at e))
    c.add_groups.ensures.ok
