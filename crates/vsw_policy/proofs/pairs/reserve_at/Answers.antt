use Rattle.std.proofs.Common.{◌∙◌, ◌≤◌, ap, sym, subst}
use Rattle.std.proofs.Math.Seq.{map-set_same}
use Rattle.vsw_policy.specs.Layer.{seen}
use Rattle.vsw_policy.proofs.LayerFirsts.{on_ok}
use Rattle.vsw_policy.proofs.At.{room-set, rooms-kept}
use Rattle.vsw_policy.proofs.pairs.reserve_at.Goals as goal

pub returns-clause-room : goal.returns-clause-room
returns-clause-room c =
    on_ok c.reserve_pair.result
    (λ e. subst (λ n. 1 ≤ n) (sym (room-set c.args.layers.now.items c.args.place c.reserve_pair.new.self c.requires.within)) e)
    c.reserve_pair.ensures.room

pub returns-clause-rooms : goal.returns-clause-rooms
returns-clause-rooms c = rooms-kept c.args.layers.now.items c.args.place c.index_mut.result.now c.reserve_pair.new.self c.requires.within c.index_mut.ensures.value c.reserve_pair.ensures.spare

pub returns-clause-layers : goal.returns-clause-layers
returns-clause-layers c = map-set_same seen c.args.layers.now.items c.args.place c.reserve_pair.new.self c.index_mut.result.now (c.reserve_pair.ensures.same ∙ ap seen c.index_mut.ensures.value)
