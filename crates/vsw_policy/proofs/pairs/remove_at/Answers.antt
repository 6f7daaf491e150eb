use Rattle.vsw_policy.specs.Layer.{without_pair}
use Rattle.vsw_policy.proofs.At.{set-seen, rooms-kept}
use Rattle.vsw_policy.proofs.pairs.remove_at.Goals as goal

pub returns-clause-gone : goal.returns-clause-gone
returns-clause-gone c = set-seen (without_pair c.args.number) c.args.layers.now.items c.args.place c.index_mut.result.now c.remove_pair.new.self c.requires.within c.index_mut.ensures.value c.remove_pair.ensures.gone

pub returns-clause-rooms : goal.returns-clause-rooms
returns-clause-rooms c = rooms-kept c.args.layers.now.items c.args.place c.index_mut.result.now c.remove_pair.new.self c.requires.within c.index_mut.ensures.value c.remove_pair.ensures.spare
