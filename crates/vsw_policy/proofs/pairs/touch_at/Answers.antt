use Rattle.vsw_policy.specs.Layer.{with_touched}
use Rattle.vsw_policy.proofs.At.{set-seen, rooms-kept}
use Rattle.vsw_policy.proofs.pairs.touch_at.Goals as goal

pub returns-clause-touched : goal.returns-clause-touched
returns-clause-touched c = set-seen (with_touched c.args.number c.args.state c.args.last) c.args.layers.now.items c.args.place c.index_mut.result.now c.touch_pair.new.self c.requires.within c.index_mut.ensures.value c.touch_pair.ensures.touched

pub returns-clause-rooms : goal.returns-clause-rooms
returns-clause-rooms c = rooms-kept c.args.layers.now.items c.args.place c.index_mut.result.now c.touch_pair.new.self c.requires.within c.index_mut.ensures.value c.touch_pair.ensures.spare
