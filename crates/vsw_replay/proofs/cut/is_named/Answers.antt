use Rattle.vsw_replay.proofs.Cuts.{named_places}
use Rattle.vsw_replay.proofs.cut.is_named.Goals as goal

pub returns : goal.returns
returns c = named_places c.args.schedule.now c.args.first c.places.result.now c.is_empty.result c.is_empty.ensures c.places.ensures
