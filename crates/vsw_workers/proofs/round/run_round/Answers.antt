use Rattle.std.proofs.Common.{rules}
use Rattle.vsw_workers.proofs.Every.{all_from_each}
use Rattle.vsw_workers.proofs.round.run_round.Goals as goal

pub returns : goal.returns
returns g c = all_from_each g.F.Forwarder.what g.F.Forwarder.done g.F.Forwarder.todo c.args.actors.now c.run_each.new.actors (search rules) c.run_each.ensures
