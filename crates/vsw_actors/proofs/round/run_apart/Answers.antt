use Rattle.std.proofs.Common.{◌≡◌, ◌+◌, ◌-◌, length, subst, arith}
use Rattle.vsw_workers.specs.Rounds.{AllFinish}
use Rattle.vsw_actors.proofs.Turning.{finish_turned}
use Rattle.vsw_actors.proofs.round.run_apart.Goals as goal

pub returns : goal.returns
returns g c =
    let old = c.args.actors.now in
    let others = length old - c.args.first - c.args.waiting in
    let whole : c.args.first + c.args.waiting + others ≡ length old = omega (arith, c.requires) in
    finish_turned g.F.Forwarder.what g.F.Forwarder.done g.F.Forwarder.todo c.args.first c.args.waiting others old c.run_first.new.actors c.turn-2.new.all whole c.turn-2.ensures
    (subst (λ w. AllFinish g.F.Forwarder.what g.F.Forwarder.done g.F.Forwarder.todo w c.run_first.new.actors) c.turn.ensures c.run_first.ensures)
