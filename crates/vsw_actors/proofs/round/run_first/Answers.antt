use Rattle.std.proofs.Common.{◌≡◌, ◌++◌, rules, subst}
use Rattle.vsw_workers.specs.Rounds.{AllFinish}
use Rattle.vsw_actors.proofs.Turning.{finish_both}
use Rattle.vsw_actors.proofs.round.run_first.Goals as goal

pub returns : goal.returns
returns g c =
    let before = c.split_at_mut-before.result.0.now in
    let behind = c.split_at_mut-before.result.1.now in
    let all : before ++ behind ≡ c.args.actors.now = search rules in
    subst (λ w. AllFinish g.F.Forwarder.what g.F.Forwarder.done g.F.Forwarder.todo w (c.run_round.new.actors ++ c.finish_all.new.actors)) all
    (finish_both g.F.Forwarder.what g.F.Forwarder.done g.F.Forwarder.todo before c.run_round.new.actors behind c.finish_all.new.actors c.run_round.ensures c.finish_all.ensures)
