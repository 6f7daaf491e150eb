use Rattle.std.proofs.Common.{rules}
use Rattle.vsw_promise.specs.Rounds.{opening_of}
use Rattle.vsw_actors.proofs.Lanes.{done_here, done_there, spend_here}
use Rattle.vsw_actors.specs.Actors.{handed}
use Rattle.vsw_actors.specs.Lanes.{MovesOn}
use Rattle.vsw_actors.proofs.lane.+step_at.Goals as goal

pub returns-then-at-place-clause-does : goal.returns-then-at-place-clause-does
returns-then-at-place-clause-does g t c =
    done_here g.P.Port.port_in g.P.Port.pass_in g.P.Port.tells (λ p. MovesOn (opening_of (g.P.Port.port_in p)) (g.P.Port.locals p) c.args.place (g.P.Port.job_in c.args.job.now) (handed c.step.result (g.P.Port.parcel_in c.step.new.parcel))) c.args.at c.args.place c.in-Some.port.now c.in-Some.others.now c.args.ports.now c.in-Some-split_first_mut.lane.now c.step.new.lane c.in-Some-split_first_mut.rest.now c.args.lanes.now
    (search rules) (search rules) (search rules) c.step.ensures.moves

pub returns-then-at-place-clause-fit : goal.returns-then-at-place-clause-fit
returns-then-at-place-clause-fit g t c =
    spend_here g.P.Port.pass_in g.P.Port.is_of g.P.Port.permits c.args.at c.args.place c.in-Some.port.now c.in-Some.others.now c.args.ports.now c.in-Some-split_first_mut.lane.now c.step.new.lane c.in-Some-split_first_mut.rest.now c.args.lanes.now (search rules) (search rules) (search rules) c.step.ensures.fit

pub returns-else-at-place-clause-does : goal.returns-else-at-place-clause-does
returns-else-at-place-clause-does g t c =
    done_there g.P.Port.port_in g.P.Port.pass_in g.P.Port.tells (λ p. MovesOn (opening_of (g.P.Port.port_in p)) (g.P.Port.locals p) c.args.place (g.P.Port.job_in c.args.job.now) (handed c.step_at.result (g.P.Port.parcel_in c.step_at.new.parcel))) c.args.at c.args.place c.in-Some.port.now c.in-Some.others.now c.args.ports.now c.in-Some-split_first_mut.lane.now c.in-Some-split_first_mut.rest.now c.step_at.new.lanes c.args.lanes.now
    (search rules) (search rules) (search rules) c.step_at.ensures.does
