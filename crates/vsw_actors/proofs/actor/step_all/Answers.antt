use Rattle.std.proofs.Common.{◌∙◌, sym}
use Rattle.vsw_actors.proofs.Doing.{ready_of, ready_on, roomy_one, roomy_still}
use Rattle.vsw_actors.proofs.Lanes.{lanes_fit}
use Rattle.vsw_actors.proofs.actor.step_all.Goals as goal

pub step_at-requires-clause-ready : goal.step_at-requires-clause-ready
step_at-requires-clause-ready g c = ready_of g.P.Port.port_in g.P.Port.pass_in g.P.Port.is_of g.P.Port.permits c.requires.own.0 0 0 c.args.place (g.P.Port.job_in c.args.job.now) c.args.ports.now c.args.lanes.now c.requires.own.1 c.requires.own.2

pub step_at-requires-clause-fits : goal.step_at-requires-clause-fits
step_at-requires-clause-fits g c = roomy_one g.P.Port.fits c.args.job.now _ c.args.ports.now c.requires.roomy

pub receive_at-requires-clause-ready : goal.receive_at-requires-clause-ready
receive_at-requires-clause-ready g c =
    let hop = (c.step_at.ensures.holds c.if-step_at.true).1 in
    ready_on g.P.Port.port_in g.P.Port.pass_in g.P.Port.is_of g.P.Port.permits c.requires.own.0 0 0 c.args.place c.place-next.result (g.P.Port.job_in c.args.job.now) (g.P.Port.parcel_in c.step_at.new.parcel).1 c.args.ports.now c.step_at.new.lanes (λ e. hop.other (sym c.place-next.ensures ∙ e)) hop.doer c.requires.own.1
    (c.step_at.ensures.fit c.requires.own.0 0 c.requires.own.2)

pub returns-then-step_at-clause-roomy : goal.returns-then-step_at-clause-roomy
returns-then-step_at-clause-roomy g c = roomy_still g.P.Port.fits c.args.parcel.now c.step_at.new.parcel c.args.ports.now c.step_at.ensures.fits c.requires.roomy

pub returns-else-step_at-clause-fit : goal.returns-else-step_at-clause-fit
returns-else-step_at-clause-fit g c = λ k more f. lanes_fit g.P.Port.pass_in g.P.Port.is_of g.P.Port.permits k more 0 c.args.place c.args.ports.now c.step_at.new.lanes (c.step_at.ensures.fit k more f)

pub returns-else-step_at-clause-roomy : goal.returns-else-step_at-clause-roomy
returns-else-step_at-clause-roomy g c = roomy_still g.P.Port.fits c.args.parcel.now c.step_at.new.parcel c.args.ports.now c.step_at.ensures.fits c.requires.roomy
