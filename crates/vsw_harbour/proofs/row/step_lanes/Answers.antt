use Rattle.vsw_dock.proofs.ActorLanes.{lanes_fit}
use Rattle.vsw_dock.proofs.Doing.{ready_of}
use Rattle.vsw_dock.specs.ActorsDone.{handed}
use Rattle.vsw_dock.specs.Work.{job_in}
use Rattle.vsw_dock.specs.Docks.{is_of, parcel_in, pass_in, permits, port_in}
use Rattle.vsw_harbour.proofs.Standing.{fit_long, line_fits, works_one}
use Rattle.vsw_harbour.proofs.row.step_lanes.Goals as goal

pub step_at-requires-clause-same : goal.step_at-requires-clause-same
step_at-requires-clause-same g c = fit_long c.args.caller 1 c.args.docks.now c.args.lanes.now c.requires.fit

pub step_at-requires-clause-ready : goal.step_at-requires-clause-ready
step_at-requires-clause-ready g c = ready_of port_in pass_in is_of permits c.args.caller 0 0 c.args.place (job_in c.args.job.now) c.args.docks.now c.args.lanes.now c.requires.own c.requires.fit

pub step_at-requires-clause-fits : goal.step_at-requires-clause-fits
step_at-requires-clause-fits g c = line_fits c.args.job.now c.none-none.result c.args.docks.now c.requires.line

pub returns : goal.returns
returns g c = record {
  works = λ hs calls s. works_one c.args.place c.args.caller c.args.job.now (handed c.step_at.result (parcel_in c.step_at.new.parcel)) c.args.docks.now hs calls c.args.lanes.now c.step_at.new.lanes c.requires.line c.requires.alike c.requires.own c.requires.within s
      (lanes_fit pass_in is_of permits c.args.caller 0 0 c.args.place c.args.docks.now c.step_at.new.lanes (c.step_at.ensures.fit c.args.caller 0 c.requires.fit)) c.step_at.ensures.does;
}
