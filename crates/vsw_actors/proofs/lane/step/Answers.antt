use Rattle.std.proofs.Common.{refl}
use Rattle.vsw_promise.specs.Rounds.{opening_of}
use Rattle.vsw_actors.proofs.Lanes.{lane_moves_on, worked_hop}
use Rattle.vsw_actors.specs.Actors.{handed}
use Rattle.vsw_actors.proofs.lane.step.Goals as goal

pub returns-clause-moves : goal.returns-clause-moves
returns-clause-moves g c = lane_moves_on g.P.Port.pass_in g.P.Port.tells (opening_of (g.P.Port.port_in c.args.port.now)) (g.P.Port.locals c.args.port.now) c.args.place (g.P.Port.job_in c.args.job.now) (handed c.work.result (g.P.Port.parcel_in c.work.new.parcel)) c.args.lane.now (record { station = c.work.new.station; base = c.args.lane.now.base }) refl c.requires.usable.based c.work.ensures.crosses

pub returns-clause-holds : goal.returns-clause-holds
returns-clause-holds g c = λ was. (
  c.work.ensures.holds was,
  worked_hop g.P.Port.pass_in g.P.Port.tells (opening_of (g.P.Port.port_in c.args.port.now)) (g.P.Port.locals c.args.port.now) c.args.place (g.P.Port.job_in c.args.job.now) c.work.result (g.P.Port.parcel_in c.work.new.parcel) c.args.lane.now.station c.work.new.station c.work.ensures.crosses was,
)
