use Rattle.std.proofs.Common.{refl}
use Rattle.vsw_promise.specs.Rounds.{opening_of}
use Rattle.vsw_actors.proofs.Lanes.{lane_moves}
use Rattle.vsw_actors.proofs.hop.receive.Goals as goal

pub returns-clause-moves : goal.returns-clause-moves
returns-clause-moves g c = lane_moves g.P.Port.pass_in g.P.Port.tells (opening_of (g.P.Port.port_in c.args.port.now)) (g.P.Port.parcel_in c.args.parcel.now).1 c.args.lane.now (record { station = c.receive.new.station; base = c.args.lane.now.base }) refl c.requires.usable.based c.receive.ensures.crosses
