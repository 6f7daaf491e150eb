use Rattle.std.proofs.Common.{subst}
use Rattle.vsw_actors.specs.Actors.{handed}
use Rattle.vsw_base.specs.declared.flow.Crossing.{Crossing}
use Rattle.vsw_base.specs.Frame.{Parts}
use Rattle.vsw_frame.specs.Frame.{parts}
use Rattle.vsw_live.specs.Calls.{Crosses, call_of}
use Rattle.vsw_live.specs.Seen.{UnitSeen}
use Rattle.vsw_port.specs.Calls.{Carry}
use Rattle.vsw_promise.specs.Jobs.{crossing_by}
use Rattle.vsw_rows.specs.GoodRows.{opening_of}
use Rattle.vsw_dock.proofs.Working.{carried_so, read_is}
use Rattle.vsw_dock.specs.Docks.{parcel_in}
use Rattle.vsw_dock.specs.Private.Does.{HandsOn}
use Rattle.vsw_dock.specs.Seen.{StationSeen}
use Rattle.vsw_dock.proofs.station.Station.carry.Goals as goal

pub returns-clause-does : goal.returns-clause-does
returns-clause-does g c =
    let o = opening_of c.args.port.now.looking.1 in
    let p = c.args.packet.now in
    let s = c.self.inside in
    let unit : UnitSeen = record { crossing = crossing_by p.worker p.number p.place p.micros (parts c.in-Ok.frame); parts = parts c.in-Ok.frame } in
    let after : StationSeen = record { pass = c.cross-answer.new.pass; lines = c.tell_packet.new.lines; whole = c.tell_packet.new.whole } in
    let crosses = subst (λ (x : Crossing). Crosses o s.pass c.cross-answer.new.pass (call_of (record { crossing = x; parts = parts c.in-Ok.frame }) c.cross-answer.result c.cross-answer.new.room)) c.bring.ensures c.cross-answer.ensures.crosses in
    let done = subst (λ (r : StationSeen). HandsOn o c.args.locals.now p.place.port (Carry unit.crossing unit.parts) (handed c.hand-handed.result (parcel_in c.hand-handed.new.parcel)) r after) c.self.view_is
    (carried_so o c.args.locals.now p.place.port (handed c.hand-handed.result (parcel_in c.hand-handed.new.parcel)) s.pass c.cross-answer.new.pass s.lines c.tell_packet.new.lines s.whole c.tell_packet.new.whole unit c.cross-answer.result c.cross-answer.new.room
    crosses c.tell_packet.ensures.told c.hand-handed.ensures.hands) in
    subst (λ (x : Parts). HandsOn o c.args.locals.now p.place.port (Carry (crossing_by p.worker p.number p.place p.micros x) x) (handed c.hand-handed.result (parcel_in c.hand-handed.new.parcel)) c.args.self.now after)
    (read_is p.bytes.now (parts c.in-Ok.frame) c.in-Ok.ensures.parts) done
