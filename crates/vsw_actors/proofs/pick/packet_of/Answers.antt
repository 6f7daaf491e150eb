use Rattle.std.proofs.Common.{◌+◌, refl}
use Rattle.vsw_actors.proofs.Picking.{pick_is, pick_work}
use Rattle.vsw_actors.specs.declared.work.Packet.{Packet}
use Rattle.vsw_actors.proofs.pick.packet_of.Goals as goal

pub at-captured-requires : goal.at-captured-requires
at-captured-requires c = c.requires.pick.1.within

pub returns-clause-job : goal.returns-clause-job
returns-clause-job c =
    let p : Packet = record { worker = c.args.worker; number = c.args.first + c.args.pick.now.at; place = c.args.pick.now.place; micros = c.micros.result; bytes = c.at-captured.result.bytes } in
    pick_is c.args.worker c.args.first c.at-captured.result p c.args.packets.now c.args.pick.now refl refl refl c.micros.ensures refl c.at-captured.ensures

pub returns-clause-work : goal.returns-clause-work
returns-clause-work c = λ ports cs is.
    let p : Packet = record { worker = c.args.worker; number = c.args.first + c.args.pick.now.at; place = c.args.pick.now.place; micros = c.micros.result; bytes = c.at-captured.result.bytes } in
    pick_work ports cs c.at-captured.result p c.args.packets.now c.args.pick.now c.requires.worker refl refl c.at-captured.ensures is
