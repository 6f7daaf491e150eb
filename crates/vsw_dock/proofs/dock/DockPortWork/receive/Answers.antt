use Rattle.vsw_actors.specs.declared.work.Work.TheVariants as work
use Rattle.vsw_actors.specs.Work.{job_in}
use Rattle.vsw_dock.proofs.Leaving.{second_is}
use Rattle.vsw_dock.proofs.Working.{second_done}
use Rattle.vsw_dock.specs.Docks.{parcel_in}
use Rattle.vsw_dock.proofs.dock.DockPortWork.receive.Goals as goal

pub returns-clause-crosses : goal.returns-clause-crosses
returns-clause-crosses g c =
    let p = c.packet-packet in
    second_done c.args.self.now (job_in (work.Packet p.result)) (parcel_in c.args.parcel.now).1 _ _ _ c.args.station.now c.carry.new.station (second_is p.result c.args.parcel.now p.ensures.worker p.ensures.number p.ensures.place p.ensures.micros p.ensures.bytes) c.carry.ensures.does
