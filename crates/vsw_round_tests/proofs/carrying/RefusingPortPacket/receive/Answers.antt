use Rattle.vsw_round_tests.specs.Carrying.{carried}
use Rattle.vsw_round_tests.proofs.Workers.{carries}
use Rattle.vsw_round_tests.proofs.carrying.RefusingPortPacket.receive.Goals as goal

pub returns-clause-crosses : goal.returns-clause-crosses
returns-clause-crosses g c = (carried c.args.parcel.now, carries c.args.self.now c.args.station.now c.note.new.station c.args.parcel.now c.note.ensures, (λ calls t. t))
