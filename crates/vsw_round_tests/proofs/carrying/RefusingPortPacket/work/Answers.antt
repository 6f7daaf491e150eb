use Rattle.vsw_hairpin.proofs.Hops.{none_by}
use Rattle.vsw_round_tests.specs.Carrying.{carried}
use Rattle.vsw_round_tests.proofs.Workers.{carries}
use Rattle.vsw_round_tests.proofs.carrying.RefusingPortPacket.work.Goals as goal

pub returns-clause-crosses : goal.returns-clause-crosses
returns-clause-crosses g c =
    (carried c.args.job.now, carries c.args.self.now c.args.station.now c.note.new.station c.args.job.now c.note.ensures, (λ calls t. t), none_by c.args._place (carried c.args.job.now).deed)
