use Rattle.vsw_round_tests.specs.Refusing.{refused}
use Rattle.vsw_round_tests.proofs.Asking.{refuses}
use Rattle.vsw_round_tests.proofs.refusing.RefusingPortU32.receive.Goals as goal

pub returns-clause-crosses : goal.returns-clause-crosses
returns-clause-crosses g c = (refused c.args.parcel.now, refuses c.args.self.now c.args.station.now c.note.new.station c.args.parcel.now, (λ calls t. t))
