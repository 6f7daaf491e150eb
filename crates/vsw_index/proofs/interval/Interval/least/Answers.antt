use Rattle.vsw_index.proofs.RangeAgreed.{answers}
use Rattle.vsw_index.proofs.interval.Interval.least.Goals as goal

pub returns-clause-answers : goal.returns-clause-answers
returns-clause-answers c = rw c.find.ensures (answers c.args.self.now c.args.value c.args.from)
