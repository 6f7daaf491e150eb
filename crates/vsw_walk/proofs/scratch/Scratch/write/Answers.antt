use Rattle.vsw_walk.proofs.Going.{writes_nothing}
use Rattle.vsw_walk.proofs.scratch.Scratch.write.Goals as goal

pub returns-then-is_nothing : goal.returns-then-is_nothing
returns-then-is_nothing c = writes_nothing c.args.set.now c.args.self.now c.args.kept (c.is_nothing.ensures c.if-is_nothing.true)
