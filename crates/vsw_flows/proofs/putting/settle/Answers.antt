use Rattle.vsw_flows.proofs.Settled.{settled, settled_left, settled_short}
use Rattle.vsw_flows.proofs.putting.settle.Goals as goal

pub returns-then-not-keep-clause-settles : goal.returns-then-not-keep-clause-settles
returns-then-not-keep-clause-settles c =
    settled_short c.args.row c.args.writer.now c.fall.new.writer c.args.leaning.now c.fall.new.leaning c.keep.new.self c.fall.ensures c.keep.ensures.others c.keep.ensures.spots

pub returns-then-enter-clause-settles : goal.returns-then-enter-clause-settles
returns-then-enter-clause-settles c =
    settled c.args.row c.args.writer.now c.fall.new.writer c.enter.new.writer c.args.leaning.now c.fall.new.leaning c.keep.new.self c.enter.new.leaning c.fall.ensures c.keep.ensures.others c.keep.ensures.spots c.enter.ensures.enters

pub returns-clause-settles : goal.returns-clause-settles
returns-clause-settles c =
    settled_left c.args.row c.args.writer.now c.enter.new.writer c.args.leaning.now c.enter.new.leaning c.leave.new.self
    (settled c.args.row c.args.writer.now c.fall.new.writer c.enter.new.writer c.args.leaning.now c.fall.new.leaning c.keep.new.self c.enter.new.leaning c.fall.ensures c.keep.ensures.others c.keep.ensures.spots c.enter.ensures.enters)
    c.leave.ensures.kept c.leave.ensures.others
