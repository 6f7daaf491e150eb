use Rattle.vsw_frame.specs.Frame.{parts}
use Rattle.vsw_offload.specs.Answered.{rows_at}
use Rattle.vsw_offload.proofs.Own.{left_there, own_left}
use Rattle.vsw_offload.proofs.rows.Rows.answer_in.Goals as goal

-- src/rows.rt:165:5
pub returns-then-given : goal.returns-then-given
returns-then-given c = λ x of. own_left (rows_at c.args.self.now c.args.place.port) x (parts c.args.frame.now) c.in-Some.given.own c.in-Some.given.fate c.answer_own.new.out c.write_own.new.out c.if-given.true c.in-Some.ensures.own c.write_own.ensures (c.in-Some.ensures.answered x of)

-- src/rows.rt:165:5
pub returns-else-given : goal.returns-else-given
returns-else-given c = λ x of. left_there (rows_at c.args.self.now c.args.place.port) x (parts c.args.frame.now) c.in-Some.given.own c.in-Some.given.fate c.answer_own.new.out c.if-given.false (c.in-Some.ensures.answered x of)
