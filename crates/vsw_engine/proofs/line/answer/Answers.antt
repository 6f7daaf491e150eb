use Rattle.std.proofs.Common.{arith}
use Rattle.vsw_frame.specs.Frame.{parts}
use Rattle.vsw_offload.specs.Answered.{rows_at}
use Rattle.vsw_promise.specs.Jobs.{crossing_by}
use Rattle.vsw_engine.proofs.Answers.{all_short, is_packet}
use Rattle.vsw_engine.proofs.line.answer.Goals as goal

pub returns-clause-len : goal.returns-clause-len
returns-clause-len c =
    let p = parts c.args.frame.now in
    all_short (rows_at c.args.rows.now c.args.place.port) (crossing_by 0 0 c.args.place c.args.moment p) p c.answer_own.result c.answer_own.new.out 65700 (omega (arith, c.answer_own.auto.out, c.requires.room)) (c.answer_own.ensures.answered (crossing_by 0 0 c.args.place c.args.moment p) (is_packet 0 c.args.place c.args.moment p))
