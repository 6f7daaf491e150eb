use Rattle.vsw_app.proofs.Answering.{answer_broken, answer_put}
use Rattle.vsw_app.proofs.check.put_answer.Goals as goal

pub returns-in-Ok : goal.returns-in-Ok
returns-in-Ok g c = answer_put (g.H.Host.outside c.args.host.now) (g.H.Host.outside c.put.new.self) c.answer_text.result.now c.args.answer _ c.answered.result c.answer_text.ensures c.answered.ensures c.in-Ok.ensures.puts

pub returns-in-Err : goal.returns-in-Err
returns-in-Err g c = answer_broken (g.H.Host.outside c.args.host.now) (g.H.Host.outside c.put.new.self) c.answer_text.result.now c.args.answer _ c.answer_text.ensures c.in-Err.ensures.puts
