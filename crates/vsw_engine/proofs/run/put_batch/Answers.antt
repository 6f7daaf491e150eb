use Rattle.vsw_engine.proofs.Batches.{batch_put, batch_unput, batch_unwritten}
use Rattle.vsw_engine.proofs.run.put_batch.Goals as goal

pub returns-in-Ok-put_text-clause-puts : goal.returns-in-Ok-put_text-clause-puts
returns-in-Ok-put_text-clause-puts g c = λ start name f. batch_put c.args.rows.now start (g.H.Host.outside c.args.host.now) (g.H.Host.outside c.put_text.new.host) name c.args.reading.now c.args.first c.args.stop c.write_lines.new.desk.text _ c.in-Ok.ensures.lines c.in-Ok-put_text.ensures f

pub returns-in-Err-put_text-clause-puts : goal.returns-in-Err-put_text-clause-puts
returns-in-Err-put_text-clause-puts g c = λ start name f. batch_unput c.args.rows.now start (g.H.Host.outside c.args.host.now) (g.H.Host.outside c.put_text.new.host) name c.args.reading.now c.args.first c.args.stop c.write_lines.new.desk.text _ c.in-Ok.ensures.lines c.in-Err-put_text.ensures f

pub returns-in-Err-clause-puts : goal.returns-in-Err-clause-puts
returns-in-Err-clause-puts g c = λ start name f. batch_unwritten c.args.rows.now start (g.H.Host.outside c.args.host.now) name c.args.reading.now c.args.first c.args.stop f
