use Rattle.vsw_files.proofs.Tracing.{report_fault, report_long, report_memory, report_read}
use Rattle.vsw_files.proofs.report.open_report.Goals as goal

pub returns-in-Whole : goal.returns-in-Whole
returns-in-Whole g c = λ k start p lines records named h. report_read k start (g.H.Host.outside c.args.host.now) (g.H.Host.outside c.read_file.new.host) p lines records c.args.name.now c.read_file.new.got.items c.deref.result.now c.judged_report.result named h c.in-Whole.ensures.reads c.deref.ensures.value c.judged_report.ensures

pub returns-in-Fault : goal.returns-in-Fault
returns-in-Fault g c = λ k start p lines records named h. report_fault k start (g.H.Host.outside c.args.host.now) (g.H.Host.outside c.read_file.new.host) p lines records c.args.name.now c.read_file.new.got.items named h c.in-Fault.ensures.reads

pub returns-in-Long : goal.returns-in-Long
returns-in-Long g c = λ k start p lines records named h. report_long k start (g.H.Host.outside c.args.host.now) (g.H.Host.outside c.read_file.new.host) p lines records c.args.name.now c.read_file.new.got.items named h c.in-Long.ensures.reads

pub returns : goal.returns
returns g c = λ k start p lines records named h. report_memory k start (g.H.Host.outside c.args.host.now) (g.H.Host.outside c.read_file.new.host) p lines records c.args.name.now c.read_file.new.got.items named h c.in-Memory.ensures.reads
