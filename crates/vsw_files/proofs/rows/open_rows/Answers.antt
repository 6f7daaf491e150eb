use Rattle.vsw_files.proofs.RowsRead.{rows_fault, rows_long, rows_memory, rows_read}
use Rattle.vsw_files.proofs.rows.open_rows.Goals as goal

pub returns-in-Whole : goal.returns-in-Whole
returns-in-Whole g c = λ q named. rows_read q (g.H.Host.outside c.args.host.now) (g.H.Host.outside c.read_file.new.host) c.args.name.now c.read_file.new.got.items c.deref.result.now c.judged_rows.result named c.in-Whole.ensures.reads c.deref.ensures.value c.judged_rows.ensures

pub returns-in-Fault : goal.returns-in-Fault
returns-in-Fault g c = λ q named. rows_fault q (g.H.Host.outside c.args.host.now) (g.H.Host.outside c.read_file.new.host) c.args.name.now c.read_file.new.got.items named c.in-Fault.ensures.reads

pub returns-in-Long : goal.returns-in-Long
returns-in-Long g c = λ q named. rows_long q (g.H.Host.outside c.args.host.now) (g.H.Host.outside c.read_file.new.host) c.args.name.now c.read_file.new.got.items named c.in-Long.ensures.reads

pub returns : goal.returns
returns g c = λ q named. rows_memory q (g.H.Host.outside c.args.host.now) (g.H.Host.outside c.read_file.new.host) c.args.name.now c.read_file.new.got.items named c.in-Memory.ensures.reads
