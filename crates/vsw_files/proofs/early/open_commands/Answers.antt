use Rattle.vsw_files.proofs.Opening.{commands_read, commands_fault, commands_too_long, commands_memory}
use Rattle.vsw_files.proofs.early.open_commands.Goals as goal

pub returns-in-Whole : goal.returns-in-Whole
returns-in-Whole g c = λ q start named h. commands_read q start (g.H.Host.outside c.args.host.now) (g.H.Host.outside c.read_file.new.host) c.args.policy.now c.args.name.now c.read_file.new.got.items c.deref.result.now c.judged_commands.result named h c.in-Whole.ensures.reads c.deref.ensures.value c.judged_commands.ensures

pub returns-in-Fault : goal.returns-in-Fault
returns-in-Fault g c = λ q start named h. commands_fault q start (g.H.Host.outside c.args.host.now) (g.H.Host.outside c.read_file.new.host) c.args.policy.now c.args.name.now c.read_file.new.got.items named h c.in-Fault.ensures.reads

pub returns-in-Long : goal.returns-in-Long
returns-in-Long g c = λ q start named h. commands_too_long q start (g.H.Host.outside c.args.host.now) (g.H.Host.outside c.read_file.new.host) c.args.policy.now c.args.name.now c.read_file.new.got.items named h c.in-Long.ensures.reads

pub returns : goal.returns
returns g c = λ q start named h. commands_memory q start (g.H.Host.outside c.args.host.now) (g.H.Host.outside c.read_file.new.host) c.args.policy.now c.args.name.now c.read_file.new.got.items named h c.in-Memory.ensures.reads
