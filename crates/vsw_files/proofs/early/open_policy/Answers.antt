use Rattle.vsw_files.proofs.Opening.{policy_read, policy_fault, policy_too_long, policy_memory}
use Rattle.vsw_files.proofs.early.open_policy.Goals as goal

pub returns-in-Whole : goal.returns-in-Whole
returns-in-Whole g c = λ q named. policy_read q (g.H.Host.outside c.args.host.now) (g.H.Host.outside c.read_file.new.host) c.args.name.now c.read_file.new.got.items c.deref.result.now c.judged_policy.result named c.in-Whole.ensures.reads c.deref.ensures.value c.judged_policy.ensures

pub returns-in-Fault : goal.returns-in-Fault
returns-in-Fault g c = λ q named. policy_fault q (g.H.Host.outside c.args.host.now) (g.H.Host.outside c.read_file.new.host) c.args.name.now c.read_file.new.got.items named c.in-Fault.ensures.reads

pub returns-in-Long : goal.returns-in-Long
returns-in-Long g c = λ q named. policy_too_long q (g.H.Host.outside c.args.host.now) (g.H.Host.outside c.read_file.new.host) c.args.name.now c.read_file.new.got.items named c.in-Long.ensures.reads

pub returns : goal.returns
returns g c = λ q named. policy_memory q (g.H.Host.outside c.args.host.now) (g.H.Host.outside c.read_file.new.host) c.args.name.now c.read_file.new.got.items named c.in-Memory.ensures.reads
