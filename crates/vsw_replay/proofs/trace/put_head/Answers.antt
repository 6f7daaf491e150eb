use Rattle.std.proofs.Common.{arith, sym}
use Rattle.vsw_replay.proofs.Beginning.{head_put, head_unput, head_none}
use Rattle.vsw_replay.proofs.Parts.{head_part}
use Rattle.vsw_replay.proofs.trace.put_head.Goals as goal

pub returns-in-Ok-clause-goes : goal.returns-in-Ok-clause-goes
returns-in-Ok-clause-goes g c = λ s start name switch f. head_put s start (g.H.Host.outside c.args.host.now) (g.H.Host.outside c.put.new.self) name c.args.run.now switch c.args.first _ (sym c.in-None.ensures) c.in-Ok.ensures.puts f

pub returns-in-Err-clause-goes : goal.returns-in-Err-clause-goes
returns-in-Err-clause-goes g c = λ s start name switch f. head_unput s start (g.H.Host.outside c.args.host.now) (g.H.Host.outside c.put.new.self) name c.args.run.now switch c.args.first c.args.first.next _ f.next.above (sym c.in-None.ensures) c.in-Err.ensures.puts f

pub returns-in-Some-clause-goes : goal.returns-in-Some-clause-goes
returns-in-Some-clause-goes g c = λ s start name switch f. head_none s start (g.H.Host.outside c.args.host.now) name c.args.run.now switch c.args.first c.args.first.next c.in-Some.end (sym c.in-Some.ensures) f

pub returns-in-Ok-clause-begins : goal.returns-in-Ok-clause-begins
returns-in-Ok-clause-begins g c = λ s start name switch f. head_part s start (g.H.Host.outside c.args.host.now) (g.H.Host.outside c.put.new.self) name c.args.run.now switch c.args.first _ (sym c.in-None.ensures) c.in-Ok.ensures.puts f

pub returns-in-Err-clause-begins : goal.returns-in-Err-clause-begins
returns-in-Err-clause-begins g c = λ s start name switch f. head_unput s start (g.H.Host.outside c.args.host.now) (g.H.Host.outside c.put.new.self) name c.args.run.now switch c.args.first 1 _ (omega arith) (sym c.in-None.ensures) c.in-Err.ensures.puts f

pub returns-in-Some-clause-begins : goal.returns-in-Some-clause-begins
returns-in-Some-clause-begins g c = λ s start name switch f. head_none s start (g.H.Host.outside c.args.host.now) name c.args.run.now switch c.args.first 1 c.in-Some.end (sym c.in-Some.ensures) f
