use Rattle.std.proofs.Common.{subst}
use Rattle.vsw_replay.proofs.Unput.{early_stays}
use Rattle.vsw_replay.specs.Private.Exporting.{unput}
use Rattle.vsw_replay.specs.Private.Going.{AfterPut, CanRead}
use Rattle.vsw_replay.proofs.quiet.run_stretch.Goals as goal

pub read_next-requires-clause-near : goal.read_next-requires-clause-near
read_next-requires-clause-near g c =
    let now = g.H.Host.outside c.args.host.now in
    let t = c.args.stretch in
    (subst (CanRead now c.run_read.new.run t.next) c.in-Full.is (c.run_read.ensures.near now c.requires.near).goes).0

pub returns-in-Full-clause-goes : goal.returns-in-Full-clause-goes
returns-in-Full-clause-goes g c = λ s start name e f.
    let old = g.H.Host.outside c.args.host.now in
    let new = g.H.Host.outside c.read_next.new.host in
    let t = c.args.stretch in
    early_stays s start new name c.read_next.new.run c.run_read.new.switch c.read_next.result c.read_next.ensures.early
    (c.read_next.ensures.goes s (unput start) name c.run_read.new.switch e (subst (AfterPut s (unput start) old name c.run_read.new.run c.run_read.new.switch t) c.in-Full.is (c.in-Ok.ensures.runs s start old name e f)))

pub returns-in-End-clause-goes : goal.returns-in-End-clause-goes
returns-in-End-clause-goes g c = λ s start name e f.
    let old = g.H.Host.outside c.args.host.now in
    let t = c.args.stretch in
    c.run_past.ensures.runs s start old name e (subst (AfterPut s (unput start) old name c.run_read.new.run c.run_read.new.switch t) c.in-End.is (c.in-Ok.ensures.runs s start old name e f))

pub returns-in-Fault-clause-goes : goal.returns-in-Fault-clause-goes
returns-in-Fault-clause-goes g c = λ s start name e f.
    let old = g.H.Host.outside c.args.host.now in
    subst (AfterPut s (unput start) old name c.run_read.new.run c.run_read.new.switch c.args.stretch) c.in-Fault.is (c.in-Ok.ensures.runs s start old name e f)

pub returns-in-Bad-clause-goes : goal.returns-in-Bad-clause-goes
returns-in-Bad-clause-goes g c = λ s start name e f.
    let old = g.H.Host.outside c.args.host.now in
    subst (AfterPut s (unput start) old name c.run_read.new.run c.run_read.new.switch c.args.stretch) c.in-Bad.is (c.in-Ok.ensures.runs s start old name e f)

pub returns-in-Err-clause-goes : goal.returns-in-Err-clause-goes
returns-in-Err-clause-goes g c = λ s start name e f. c.in-Err.ensures.runs s start (g.H.Host.outside c.args.host.now) name e f
