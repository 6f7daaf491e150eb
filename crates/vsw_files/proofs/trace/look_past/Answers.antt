use Rattle.vsw_files.proofs.Wholes.{filled, looked, peeked_later}
use Rattle.vsw_files.proofs.trace.look_past.Goals as goal

pub returns-in-Full-clause-ends : goal.returns-in-Full-clause-ends
returns-in-Full-clause-ends g c = λ start name w. looked start (g.H.Host.outside c.args.host.now) (g.H.Host.outside c.peek.new.host) name c.args.reading.now c.peek.new.reading c.args.stop c.peek.result c.in-Full.is w c.peek.ensures.reader c.peek.ensures.batch (λ bytes records is. c.peek.ensures.peeks start name bytes records is)

pub returns-in-Full-clause-later : goal.returns-in-Full-clause-later
returns-in-Full-clause-later g c = λ start name w. peeked_later start (g.H.Host.outside c.peek.new.host) name c.peek.new.reading w.bytes c.peek.result (c.peek.ensures.peeks start name w.bytes c.args.reading.now.batch w.read)

pub returns-in_default-clause-ends : goal.returns-in_default-clause-ends
returns-in_default-clause-ends g c = λ start name w. filled start (g.H.Host.outside c.args.host.now) name c.args.reading.now c.args.stop c.in_default.not-Full w

pub returns-in_default-clause-later : goal.returns-in_default-clause-later
returns-in_default-clause-later g c = λ start name w. w.read.reading.later
