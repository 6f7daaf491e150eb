use Rattle.std.proofs.Common.{arith}
use Rattle.vsw_reading.proofs.Pieces.{peek_left, peek_fault}
use Rattle.vsw_reading.proofs.reading.peek.Goals as goal

pub returns-then-left-gt0-clause-peeks : goal.returns-then-left-gt0-clause-peeks
returns-then-left-gt0-clause-peeks g c = λ start name bytes records h. peek_left start (g.H.Host.outside c.args.host.now) name c.args.reading.now bytes records (omega (arith, c.if-left-gt0.true, c.left.ensures)) h

pub returns-in-Err-clause-peeks : goal.returns-in-Err-clause-peeks
returns-in-Err-clause-peeks g c = λ start name bytes records h. peek_fault start (g.H.Host.outside c.args.host.now) (g.H.Host.outside c.next.new.host) name c.args.reading.now c.next.new.room _ bytes records (omega (arith, c.if-left-gt0.false, c.left.ensures)) c.in-Err.ensures.next h
