use Rattle.vsw_frame.proofs.Unedited.{LeavesOwn, known_own}
use Rattle.vsw_frame.specs.Frame.{parts}
use Rattle.vsw_frame.proofs.own.own_bytes.Goals as goal

pub returns-clause-own : goal.returns-clause-own
returns-clause-own c = let f = c.args.frame.now in (known_own f.stack.now f.control f.sizes f.first f.second f.third f.payload.now c.are_bytes.ensures f.read).own

pub returns-clause-size : goal.returns-clause-size
returns-clause-size c = let f = c.args.frame.now in (known_own f.stack.now f.control f.sizes f.first f.second f.third f.payload.now c.are_bytes.ensures f.read).size

pub returns-clause-short : goal.returns-clause-short
returns-clause-short c = let f = c.args.frame.now in (known_own f.stack.now f.control f.sizes f.first f.second f.third f.payload.now c.are_bytes.ensures f.read).short
