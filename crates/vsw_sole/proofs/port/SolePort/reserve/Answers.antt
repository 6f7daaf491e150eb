use Rattle.std.proofs.Common.{arith}
use Rattle.vsw_sole.proofs.Callers.{less_room}
use Rattle.vsw_sole.proofs.port.SolePort.reserve.Goals as goal

pub refill_all-requires : goal.refill_all-requires
refill_all-requires c =
    let s = c.self.inside in
    record { core = c.self.invariant.core; callers = less_room s.lookup s.core.writer.view.history s.room 0 0 s.callers.items (omega arith) c.self.invariant.callers_are }
