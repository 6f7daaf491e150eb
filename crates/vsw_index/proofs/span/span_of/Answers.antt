use Rattle.std.proofs.Common.{arith, rules, ◌<◌, ◌≤◌, ◌^◌}
use Rattle.vsw_index.proofs.Fits.{last_fits}
use Rattle.vsw_index.proofs.span.span_of.Goals as goal

pub overflow_cast-next-2 : goal.overflow_cast-next-2
overflow_cast-next-2 c =
    let small : c.from.result < 2 ^ 32 = omega arith in
    let few : c.from-shift.result ≤ 32 = omega arith in
    let fits = last_fits c.from.result c.from-shift.result small few in
    search rules
