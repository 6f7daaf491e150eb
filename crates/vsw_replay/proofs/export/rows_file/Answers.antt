use Rattle.std.proofs.Common.{◌<◌, ◌≤◌, length, subst, sym, arith}
use Rattle.vsw_replay.proofs.Exporting.{all_written}
use Rattle.vsw_replay.proofs.export.rows_file.Goals as goal

pub write_at-requires : goal.write_at-requires
write_at-requires c =
    let lt : c.loop-place.place < length c.args.switch.now.ports = omega (arith, c.loop-place-test.true, c.ports-ports.ensures, c.loop-place.auto.place-end) in
    record { within = subst (λ w. c.loop-place.place < length w.ports) (sym c.loop-place.invariant.same) lt }

pub returns : goal.returns
returns c =
    let all : c.ports-ports.result ≤ c.loop-place.place = omega (arith, c.loop-place-test.false, c.loop-place.auto.place-end) in
    λ s hs at. all_written s hs c.args.switch.now c.ports-ports.result c.loop-place.place c.loop-place.file.items c.ports-ports.ensures all at (c.loop-place.invariant.written s hs at)
