use Rattle.std.proofs.Common.{◌≡◌, ◌≤◌, ◌<◌, ◌++◌, length, take, arith, ◌∙◌, ap, List, ℕ, length-append, length-take, rules}
use Rattle.vsw_host.proofs.Going.{onward}
use Rattle.vsw_host.proofs.Ends.{long, fault, memory, whole}
use Rattle.vsw_host.proofs.reading.read_file.Goals as goal

pub returns-in_default-read : goal.returns-in_default-read
returns-in_default-read g c = record { reads = fault _ _ _ _ _ _ _ _ _ c.loop-buffer.invariant.going (omega arith) c.in_default-read.ensures.reads }

pub returns-then-count-eq0 : goal.returns-then-count-eq0
returns-then-count-eq0 g c =
    let room : 0 < length c.read.new.buffer = omega arith in
    record { reads = whole _ _ _ _ _ _ _ _ _ c.loop-buffer.invariant.going (omega arith) room c.if-count-eq0.true c.in-Ok-read.ensures.reads }

pub returns-then-is_err : goal.returns-then-is_err
returns-then-is_err g c =
    let short : length c.loop-buffer.got.items ≤ c.args.limit = omega arith in
    let refused = memory _ _ _ _ _ _ _ _ _ c.loop-buffer.invariant.going short c.in-Ok-read.ensures.reads in
    let unchanged : c.extend_from_slice.new.self.items ≡ c.loop-buffer.got.items = (search rules) in
    record { reads = rw unchanged refused }

pub loop-buffer-preserved : goal.loop-buffer-preserved
loop-buffer-preserved g c =
    let more = onward _ _ _ _ _ _ _ _ c.loop-buffer.invariant.going c.in-Ok-read.ensures.reads in
    let added : c.extend_from_slice.new.self.items ≡ c.loop-buffer.got.items ++ take c.in-Ok-read.count c.read.new.buffer = (search rules) in
    let longer = ap (λ (t : List ℕ). length t) added ∙ length-append c.loop-buffer.got.items (take c.in-Ok-read.count c.read.new.buffer) in
    record { going = rw added more; short = omega (arith, longer, length-take c.in-Ok-read.count c.read.new.buffer); sized = omega arith }

pub returns : goal.returns
returns g c = record { reads = long _ _ _ _ _ _ c.loop-buffer.invariant.going (omega arith) c.loop-buffer.invariant.short }
