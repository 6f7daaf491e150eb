use Rattle.std.proofs.Common.{◌≡◌, ◌+◌, ◌-◌, ◌++◌, length, take, drop, ◌∙◌, ap, arith, rules}
use borrow.Rule.Slice.PartMut.{put_mid}
use Rattle.vsw_pcap.specs.Progress.{Progress}
use Rattle.vsw_reading.proofs.Pieces.{fed_so}
use Rattle.vsw_reading.proofs.reading.read_behind.Goals as goal

pub returns-in-Ok-clause-reads : goal.returns-in-Ok-clause-reads
returns-in-Ok-clause-reads g c =
    let len = c.left-len.result in
    let room = c.in_ok-room.room.items in
    let at = c.deref_mut.result.now in
    let piece = c.next.new.room in
    let k = len + 65536 - len in
    let left = take (len + c.in-Ok.count) (take c.in_ok-room.room.len (put_mid len k at piece ++ drop (length (put_mid len k at piece)) room)) in
    let size : length piece ≡ k = omega arith in
    let whole : length room ≡ c.in_ok-room.room.len = search rules in
    let back = ap (λ (q : Progress). record q { left = left }) c.in_ok-room.ensures.ok in
    (piece, c.in-Ok.ensures.next, c.take_back.ensures ∙ back ∙ fed_so c.args.reader.now len k c.in-Ok.count c.in_ok-room.room.len room at piece c.left-len.ensures c.in_ok-room.ensures.bytes c.deref_mut.ensures.value whole (omega (arith, c.in_ok-room.ensures.long, whole, c.left-len.ensures)) size c.in-Ok.ensures.next.1)
