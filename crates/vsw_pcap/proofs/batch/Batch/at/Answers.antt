use Rattle.std.proofs.Common.{◌<◌, length, sym, ap, ◌∙◌, arith}
use Rattle.vsw_pcap.proofs.Marked.{length-all_marked, mark_at}
use Rattle.vsw_pcap.proofs.batch.Batch.at.Goals as goal

pub index-requires : goal.index-requires
index-requires c = omega (arith, ap length (sym c.self.view_is) ∙ length-all_marked c.self.inside.bytes.items c.self.inside.marks.items)

pub lend-requires : goal.lend-requires
lend-requires c =
    let inside : c.args.place < length c.self.inside.marks.items = omega (arith, ap length (sym c.self.view_is) ∙ length-all_marked c.self.inside.bytes.items c.self.inside.marks.items) in
    let here = mark_at _ c.self.inside.bytes.items _ _ _ c.self.invariant inside c.index.ensures in
    record { within = (here.0.0, omega (arith, here.0.1, ap length c.deref.ensures.value)) }

pub returns : goal.returns
returns c =
    let inside : c.args.place < length c.self.inside.marks.items = omega (arith, ap length (sym c.self.view_is) ∙ length-all_marked c.self.inside.bytes.items c.self.inside.marks.items) in
    let here = mark_at _ c.self.inside.bytes.items _ _ _ c.self.invariant inside c.index.ensures in
    cc
