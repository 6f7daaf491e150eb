use Rattle.std.proofs.Common.{sym, ap, ◌∙◌, arith, length}
use Rattle.vsw_pcap.proofs.Marked.{length-all_marked}
use Rattle.vsw_pcap.proofs.batch.Batch.len.Goals as goal

pub returns : goal.returns
returns c = omega (arith, ap length (sym c.self.view_is) ∙ length-all_marked c.self.inside.bytes.items c.self.inside.marks.items)
