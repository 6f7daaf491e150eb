use Rattle.vsw_pcap.proofs.Standing.{moves_next, told_next}
use Rattle.vsw_pcap.proofs.reader.Reader.next.Goals as goal

pub returns-clause-moves : goal.returns-clause-moves
returns-clause-moves c = moves_next _ _ c.take_next.result c.take_next.ensures.answer c.take_next.ensures.after

pub returns-clause-tells : goal.returns-clause-tells
returns-clause-tells c = told_next _ _ c.take_next.result c.take_next.ensures.answer c.take_next.ensures.after
