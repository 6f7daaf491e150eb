use Rattle.vsw_pcap.proofs.Finding.{moves_into, finished_into, reads_into}
use Rattle.vsw_pcap.proofs.reader.Reader.read_into.Goals as goal

pub returns-clause-moves : goal.returns-clause-moves
returns-clause-moves c = moves_into _ _ c.take_into.result c.take_into.ensures.found c.take_into.ensures.after

pub returns-clause-finished : goal.returns-clause-finished
returns-clause-finished c = finished_into _ _ c.take_into.result c.take_into.ensures.after c.take_into.ensures.err

pub returns-clause-reads : goal.returns-clause-reads
returns-clause-reads c = reads_into _ _ _ _ c.take_into.result c.take_into.ensures.found c.take_into.ensures.after c.take_into.ensures.batch
