use Rattle.vsw_pcap.proofs.Standing.{stands_feed, refused_feed}
use Rattle.vsw_pcap.proofs.reader.Reader.feed.Goals as goal

pub returns-clause-stands : goal.returns-clause-stands
returns-clause-stands c = stands_feed _ _ _ c.copy_in.result c.copy_in.ensures.ok

pub returns-clause-refused : goal.returns-clause-refused
returns-clause-refused c = refused_feed _ _ _ c.copy_in.result c.requires.open c.copy_in.ensures.ok
