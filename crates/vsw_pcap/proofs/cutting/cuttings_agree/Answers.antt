use Rattle.vsw_pcap.proofs.Every.{each_is_a_capture}
use Rattle.vsw_pcap.proofs.Unique.{captures_are_unique}
use Rattle.vsw_pcap.proofs.Runs.{runs_read, cuttings_agree}
use Rattle.vsw_pcap.proofs.cutting.cuttings_agree.Goals as goal

pub returns-clause-reads : goal.returns-clause-reads
returns-clause-reads c = runs_read

pub returns-clause-each : goal.returns-clause-each
returns-clause-each c = each_is_a_capture

pub returns-clause-unique : goal.returns-clause-unique
returns-clause-unique c = captures_are_unique

pub returns-clause-agree : goal.returns-clause-agree
returns-clause-agree c = cuttings_agree
