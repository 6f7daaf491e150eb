use Rattle.vsw_header_tests.proofs.Known.{reads_plain, reads_encapsulated, reads_faults, reads_six, reads_six_faults, spells_six}
use Rattle.vsw_header_tests.proofs.frames.vectors.Goals as goal

pub returns-clause-plain : goal.returns-clause-plain
returns-clause-plain c = reads_plain

pub returns-clause-encapsulated : goal.returns-clause-encapsulated
returns-clause-encapsulated c = reads_encapsulated

pub returns-clause-faults : goal.returns-clause-faults
returns-clause-faults c = reads_faults

pub returns-clause-six : goal.returns-clause-six
returns-clause-six c = reads_six

pub returns-clause-six_faults : goal.returns-clause-six_faults
returns-clause-six_faults c = reads_six_faults

pub returns-clause-six_texts : goal.returns-clause-six_texts
returns-clause-six_texts c = spells_six
