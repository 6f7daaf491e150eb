use Rattle.vsw_frame.proofs.Deeper.{reads_inside, reads_plain, reads_plain_six}
use Rattle.vsw_frame.proofs.Written.{writes_answer, writes_encapsulated, writes_six_answer, writes_six_port, writes_six_source}
use Rattle.vsw_frame.proofs.examples.vectors.Goals as goal

pub returns-clause-encapsulated : goal.returns-clause-encapsulated
returns-clause-encapsulated c = writes_encapsulated

pub returns-clause-answer : goal.returns-clause-answer
returns-clause-answer c = writes_answer

pub returns-clause-plain : goal.returns-clause-plain
returns-clause-plain c = reads_plain

pub returns-clause-inside : goal.returns-clause-inside
returns-clause-inside c = reads_inside

pub returns-clause-six_port : goal.returns-clause-six_port
returns-clause-six_port c = writes_six_port

pub returns-clause-six_answer : goal.returns-clause-six_answer
returns-clause-six_answer c = writes_six_answer

pub returns-clause-six_source : goal.returns-clause-six_source
returns-clause-six_source c = writes_six_source

pub returns-clause-plain_six : goal.returns-clause-plain_six
returns-clause-plain_six c = reads_plain_six
