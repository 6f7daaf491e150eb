use Rattle.vsw_offload.proofs.Alone.{one_answer}
use Rattle.vsw_offload.proofs.Answered.{rows_answer_as_layers}
use Rattle.vsw_offload.proofs.Said.{words_say_one}
use Rattle.vsw_offload.proofs.law.laws.Goals as goal

pub returns-clause-one : goal.returns-clause-one
returns-clause-one c = words_say_one

pub returns-clause-layers : goal.returns-clause-layers
returns-clause-layers c = rows_answer_as_layers words_say_one

pub returns-clause-answer : goal.returns-clause-answer
returns-clause-answer c = one_answer
