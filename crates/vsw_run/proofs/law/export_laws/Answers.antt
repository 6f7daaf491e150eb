use Rattle.vsw_offload.proofs.Answered.{rows_answer_as_layers}
use Rattle.vsw_offload.proofs.Said.{words_say_one}
use Rattle.vsw_promise.specs.Rounds.{opening_of}
use Rattle.vsw_run.proofs.Exports.{exports_as_forwards}
use Rattle.vsw_run.proofs.law.export_laws.Goals as goal

pub returns : goal.returns
returns c = record { layers = λ p h r x frame parts fate bytes e. rows_answer_as_layers words_say_one (opening_of p) h r.rows x frame parts fate bytes e.good; ends = exports_as_forwards }
