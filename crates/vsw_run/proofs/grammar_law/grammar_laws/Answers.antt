use Rattle.vsw_run.proofs.Grammars.{reads_grammar, refuses_others, one_reading}
use Rattle.vsw_run.proofs.grammar_law.grammar_laws.Goals as goal

pub returns : goal.returns
returns c = record { grammar = reads_grammar; others = refuses_others; one = one_reading }
