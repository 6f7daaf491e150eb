use Rattle.vsw_round_tests.proofs.Obeyed.{refused_commands, past_the_end, ends_early}
use Rattle.vsw_round_tests.proofs.samples.commands.Goals as goal

pub returns : goal.returns
returns c = record { refused = refused_commands; late = past_the_end; early = ends_early }
