use Rattle.vsw_table_tests.proofs.Told.{none_told}
use Rattle.vsw_table_tests.proofs.flows.no_tallies.Goals as goal

pub returns : goal.returns
returns c = none_told
