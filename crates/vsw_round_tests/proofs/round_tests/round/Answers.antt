use Rattle.vsw_round_tests.proofs.Workers.{three_begin}
use Rattle.vsw_round_tests.proofs.round_tests.round.Goals as goal

pub run_rows-requires-clause-begin : goal.run_rows-requires-clause-begin
run_rows-requires-clause-begin g c κs within = three_begin c.args.ports.now c.in_ok-rows.rows.items c.args.shares.items c.requires.ports c.in_ok-rows.ensures c.requires.shares
