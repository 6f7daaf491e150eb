use Rattle.vsw_header.proofs.Changed.{checks, ignores_same, keeps_unchanged, stays_right, stays_written}
use Rattle.vsw_header.proofs.Zeros.{was_right}
use Rattle.vsw_header.proofs.sum_law.sum_laws.Goals as goal

pub returns-clause-checks : goal.returns-clause-checks
returns-clause-checks c = checks

pub returns-clause-right : goal.returns-clause-right
returns-clause-right c = stays_right

pub returns-clause-written : goal.returns-clause-written
returns-clause-written c = stays_written

pub returns-clause-same : goal.returns-clause-same
returns-clause-same c = ignores_same

pub returns-clause-unchanged : goal.returns-clause-unchanged
returns-clause-unchanged c = keeps_unchanged

pub returns-clause-wrong : goal.returns-clause-wrong
returns-clause-wrong c = was_right
