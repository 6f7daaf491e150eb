use Rattle.vsw_report.proofs.ThirtyTwo.{front_is}
use Rattle.vsw_report.proofs.block.front.Goals as goal

pub returns-clause-lanes : goal.returns-clause-lanes
returns-clause-lanes c = front_is c.args.high c.args.low c.fits-high.0 c.fits-low.0
