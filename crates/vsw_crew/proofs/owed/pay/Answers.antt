use Rattle.std.proofs.Common.{subst, sym}
use Rattle.vsw_policy.specs.Sound.{Each}
use Rattle.vsw_crew.specs.Private.Rows.{AreGone}
use Rattle.vsw_crew.proofs.Gone.{all_gone}
use Rattle.vsw_crew.proofs.owed.pay.Goals as goal

pub returns-clause-gone : goal.returns-clause-gone
returns-clause-gone g c = subst (Each AreGone) (sym c.in_ok-short.ensures.taken) (all_gone c.args.owed.lines.items)
