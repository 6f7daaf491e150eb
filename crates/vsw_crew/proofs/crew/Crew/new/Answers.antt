use Rattle.std.proofs.Common.{subst, sym}
use Rattle.vsw_policy.specs.Sound.{Each}
use Rattle.vsw_harbour.specs.HarbourOpening.{rows_in}
use Rattle.vsw_crew.specs.Private.Rows.{AreGone}
use Rattle.vsw_crew.proofs.Between.{crew_is, rows_ready}
use Rattle.vsw_crew.proofs.crew.Crew.new.Goals as goal

pub invariant_of-result : goal.invariant_of-result
invariant_of-result g c = (rows_ready c.args.harbour.now c.requires.ready.0 (rows_in c.args.rows.items) c.requires.run c.requires.ready.1, subst (Each AreGone) (sym c.new.ensures.items) tt)

pub returns : goal.returns
returns g c = record { now = λ hs r. crew_is c.args.harbour.now hs (rows_in c.args.rows.items) r }
