use Rattle.std.proofs.Common.{subst, sym}
use Rattle.vsw_actors.specs.Picks.{ArePicks, IsPick}
use Rattle.vsw_policy.specs.Sound.{Each}
use Rattle.vsw_round_tests.proofs.pick_tests.first_jobs.Goals as goal

pub jobs_of-requires-clause-picks : goal.jobs_of-requires-clause-picks
jobs_of-requires-clause-picks c =
    let packets = c.args.packets.now in
    (2, subst (Each (IsPick 2 packets)) (sym c.deref.ensures.value) (subst (ArePicks 2 packets) c.in_ok-mine.ensures.cases.0 c.requires.fit).0)
