use Rattle.vsw_policy.proofs.Alone.{obeys-alone, same-is-equal}
use Rattle.vsw_policy.proofs.Ascending.{tests-ascend, least-is-told}
use Rattle.vsw_policy.proofs.law.laws.Goals as goal

pub returns : goal.returns
returns c = record { alone = obeys-alone; same = same-is-equal; ascending = tests-ascend; least = least-is-told }
