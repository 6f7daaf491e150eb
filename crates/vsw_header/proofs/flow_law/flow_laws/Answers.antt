use Rattle.std.proofs.Common.{refl, ◌∙◌}
use Rattle.vsw_header.proofs.Mirrors.{turns, sums_alike, swaps_alike}
use Rattle.vsw_header.proofs.Ports.{meets_none, out_wins}
use Rattle.vsw_header.proofs.flow_law.flow_laws.Goals as goal

pub returns-clause-shape : goal.returns-clause-shape
returns-clause-shape c hs t = (turns hs t).0 ∙ t

pub returns-clause-key : goal.returns-clause-key
returns-clause-key c hs t = (turns hs t).1

pub returns-clause-sum : goal.returns-clause-sum
returns-clause-sum c = sums_alike

pub returns-clause-swap : goal.returns-clause-swap
returns-clause-swap c = swaps_alike

pub returns-clause-back : goal.returns-clause-back
returns-clause-back c = (λ hs t. (turns hs t).2, λ key. refl)

pub returns-clause-none : goal.returns-clause-none
returns-clause-none c = meets_none

pub returns-clause-out : goal.returns-clause-out
returns-clause-out c = out_wins
