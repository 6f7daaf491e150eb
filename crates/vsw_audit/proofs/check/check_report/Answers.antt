use Rattle.std.proofs.Common.{◌≡◌, ◌≤◌, length, sym, subst}
use Rattle.vsw_policy.specs.Sound.{Each}
use Rattle.vsw_promise.specs.Jobs.{cuts}
use Rattle.vsw_audit.specs.Audit.{RunReplays}
use Rattle.vsw_audit.specs.Check.{IsCheck, checked}
use Rattle.vsw_audit.specs.Private.Rounds.{Finds, histories}
use Rattle.vsw_audit.specs.Private.Tasks.{CanBeAsked}
use Rattle.vsw_audit.proofs.Checking.{all_askable, checks, few_controllers, few_macs, few_seats, same_controllers}
use Rattle.vsw_audit.proofs.Judging.{if_ok}
use Rattle.vsw_audit.proofs.check.check_report.Goals as goal

pub replay_rounds-requires-clause-few : goal.replay_rounds-requires-clause-few
replay_rounds-requires-clause-few c = subst (λ ns. length ns ≤ 8) (sym c.as_slice.ensures) (few_controllers c.args.policy.now c.requires.policy)

pub replay_rounds-requires-clause-same : goal.replay_rounds-requires-clause-same
replay_rounds-requires-clause-same c = subst (λ ns. Each (λ s. ns ≡ s.ledger.opening.controllers) c.in_ok-bench.bench.seats.items) (sym c.as_slice.ensures) (same_controllers c.args.policy.now c.in_ok-bench.bench.seats.items c.in_ok-bench.ensures.seats)

pub replay_rounds-requires-clause-can_ask : goal.replay_rounds-requires-clause-can_ask
replay_rounds-requires-clause-can_ask c = subst (λ ns. Each (CanBeAsked ns) c.args.commands.now) (sym c.as_slice.ensures) (all_askable c.args.policy.now c.args.commands.now c.requires.commands.can_ask)

pub replay_rounds-requires-clause-ports : goal.replay_rounds-requires-clause-ports
replay_rounds-requires-clause-ports c = (few_seats c.args.policy.now c.in_ok-bench.bench.seats.items c.requires.policy c.in_ok-bench.ensures.seats, few_macs c.args.policy.now c.in_ok-bench.bench.macs c.requires.policy c.in_ok-bench.ensures.macs)

pub returns : goal.returns
returns c =
    let b = c.in_ok-bench.bench in
    let new = histories c.replay_rounds.new.bench.seats.items in
    let f = c.replay_rounds.ensures.finds c.args.policy.now c.in_ok-bench.ensures.seats c.in_ok-bench.ensures.macs in
    record {
      check = if_ok c.replay_rounds.result (λ answer. Finds (λ gs. RunReplays (checked b.workers c.args.policy.now c.args.commands.now) c.args.records.now (histories b.seats.items) (cuts c.args.commands.now (length c.args.records.now)) gs c.as_slice-2.result.now) new answer) (λ answer. IsCheck c.args.workers c.args.policy.now c.args.commands.now c.args.records.now c.args.report.now.rounds answer)
          (λ answer w. checks c.args.workers c.args.policy.now c.args.commands.now c.args.records.now c.args.report.now.rounds (histories b.seats.items) new answer c.requires.workers.0 c.requires.workers.1 c.requires.commands c.in_ok-bench.ensures.first
          (subst (λ rs. Finds (λ gs. RunReplays (checked c.args.workers c.args.policy.now c.args.commands.now) c.args.records.now (histories b.seats.items) (cuts c.args.commands.now (length c.args.records.now)) gs rs) new answer) c.as_slice-2.ensures
          (subst (λ n. Finds (λ gs. RunReplays (checked n c.args.policy.now c.args.commands.now) c.args.records.now (histories b.seats.items) (cuts c.args.commands.now (length c.args.records.now)) gs c.as_slice-2.result.now) new answer) c.in_ok-bench.ensures.workers w))) f;
    }
