use Rattle.std.proofs.Common.{◌≡◌, length, drop}
use Rattle.vsw_config.specs.declared.file.PolicyFile.{PolicyFile}
use Rattle.vsw_policy.specs.Sound.{Each}
use Rattle.vsw_promise.specs.Jobs.{cuts, macs_of}
use Rattle.vsw_promise.specs.Ports.{ports_of}
use Rattle.vsw_audit.specs.Check.{checked}
use Rattle.vsw_audit.specs.Private.Rounds.{AreSeats, histories}
use Rattle.vsw_audit.proofs.Cutting.{cuts_left}
use Rattle.vsw_audit.proofs.Rounding.{Left}
use Rattle.vsw_audit.proofs.round.replay_rounds.Given as goal

abbrev pub invariant-loop-place : goal.invariant-loop-place
invariant-loop-place l = record {
  same : Each (λ s. l.files.controllers.now ≡ s.ledger.opening.controllers) l.bench.seats.items;
  long : length l.bench.seats.items ≡ length l.fn.bench.seats.items;
  macs : l.bench.macs ≡ l.fn.bench.macs;
  workers : l.bench.workers ≡ l.fn.bench.workers;
  seats : (policy : PolicyFile) → AreSeats (ports_of policy) l.fn.bench.seats.items → AreSeats (ports_of policy) l.bench.seats.items;
  left : (policy : PolicyFile) → AreSeats (ports_of policy) l.fn.bench.seats.items → l.fn.bench.macs ≡ macs_of policy
      → Left (checked l.fn.bench.workers policy l.files.commands.now) l.files.records.now (histories l.fn.bench.seats.items) (cuts l.files.commands.now (length l.files.records.now)) l.rounds (histories l.bench.seats.items) (cuts_left l.files.commands.now l.total l.cut) (drop l.place l.rounds);
}
