use Rattle.std.proofs.Common.{◌≡◌, ◌≤◌, ℕ, List, []}
use Rattle.vsw_host.specs.Outside.{Outside}
use Rattle.vsw_promise.specs.Jobs.{Setting}
use Rattle.vsw_replay.specs.Private.Leading.{IsLeading, OwesAt}
use Rattle.vsw_replay.proofs.ahead.Ahead.do_rounds.Given as goal

abbrev pub invariant-loop : goal.invariant-loop
invariant-loop g l = record {
  goes : (s : Setting) (start : Outside) (name : List ℕ) → s.commands ≡ l.initial.self.schedule.now → OwesAt s start (g.H.Host.outside l.initial.host) name l.initial.self l.initial.self.picked → OwesAt s start (g.H.Host.outside l.host) name l.self l.self.picked;
  leading : IsLeading l.self l.self.picked (g.H.Host.outside l.host);
  idle : l.pool ≡ [];
  rises : l.initial.self.stretch.first ≤ l.self.stretch.first;
  schedule : l.self.schedule ≡ l.initial.self.schedule;
  end : l.self.end ≡ l.initial.self.end;
}
