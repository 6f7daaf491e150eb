use Rattle.std.proofs.Common.{◌≡◌, ℕ, Ok, List}
use Rattle.vsw_crew.specs.Switch.{AreServed}
use Rattle.vsw_host.specs.Outside.{Outside}
use Rattle.vsw_promise.specs.Jobs.{Setting}
use Rattle.vsw_replay.specs.Private.Begun.{IsBegun, NearTurn, TurnsTo}
use Rattle.vsw_replay.proofs.stream.stream_rounds.Given as goal

abbrev pub invariant-loop : goal.invariant-loop
invariant-loop g l = record {
  turns : (s : Setting) (start : Outside) (name : List ℕ) → s.commands ≡ l.fn.schedule → IsBegun s start (g.H.Host.outside l.fn.host) name l.fn.run l.fn.runner l.fn.first → TurnsTo s start (g.H.Host.outside l.host) name l.run l.runner (Ok l.turn);
  near : NearTurn (g.H.Host.outside l.host) l.run l.turn;
  served : AreServed l.runner l.fn.schedule;
}
