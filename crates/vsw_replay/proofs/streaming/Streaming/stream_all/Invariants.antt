use Rattle.std.proofs.Common.{◌≡◌, ℕ, Ok, List, []}
use Rattle.vsw_crew.specs.Crew.{crew_now}
use Rattle.vsw_crew.specs.Switch.{AreServed}
use Rattle.vsw_host.specs.Outside.{Outside}
use Rattle.vsw_promise.specs.Jobs.{Setting}
use Rattle.vsw_replay.specs.Private.Begun.{NearTurn, TurnsTo}
use Rattle.vsw_replay.specs.Private.Streaming.{KeepsLead}
use Rattle.vsw_replay.proofs.streaming.Streaming.stream_all.Given as goal

abbrev pub invariant-loop : goal.invariant-loop
invariant-loop g l = record {
  goes : (s : Setting) (start : Outside) (name : List ℕ) → s.commands ≡ l.initial.self.schedule.now → TurnsTo s start (g.H.Host.outside l.initial.host) name l.initial.self.run (crew_now l.initial.self.crew) (Ok l.initial.turn) → TurnsTo s start (g.H.Host.outside l.host) name l.self.run (crew_now l.self.crew) (Ok l.turn);
  near : NearTurn (g.H.Host.outside l.host) l.self.run l.turn;
  served : AreServed (crew_now l.self.crew) l.initial.self.schedule.now;
  idle : l.pool ≡ [];
  same : KeepsLead l.initial.self l.self;
}
