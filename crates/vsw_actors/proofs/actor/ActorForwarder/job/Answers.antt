use Rattle.std.proofs.Common.{rules, arith, ◌+◌, length, drop}
use Rattle.vsw_actors.proofs.Doing.{Next, next_is, next_mine, next_one, next_room, one_done, take_next, drop_next}
use Rattle.vsw_actors.proofs.actor.ActorForwarder.job.Goals as goal

pub step_in-requires-clause-own : goal.step_in-requires-clause-own
step_in-requires-clause-own g c =
    let a = c.self.inside in
    let i = c.self.invariant in
    let job = c.index-placed.result.now in
    let at : Next a.next a.jobs.items job = next_is a.next a.jobs.items job (omega (arith, c.if-self-len.false, c.len.ensures)) c.index-placed.ensures in (
      a.number,
      (next_mine g.P.Port.port_in g.P.Port.job_in g.P.Port.takes a.number a.ports.now a.next a.jobs.items job at i.5).0.0,
      next_one g.P.Port.pass_in g.P.Port.is_of g.P.Port.permits a.number (length (drop (a.next + 1) a.jobs.items)) a.ports.now a.lanes.items (next_room g.P.Port.pass_in g.P.Port.is_of g.P.Port.permits a.number a.ports.now a.lanes.items a.next a.jobs.items job at i.4),
    )

pub step_in-requires-clause-taken : goal.step_in-requires-clause-taken
step_in-requires-clause-taken g c =
    let a = c.self.inside in
    let job = c.index-placed.result.now in
    let at : Next a.next a.jobs.items job = next_is a.next a.jobs.items job (omega (arith, c.if-self-len.false, c.len.ensures)) c.index-placed.ensures in
    (next_mine g.P.Port.port_in g.P.Port.job_in g.P.Port.takes a.number a.ports.now a.next a.jobs.items job at c.self.invariant.5).0.1

pub step_in-requires-clause-within : goal.step_in-requires-clause-within
step_in-requires-clause-within g c =
    let a = c.self.inside in
    let job = c.index-placed.result.now in
    let at : Next a.next a.jobs.items job = next_is a.next a.jobs.items job (omega (arith, c.if-self-len.false, c.len.ensures)) c.index-placed.ensures in
    (next_mine g.P.Port.port_in g.P.Port.job_in g.P.Port.takes a.number a.ports.now a.next a.jobs.items job at c.self.invariant.5).0.2

pub invariant_of-self : goal.invariant_of-self
invariant_of-self g c =
    let a = c.self.inside in
    let i = c.self.invariant in
    let job = c.index-placed.result.now in
    let at : Next a.next a.jobs.items job = next_is a.next a.jobs.items job (omega (arith, c.if-self-len.false, c.len.ensures)) c.index-placed.ensures in
    let mine = next_mine g.P.Port.port_in g.P.Port.job_in g.P.Port.takes a.number a.ports.now a.next a.jobs.items job at i.5 in (
      search rules,
      i.1,
      search rules,
      i.3,
      c.step_in.ensures.fit a.number (length (drop (a.next + 1) a.jobs.items)) (next_room g.P.Port.pass_in g.P.Port.is_of g.P.Port.permits a.number a.ports.now a.lanes.items a.next a.jobs.items job at i.4),
      mine.1,
      one_done g.P.Port.port_in g.P.Port.locals g.P.Port.pass_in g.P.Port.job_in g.P.Port.tells a.number a.ports.now a.lanes.items c.step_in.new.lanes.items a.next a.jobs.items job at i.7 mine.0.0 mine.0.2 c.step_in.ensures.fronts c.step_in.ensures.does i.6,
      i.7,
      c.step_in.ensures.roomy,
    )

pub returns : goal.returns
returns g c =
    let a = c.self.inside in
    let job = c.index-placed.result.now in
    let at : Next a.next a.jobs.items job = next_is a.next a.jobs.items job (omega (arith, c.if-self-len.false, c.len.ensures)) c.index-placed.ensures in
    (search (rules, c.step_in.ensures.fronts), (job, search (rules, drop_next a.next a.jobs.items job at), search (rules, take_next a.next a.jobs.items job at)))
