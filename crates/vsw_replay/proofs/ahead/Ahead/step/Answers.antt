use Rattle.std.proofs.Common.{Some, sym, ◌∙◌, ap, subst}
use Rattle.std.specs.Arc.{arc_value}
use Rattle.vsw_crew.specs.Crew.{crew_now, switch_now}
use Rattle.vsw_crew.specs.Switch.{AreServed}
use Rattle.vsw_replay.proofs.Leading.{ahead_done, near_open, out_at}
use Rattle.vsw_replay.proofs.Owing.{ahead_stops, owing_stops}
use Rattle.vsw_replay.specs.Private.Ahead.{IsOwing, with_batch}
use Rattle.vsw_replay.specs.Private.Leading.{HasText, IsPickedFor, left_by, with_round}
use Rattle.vsw_replay.proofs.ahead.Ahead.step.Goals as goal

pub returns-in_default-clause-goes : goal.returns-in_default-clause-goes
returns-in_default-clause-goes g c = λ s start name e o.
    let a = c.args.self.now in
    owing_stops s start (g.H.Host.outside c.args.host.now) name (with_round a.run (Some c.args.round)) (crew_now a.crew) (left_by a.crew.harbour a.owed) a.stretch o

pub go_on-requires-clause-near : goal.go_on-requires-clause-near
go_on-requires-clause-near g c =
    let a = c.args.self.now in
    near_open (g.H.Host.outside c.args.host.now) a.run (arc_value c.args.round.packets) a.stretch c.requires.leading.picked.1.full c.requires.leading.near

pub returns-in-Ok-take-clause-goes : goal.returns-in-Ok-take-clause-goes
returns-in-Ok-take-clause-goes g c = λ s start name e o.
    let a = c.args.self.now in
    let go = c.go_on.new.self in
    let old = g.H.Host.outside c.args.host.now in
    let packets = arc_value c.args.round.packets in
    let before = subst (λ h. IsOwing s start old name (with_batch a.run packets) (crew_now a.crew) (left_by h a.owed) a.stretch) (sym c.give.ensures.harbour) o in
    let ahead = c.in-Ok-go_on.ensures.ahead s start name packets (crew_now a.crew) e c.requires.leading.picked.1.some before in
    let kept = ap (λ x. x.harbour) c.go_on.ensures.same.crew ∙ c.give.ensures.harbour in
    let out = out_at a.crew a.schedule.now a.stretch.first packets c.args.round.picked c.in-Ok.underway c.give.new.pool c.requires.leading.picked.0 c.in-Ok.ensures.out in
    ahead_done s start (g.H.Host.outside c.go_on.new.host) name (with_round go.run go.picked) a.schedule.now a.crew c.take.new.self a.stretch.first packets c.in-Ok-take.owed go.stretch e (c.take.ensures.harbour ∙ kept)
    (c.in-Ok-take.ensures.tells a.crew a.schedule.now a.stretch.first packets (sym kept) out) ahead

pub returns-in-Ok-take-clause-leading : goal.returns-in-Ok-take-clause-leading
returns-in-Ok-take-clause-leading g c =
    let a = c.args.self.now in
    let go = c.go_on.new.self in
    let now = g.H.Host.outside c.go_on.new.host in
    let kept = ap (λ x. x.harbour) c.go_on.ensures.same.crew ∙ c.give.ensures.harbour in
    let served = c.take.ensures.served a.crew.histories a.schedule.now (subst (λ h. AreServed (switch_now h a.crew.histories) a.schedule.now) (sym kept) c.requires.leading.served) in
    record {
      served = subst (λ q. AreServed (crew_now c.take.new.self) q.now) (sym c.go_on.ensures.same.schedule) served;
      near = c.in-Ok-go_on.ensures.near;
      owes = subst (λ h. HasText h c.in-Ok-take.owed) (sym c.take.ensures.harbour) c.in-Ok-take.ensures.owes;
      picked = subst (λ h. IsPickedFor h go.schedule.now (with_round go.run go.picked) go.stretch go.picked) (sym c.take.ensures.harbour) c.in-Ok-go_on.ensures.picked;
    }

pub returns-in-Err-take-clause-goes : goal.returns-in-Err-take-clause-goes
returns-in-Err-take-clause-goes g c = λ s start name e o.
    let a = c.args.self.now in
    let go = c.go_on.new.self in
    let old = g.H.Host.outside c.args.host.now in
    let packets = arc_value c.args.round.packets in
    let before = subst (λ h. IsOwing s start old name (with_batch a.run packets) (crew_now a.crew) (left_by h a.owed) a.stretch) (sym c.give.ensures.harbour) o in
    ahead_stops s start (g.H.Host.outside c.go_on.new.host) name (with_round go.run go.picked) (crew_now a.crew) a.stretch.first packets go.stretch (c.in-Ok-go_on.ensures.ahead s start name packets (crew_now a.crew) e c.requires.leading.picked.1.some before)

pub returns-in-Err-clause-goes : goal.returns-in-Err-clause-goes
returns-in-Err-clause-goes g c = λ s start name e o.
    let a = c.args.self.now in
    let old = g.H.Host.outside c.args.host.now in
    let packets = arc_value c.args.round.packets in
    let before = subst (λ h. IsOwing s start old name (with_batch a.run packets) (crew_now a.crew) (left_by h a.owed) a.stretch) (sym c.give.ensures.harbour) o in
    c.in-Err.ensures.ahead s start name packets (crew_now a.crew) e c.requires.leading.picked.1.some before
