use Rattle.std.proofs.Common.{Ok, Err, length, refl, sym, ◌∙◌, subst}
use Rattle.vsw_crew.specs.Crew.{crew_now, switch_now}
use Rattle.vsw_crew.specs.Shift.{Owes, TellsOwed}
use Rattle.vsw_crew.specs.Switch.{AreServed}
use Rattle.vsw_replay.specs.Private.Begun.{IsOneRead}
use Rattle.vsw_replay.specs.Private.Leading.{HasText}
use Rattle.vsw_replay.specs.Private.Streaming.{CarriesSo}
use Rattle.vsw_replay.specs.declared.ending.TraceEnd.TheVariants.{Memory}
use Rattle.vsw_replay.proofs.Handing.{first_fed, near_put, stream_put}
use Rattle.vsw_replay.proofs.Leading.{filled_stops}
use Rattle.vsw_replay.proofs.Parts.{part_stops}
use Rattle.vsw_replay.proofs.streaming.Streaming.carry.Goals as goal

pub returns-in_default-clause-goes : goal.returns-in_default-clause-goes
returns-in_default-clause-goes g c = λ s start name e q. part_stops s start (g.H.Host.outside c.args.host.now) name c.args.self.now.run (crew_now c.args.self.now.crew) c.args.begun.first c.args.begun.next q

pub feed_round-requires-clause-feeding : goal.feed_round-requires-clause-feeding
feed_round-requires-clause-feeding g c =
    let a = c.args.self.now in
    let t = c.args.begun in
    let one = subst (λ st. IsOneRead st (length a.run.reading.batch)) c.requires.full c.requires.near.one in
    let fed = first_fed a.crew a.schedule.now t.first a.run.reading.batch c.in-Ok.feeding c.open_stream.new.pool one c.in-Ok.ensures.feeding in
    record { crew = a.crew; lines = a.schedule.now; first = t.first; out = c.open_stream.new.pool; harbour = sym c.open_stream.ensures.harbour; but = fed }

pub close_stream-requires : goal.close_stream-requires
close_stream-requires g c =
    let a = c.args.self.now in
    let t = c.args.begun in
    let one = subst (λ st. IsOneRead st (length a.run.reading.batch)) c.requires.full c.requires.near.one in
    let fed = first_fed a.crew a.schedule.now t.first a.run.reading.batch c.in-Ok.feeding c.open_stream.new.pool one c.in-Ok.ensures.feeding in
    let same = sym c.open_stream.ensures.harbour in
    record { feeding = (a.crew, a.schedule.now, t.first, c.feed_round.new.run.reading.batch, same, c.in-Ok-feed_round.ensures.feeds a.crew a.schedule.now t.first c.open_stream.new.pool same fed) }

pub pay-requires : goal.pay-requires
pay-requires g c = record { owes = subst (λ h. HasText h c.in-Ok-close_stream.owed) (sym c.close_stream.ensures.harbour) c.in-Ok-close_stream.ensures.owes }

pub returns-in-Ok-pay-clause-goes : goal.returns-in-Ok-pay-clause-goes
returns-in-Ok-pay-clause-goes g c = λ s start name e q.
    let a = c.args.self.now in
    let t = c.args.begun in
    let mid = g.H.Host.outside c.feed_round.new.host in
    let now = g.H.Host.outside c.pay.new.host in
    let read = c.feed_round.new.run in
    let stretch = c.in-Ok-feed_round.stretch in
    let owed = c.in-Ok-close_stream.owed in
    let one = subst (λ st. IsOneRead st (length a.run.reading.batch)) c.requires.full c.requires.near.one in
    let fed = first_fed a.crew a.schedule.now t.first a.run.reading.batch c.in-Ok.feeding c.open_stream.new.pool one c.in-Ok.ensures.feeding in
    let same = sym c.open_stream.ensures.harbour in
    let feeding = c.in-Ok-feed_round.ensures.feeds a.crew a.schedule.now t.first c.open_stream.new.pool same fed in
    let tells = subst (λ n. TellsOwed a.crew a.schedule.now n read.reading.batch owed c.close_stream.new.self) (sym c.in-Ok-feed_round.ensures.first) (c.in-Ok-close_stream.ensures.tells a.crew a.schedule.now t.first read.reading.batch same feeding) in
    let kept = c.close_stream.ensures.harbour ∙ c.open_stream.ensures.harbour in
    subst (λ x. CarriesSo s start now name c.pay.new.run (crew_now x) (Ok stretch)) (sym c.pay.ensures.crew)
    (stream_put s start mid now name read c.pay.new.run a.schedule.now a.crew c.close_stream.new.self owed stretch (Ok _) e c.pay.ensures.reading c.pay.ensures.inputs c.in-Ok-feed_round.ensures.some tells (λ text short owes. c.in-Ok-pay.ensures.pays text short (subst (λ h. Owes h owed text short) (sym kept) owes))
    (c.in-Ok-feed_round.ensures.goes s start name (crew_now a.crew) q))

pub returns-in-Ok-pay-clause-near : goal.returns-in-Ok-pay-clause-near
returns-in-Ok-pay-clause-near g c = near_put (g.H.Host.outside c.feed_round.new.host) (g.H.Host.outside c.pay.new.host) c.feed_round.new.run c.pay.new.run c.in-Ok-feed_round.stretch c.pay.ensures.reading c.pay.ensures.inputs c.in-Ok-feed_round.ensures.near

pub returns-in-Ok-pay-clause-served : goal.returns-in-Ok-pay-clause-served
returns-in-Ok-pay-clause-served g c =
    let a = c.args.self.now in
    let served = c.close_stream.ensures.served a.crew.histories a.schedule.now (subst (λ h. AreServed (switch_now h a.crew.histories) a.schedule.now) (sym c.open_stream.ensures.harbour) c.requires.served) in
    subst (λ x. AreServed (crew_now x) a.schedule.now) (sym c.pay.ensures.crew) served

pub returns-in-Err-pay-clause-goes : goal.returns-in-Err-pay-clause-goes
returns-in-Err-pay-clause-goes g c = λ s start name e q.
    let a = c.args.self.now in
    let t = c.args.begun in
    let mid = g.H.Host.outside c.feed_round.new.host in
    let now = g.H.Host.outside c.pay.new.host in
    let read = c.feed_round.new.run in
    let stretch = c.in-Ok-feed_round.stretch in
    let owed = c.in-Ok-close_stream.owed in
    let one = subst (λ st. IsOneRead st (length a.run.reading.batch)) c.requires.full c.requires.near.one in
    let fed = first_fed a.crew a.schedule.now t.first a.run.reading.batch c.in-Ok.feeding c.open_stream.new.pool one c.in-Ok.ensures.feeding in
    let same = sym c.open_stream.ensures.harbour in
    let feeding = c.in-Ok-feed_round.ensures.feeds a.crew a.schedule.now t.first c.open_stream.new.pool same fed in
    let tells = subst (λ n. TellsOwed a.crew a.schedule.now n read.reading.batch owed c.close_stream.new.self) (sym c.in-Ok-feed_round.ensures.first) (c.in-Ok-close_stream.ensures.tells a.crew a.schedule.now t.first read.reading.batch same feeding) in
    let kept = c.close_stream.ensures.harbour ∙ c.open_stream.ensures.harbour in
    stream_put s start mid now name read c.pay.new.run a.schedule.now a.crew c.close_stream.new.self owed stretch (Err c.in-Err-pay.end) e c.pay.ensures.reading c.pay.ensures.inputs c.in-Ok-feed_round.ensures.some tells (λ text short owes. c.in-Err-pay.ensures.pays text short (subst (λ h. Owes h owed text short) (sym kept) owes))
    (c.in-Ok-feed_round.ensures.goes s start name (crew_now a.crew) q)

pub returns-in-Err-close_stream-clause-goes : goal.returns-in-Err-close_stream-clause-goes
returns-in-Err-close_stream-clause-goes g c = λ s start name e q.
    let a = c.args.self.now in
    filled_stops s start (g.H.Host.outside c.feed_round.new.host) name c.feed_round.new.run (crew_now a.crew) c.in-Ok-feed_round.stretch Memory refl (c.in-Ok-feed_round.ensures.goes s start name (crew_now a.crew) q)

pub returns-in-Err-clause-goes : goal.returns-in-Err-clause-goes
returns-in-Err-clause-goes g c = λ s start name e q. c.in-Err.ensures.goes s start name (crew_now c.args.self.now.crew) q
