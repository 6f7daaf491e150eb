use Rattle.std.proofs.Common.{◌<◌, Ok, length, ◌∙◌, sym, subst}
use Rattle.vsw_replay.specs.Private.Begun.{AddsTo, PartNear, PartSo}
use Rattle.vsw_replay.specs.Private.Streaming.{FeedsSo}
use Rattle.vsw_replay.proofs.Handing.{some_fed}
use Rattle.vsw_replay.proofs.streaming.feed_round.Goals as goal

pub feed_next-requires-clause-feeding : goal.feed_next-requires-clause-feeding
feed_next-requires-clause-feeding g c = let h = c.requires.feeding in record { crew = h.crew; lines = h.lines; first = h.first; out = h.out; harbour = h.harbour; but = c.loop-stop.invariant.feeds h.crew h.lines h.first h.out h.harbour h.but }

pub loop-stop-preserved : goal.loop-stop-preserved
loop-stop-preserved g c =
    let now = g.H.Host.outside c.feed_next.new.host in
    let run = c.feed_next.new.run in
    let near = subst (PartNear now run c.args.begun) c.in-Ok-None.field-0-is c.in-Ok-None.ensures.near in
    record {
      goes = λ s start name switch q. subst (λ w. PartSo s start now name run switch c.args.begun (Ok w)) c.in-Ok-None.field-0-is (c.in-Ok-None.ensures.goes s start name switch (c.loop-stop.invariant.goes s start name switch q));
      feeds = λ d lines first out e b. subst (FeedsSo d lines first run.reading.batch c.feed_next.new.feeding out) c.in-Ok-None.field-0-is (c.in-Ok-None.ensures.feeds d lines first out e (c.loop-stop.invariant.feeds d lines first out e b));
      near = near.0;
      room = near.1;
      most = c.feed_next.ensures.most ∙ c.loop-stop.invariant.most;
    }

pub returns-in-Ok-Some-clause-feeds : goal.returns-in-Ok-Some-clause-feeds
returns-in-Ok-Some-clause-feeds g c = λ d lines first out e b. subst (FeedsSo d lines first c.feed_next.new.run.reading.batch c.feed_next.new.feeding out) c.in-Ok-Some.field-0-is (c.in-Ok-Some.ensures.feeds d lines first out e (c.loop-stop.invariant.feeds d lines first out e b))

pub returns-in-Ok-Some-clause-goes : goal.returns-in-Ok-Some-clause-goes
returns-in-Ok-Some-clause-goes g c = λ s start name switch q. subst (λ w. PartSo s start (g.H.Host.outside c.feed_next.new.host) name c.feed_next.new.run switch c.args.begun (Ok w)) c.in-Ok-Some.field-0-is (c.in-Ok-Some.ensures.goes s start name switch (c.loop-stop.invariant.goes s start name switch q))

pub returns-in-Ok-Some-clause-near : goal.returns-in-Ok-Some-clause-near
returns-in-Ok-Some-clause-near g c = subst (PartNear (g.H.Host.outside c.feed_next.new.host) c.feed_next.new.run c.args.begun) c.in-Ok-Some.field-0-is c.in-Ok-Some.ensures.near

pub returns-in-Ok-Some-clause-some : goal.returns-in-Ok-Some-clause-some
returns-in-Ok-Some-clause-some g c =
    let h = c.requires.feeding in
    let old = c.loop-stop.run.reading.batch in
    let adds = subst (AddsTo old c.feed_next.new.run.reading.batch) c.in-Ok-Some.field-0-is c.in-Ok-Some.ensures.adds in
    subst (λ w. 0 < length w) (sym adds) (some_fed h.crew h.lines h.first old c.loop-stop.feeding h.out (c.loop-stop.invariant.feeds h.crew h.lines h.first h.out h.harbour h.but))

pub returns-in-Err-clause-goes : goal.returns-in-Err-clause-goes
returns-in-Err-clause-goes g c = λ s start name switch q. c.in-Err.ensures.goes s start name switch (c.loop-stop.invariant.goes s start name switch q)
