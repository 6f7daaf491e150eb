use Rattle.vsw_replay.proofs.Handing.{fed_next, few_before}
use Rattle.vsw_replay.proofs.Parts.{part_stops}
use Rattle.vsw_replay.proofs.streaming.feed_next.Goals as goal

pub feed-requires : goal.feed-requires
feed-requires g c =
    let h = c.requires.feeding in
    let b = h.but in
    record { feeding = (h.crew, h.lines, h.first, b.before, b.last, h.out, h.harbour, b.feeding, b.packets_are, few_before c.args.run.now.reading.batch b.before b.last c.args.begun.first c.args.begun.next c.args.feeding.now.most b.packets_are c.requires.room c.requires.most) }

pub returns-in-Ok-read_one-clause-feeds : goal.returns-in-Ok-read_one-clause-feeds
returns-in-Ok-read_one-clause-feeds g c = λ d lines first out e b.
    let old = c.args.run.now.reading.batch in
    let few = few_before old b.before b.last c.args.begun.first c.args.begun.next c.args.feeding.now.most b.packets_are c.requires.room c.requires.most in
    fed_next d lines first old c.read_one.new.run.reading.batch c.feed.new.feeding out c.in-Ok-read_one.stop c.in-Ok-read_one.ensures.adds (c.in-Ok.ensures.feeding d lines first b.before b.last out e b.feeding b.packets_are few)

pub returns-in-Err-clause-goes : goal.returns-in-Err-clause-goes
returns-in-Err-clause-goes g c = λ s start name switch q. part_stops s start (g.H.Host.outside c.args.host.now) name c.args.run.now switch c.args.begun.first c.args.begun.next q
