use Rattle.vsw_crew.proofs.Outgoing.{fresh_on, many_on}
use Rattle.vsw_crew.proofs.stream_shift.open_rings.Goals as goal

pub loop-preserved : goal.loop-preserved
loop-preserved c =
    let f = c.in_ok-feed in
    let feeds = c.loop.feeds.items in
    record {
      fresh = fresh_on c.args.room feeds c.keep_ends.new.feeds.items c.loop.drains.items c.keep_ends.new.drains.items f.feed f.drain c.loop.invariant.fresh (f.ensures.ring, f.ensures.feed.0, f.ensures.feed.1, f.ensures.feed.2, f.ensures.drain.0, f.ensures.drain.1) c.in_ok-keep_ends.ensures.feeds c.in_ok-keep_ends.ensures.drains;
      many = many_on c.loop.counter feeds c.keep_ends.new.feeds.items f.feed c.loop.invariant.many c.in_ok-keep_ends.ensures.feeds;
    }
