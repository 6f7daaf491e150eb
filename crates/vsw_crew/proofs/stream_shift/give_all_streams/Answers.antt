use Rattle.std.proofs.Common.{◌≡◌, ◌+◌, ◌++◌, Global, Vec, ap, drop, length, rules, subst, sym, take}
use Rattle.vsw_actors.specs.declared.handed.Handed.{Handed}
use Rattle.vsw_harbour.specs.Harbour.{HarbourSeen}
use Rattle.vsw_rings.specs.declared.feed.Feed.{Feed}
use Rattle.vsw_crew.specs.Private.Flowing.{AreStreamed}
use Rattle.vsw_crew.specs.declared.stream_share.Frames.{Frames}
use Rattle.vsw_crew.proofs.Outgoing.{streamed_so}
use Rattle.vsw_crew.proofs.stream_shift.give_all_streams.Goals as goal

pub returns : goal.returns
returns g c =
    let h : HarbourSeen = c.args.harbour.now in
    let room : c.in-Some.room ≡ c.args.most + 1 = search rules in
    record {
      given = subst (λ (fs : Vec (Feed Handed Frames) Global). AreStreamed h c.args.most c.args.rows.now.items (take c.args.rows.now.len (c.give_or_give_up.new.rows ++ drop (length c.give_or_give_up.new.rows) c.args.rows.now.items)) fs.items c.give_or_give_up.new.pool) (sym c.in_ok-give_or_give_up.ensures.feeds) (streamed_so h c.harbour.inside.workers c.in-Some.room c.args.most c.args.rows.now.len c.args.rows.now.items c.as_mut_slice.result.now c.give_or_give_up.new.rows c.in_ok-feeds.feeds.items c.open_rings.new.drains.items c.as_mut_slice-2.result.now c.args.pool.now c.give_or_give_up.new.pool (ap (λ (w : HarbourSeen). w.workers) c.harbour.view_is) room
          c.in_ok-feeds.ensures.fresh c.in_ok-feeds.ensures.many c.args.rows.now.ok.0 c.as_mut_slice.ensures.value c.as_mut_slice-2.ensures.value c.requires.idle c.in_ok-give_or_give_up.ensures.given c.give_or_give_up.ensures.many c.in_ok-give_or_give_up.ensures.left);
    }
