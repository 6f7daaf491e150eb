use Rattle.std.proofs.Common.{◌≡◌, List, map, refl, sym, subst, ◌∙◌}
use Rattle.vsw_actors.specs.Picks.{picked}
use Rattle.vsw_actors.specs.declared.handed.Handed.{Handed}
use Rattle.vsw_hands.specs.Hands.{AllDone}
use Rattle.vsw_rings.specs.Rings.{fed}
use Rattle.vsw_rings.specs.declared.feed.Feed.{Feed}
use Rattle.vsw_crew.specs.Private.Flowing.{AreEnds}
use Rattle.vsw_crew.specs.StreamShares.{DoesStreamShare}
use Rattle.vsw_crew.specs.Streams.{jobs_fed}
use Rattle.vsw_crew.specs.declared.stream_share.Frames.{Frames}
use Rattle.vsw_crew.proofs.Incoming.{all_back, none_back}
use Rattle.vsw_crew.proofs.stream_shift.+agree_all.Goals as goal

pub returns-in_ok-agree_all : goal.returns-in_ok-agree_all
returns-in_ok-agree_all t c = record {
  back = λ k first h gs packets out picks done ends at handed.
      let told = c.in-Some.told.now in
      let others = c.in-Some.others.now in
      let feed = c.in-Some-split_first_mut.feed.now in
      let more = c.in-Some-split_first_mut.more.now in
      let streamed = c.in-Some-take.streamed in
      all_back k first h gs packets out picks told others feed more streamed.row c.args.rows.now.items c.put_row.new.rows.items c.agree_all.new.rows.items
      (subst (AllDone DoesStreamShare out) c.in-Some.ensures.cases.0 done)
      (subst (λ (w : List (Feed Handed Frames)). AreEnds w out) c.in-Some-split_first_mut.ensures.cases.0 ends)
      at
      (subst (λ (w : List (Feed Handed Frames)). jobs_fed k (map fed w) ≡ picked k first packets picks) c.in-Some-split_first_mut.ensures.cases.0 handed)
      (λ s does. record {
        streamed = streamed;
        feed = c.agree.new.feed;
        drain = c.agree.new.drain;
        is = sym c.take.ensures.value ∙ c.in-Some-take.is;
        row_is = refl;
        same = c.agree.ensures.drain.0;
        ends = c.agree.ensures.drain.1;
        all = λ e. (c.agree.ensures.all e).0;
        still = c.agree.ensures.feed.0;
      })
      c.in_ok-put_row.ensures c.in_ok-agree_all.ensures.back;
}

pub returns-in_default : goal.returns-in_default
returns-in_default t c = record { back = λ k first h gs packets out picks done ends at handed. none_back k first h gs packets out picks c.args.tolds.now c.args.rows.now.items c.in_default.ensures.cases done }
