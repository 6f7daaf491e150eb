use Rattle.std.proofs.Common.{◌-◌, subst, sym, arith}
use Rattle.vsw_hands.specs.Hands.{AllDone}
use Rattle.vsw_harbour.specs.Harbour.{HarbourSeen}
use Rattle.vsw_harbour.proofs.Gathering.{harbour_is}
use Rattle.vsw_crew.specs.Private.Flowing.{MayEnd, shares_with}
use Rattle.vsw_crew.specs.StreamShares.{DoesStreamShare}
use Rattle.vsw_crew.proofs.Incoming.{are_ends, came_back, fed_out, may_end, ok_map}
use Rattle.vsw_crew.proofs.stream_shift.close_round.Goals as goal

pub end_all-requires : goal.end_all-requires
end_all-requires g c =
    let f = c.args.feeding in
    let x = c.requires.feeding in
    record { may = subst MayEnd (sym c.as_mut_slice-ends.ensures.value) (may_end (f.most - f.fed) f.feeds.items c.args.pool.now (x.4.rings (f.most - f.fed) (omega (arith, x.4.within)))) }

pub agree_all-requires : goal.agree_all-requires
agree_all-requires g c =
    let f = c.args.feeding in
    let x = c.requires.feeding in
    record { may = (c.args.pool.now, subst (AllDone DoesStreamShare c.args.pool.now) (sym c.as_mut_slice.ensures.value) c.in_ok-tolds.ensures.told, are_ends (f.most - f.fed) f.feeds.items c.as_mut_slice-ends.result.now c.end_all.new.feeds c.args.pool.now c.as_mut_slice-ends.ensures.value (x.4.rings (f.most - f.fed) (omega (arith, x.4.within))) c.end_all.ensures.ended) }

pub end_round-requires-clause-harbour : goal.end_round-requires-clause-harbour
end_round-requires-clause-harbour g c =
    let h : HarbourSeen = c.args.harbour.now in
    (_, _, _, _, harbour_is _ h _ _ _ _ c.harbour.view_is c.harbour.invariant)

pub end_round-requires-clause-out : goal.end_round-requires-clause-out
end_round-requires-clause-out g c =
    let h : HarbourSeen = c.args.harbour.now in
    let i = harbour_is _ h _ _ _ _ c.harbour.view_is c.harbour.invariant in
    let f = c.args.feeding in
    let x = c.requires.feeding in
    let out = shares_with x.2 x.3 c.args.pool.now f.picks.items in
    (x.0, x.1, x.2, x.3, out, fed_out _ x.1 x.2 x.3 f c.args.pool.now (omega (arith, i.more)) x.4, came_back _ x.1 x.2 x.3 f c.args.pool.now c.as_mut_slice-ends.result.now c.end_all.new.feeds c.in_ok-tolds.tolds.items c.as_mut_slice.result.now c.new-rows.result.items c.agree_all.new.rows.items c.as_mut_slice-ends.ensures.value c.as_mut_slice.ensures.value c.new-rows.ensures.items x.4 c.in_ok-tolds.ensures.told c.end_all.ensures.ended c.in_ok-agree_all.ensures.back)

pub returns-clause-closed : goal.returns-clause-closed
returns-clause-closed g c =
    let h : HarbourSeen = c.args.harbour.now in
    let i = harbour_is _ h _ _ _ _ c.harbour.view_is c.harbour.invariant in
    let f = c.args.feeding in
    ok_map c.end_round.result (λ w does hs lines first packets x. record {
      out = shares_with first packets c.args.pool.now f.picks.items;
      is_out = fed_out _ lines first packets f c.args.pool.now (omega (arith, i.more)) x;
      does = does (shares_with first packets c.args.pool.now f.picks.items) (came_back _ lines first packets f c.args.pool.now c.as_mut_slice-ends.result.now c.end_all.new.feeds c.in_ok-tolds.tolds.items c.as_mut_slice.result.now c.new-rows.result.items c.agree_all.new.rows.items c.as_mut_slice-ends.ensures.value c.as_mut_slice.ensures.value c.new-rows.ensures.items x c.in_ok-tolds.ensures.told c.end_all.ensures.ended c.in_ok-agree_all.ensures.back);
    }) c.end_round.ensures.worked
