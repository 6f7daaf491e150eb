use Rattle.std.proofs.Common.{refl}
use Rattle.vsw_harbour.specs.HarbourOpening.{rows_in}
use Rattle.vsw_harbour.specs.Harbour.{HarbourSeen}
use Rattle.vsw_harbour.proofs.Gathering.{harbour_is}
use Rattle.vsw_crew.proofs.Giving.{are_given, few_picks, is_out, left_behind, left_many, met_by, out_is, shares_sent}
use Rattle.vsw_crew.proofs.Joining.{counts_back, is_with, run_with}
use Rattle.vsw_crew.proofs.shift.give.Goals as goal

pub meet_picked-requires-clause-stand : goal.meet_picked-requires-clause-stand
meet_picked-requires-clause-stand g c =
    let w = is_with c.args.harbour.now c.args.schedule.now c.requires.run.run c.requires.run.is in
    let b = c.in_ok-firsts.ensures.begun (run_with c.args.schedule.now c.requires.run.run) c.requires.ready.0 w.0 w.1 c.requires.ready.1 in
    (b.middles, b.stand)

pub meet_picked-requires-clause-size : goal.meet_picked-requires-clause-size
meet_picked-requires-clause-size g c =
    let w = is_with c.args.harbour.now c.args.schedule.now c.requires.run.run c.requires.run.is in
    (c.in_ok-firsts.ensures.begun (run_with c.args.schedule.now c.requires.run.run) c.requires.ready.0 w.0 w.1 c.requires.ready.1).size

pub meet_picked-requires-clause-few : goal.meet_picked-requires-clause-few
meet_picked-requires-clause-few g c = few_picks c.args.picked.first c.requires.picked.0 c.args.picked.picks.items c.as_slice.result.now c.as_slice.ensures.value c.requires.picked.1.numbers c.requires.picked.1.few

pub give_each-requires : goal.give_each-requires
give_each-requires g c =
    let h : HarbourSeen = c.args.harbour.now in
    let w = is_with h c.args.schedule.now c.requires.run.run c.requires.run.is in
    let b = c.in_ok-firsts.ensures.begun (run_with c.args.schedule.now c.requires.run.run) c.requires.ready.0 w.0 w.1 c.requires.ready.1 in
    let p = c.requires.picked.1 in
    let met = met_by h c.args.picked.picks.items c.as_slice.result.now (rows_in c.begin.new.rows.items) (rows_in c.meet_picked.new.rows.items) c.as_slice.ensures.value c.in_ok-meet_picked.ensures.met in
    let v = are_given h _ _ _ _ c.args.schedule.now b.middles c.args.picked.first c.requires.picked.0 c.begin.new.rows.items c.meet_picked.new.rows.items c.args.picked.picks.items (harbour_is _ h _ _ _ _ c.harbour.view_is c.harbour.invariant) b.size b.stand met p.numbers p.size p.dealt p.fit p.few c.requires.quiet in
    record { shares = shares_sent h.docks h.docks c.requires.picked.0 _ c.args.picked.first c.meet_picked.new.rows.items c.as_mut_slice.result.now c.args.picked.picks.items c.as_mut_slice-2.result.now refl p.packets_are c.as_mut_slice.ensures.value c.as_mut_slice-2.ensures.value v.shares }

pub returns : goal.returns
returns g c =
    let h : HarbourSeen = c.args.harbour.now in
    let met = met_by h c.args.picked.picks.items c.as_slice.result.now (rows_in c.begin.new.rows.items) (rows_in c.meet_picked.new.rows.items) c.as_slice.ensures.value c.in_ok-meet_picked.ensures.met in
    record {
      out = λ hs packets ready p. is_out h _ _ _ _ c.args.schedule.now hs c.args.picked.first packets c.in_ok-befores.befores c.in_ok-firsts.firsts c.args.rows.items c.begin.new.rows.items c.meet_picked.new.rows.items _ c.args.picked c.give_each.new.pool (harbour_is _ h _ _ _ _ c.harbour.view_is c.harbour.invariant) c.requires.run
          (record {
            ready = ready;
            may = c.requires.lines;
            quiet = c.requires.quiet;
            picks = p;
            counts = counts_back c.in_ok-befores.befores.items c.args.rows.items c.deref.result.now c.deref.ensures.value c.in_ok-befores.ensures;
            out_are = out_is h.docks packets _ c.args.picked.first c.meet_picked.new.rows.items c.as_mut_slice.result.now c.args.picked.picks.items c.as_mut_slice-2.result.now c.args.pool.now c.give_each.new.pool p.packets_are c.as_mut_slice.ensures.value c.as_mut_slice-2.ensures.value c.requires.idle c.in_ok-give_each.ensures.given;
            behind = left_behind c.meet_picked.new.rows.len c.meet_picked.new.rows.items c.as_mut_slice.result.now c.give_each.new.rows c.args.picked.picks.items c.as_mut_slice-2.result.now c.meet_picked.new.rows.ok.0 c.as_mut_slice.ensures.value c.as_mut_slice-2.ensures.value c.give_each.ensures.many c.in_ok-give_each.ensures.left;
            many = left_many c.meet_picked.new.rows.len c.meet_picked.new.rows.items c.as_mut_slice.result.now c.give_each.new.rows c.meet_picked.new.rows.ok.0 c.as_mut_slice.ensures.value c.give_each.ensures.many;
          })
          c.in_ok-firsts.ensures.begun met;
    }
