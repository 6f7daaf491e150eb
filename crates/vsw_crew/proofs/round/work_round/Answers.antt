use Rattle.vsw_harbour.specs.HarbourOpening.{rows_in}
use Rattle.vsw_harbour.specs.Harbour.{HarbourSeen}
use Rattle.vsw_harbour.proofs.Gathering.{harbour_is}
use Rattle.vsw_crew.specs.Private.Round.{jobs_here}
use Rattle.vsw_crew.proofs.Joining.{counts_back, has_worked, is_with, run_with, told_back}
use Rattle.vsw_crew.proofs.round.work_round.Goals as goal

pub do_beside-requires-clause-stand : goal.do_beside-requires-clause-stand
do_beside-requires-clause-stand g c = λ κs within.
    let h : HarbourSeen = c.args.harbour.now in
    let w = is_with h c.args.schedule.now c.requires.run.run c.requires.run.is in
    let b = c.in_ok-firsts.ensures.begun (run_with c.args.schedule.now c.requires.run.run) c.requires.ready.0 w.0 w.1 c.requires.ready.1 in
    (b.middles, b.stand)

pub do_beside-requires-clause-size : goal.do_beside-requires-clause-size
do_beside-requires-clause-size g c = λ κs within.
    let h : HarbourSeen = c.args.harbour.now in
    let w = is_with h c.args.schedule.now c.requires.run.run c.requires.run.is in
    (c.in_ok-firsts.ensures.begun (run_with c.args.schedule.now c.requires.run.run) c.requires.ready.0 w.0 w.1 c.requires.ready.1).size

pub returns : goal.returns
returns g c =
    let h : HarbourSeen = c.args.harbour.now in
    record {
      worked = has_worked h _ _ _ _ c.args.schedule.now c.args.first c.args.packets.now c.in_ok-befores.befores.items c.in_ok-firsts.firsts.items c.share.new.loose.items (rows_in c.args.rows.items) (rows_in c.begin.new.rows.items) (rows_in c.in_ok-rows.rows.items)
          (harbour_is _ h _ _ _ _ c.harbour.view_is c.harbour.invariant) c.requires.lines (counts_back c.in_ok-befores.befores.items c.args.rows.items c.deref.result.now c.deref.ensures.value c.in_ok-befores.ensures) c.in_ok-firsts.ensures.begun (told_back _ c.new-loose.result.items c.share.new.loose.items c.new-loose.ensures.items c.in_ok-shares.ensures.loose)
          (λ hs stand. c.in_ok-rows.ensures.did hs (jobs_here h c.args.schedule.now c.args.first c.args.packets.now) stand c.in_ok-shares.ensures.shares);
    }
