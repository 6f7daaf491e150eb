use Rattle.std.proofs.Common.{refl}
use Rattle.vsw_harbour.specs.HarbourOpening.{rows_in}
use Rattle.vsw_harbour.specs.Harbour.{HarbourSeen}
use Rattle.vsw_harbour.proofs.Gathering.{harbour_is}
use Rattle.vsw_crew.proofs.Asking.{has_begun}
use Rattle.vsw_crew.proofs.Joining.{is_with, run_with}
use Rattle.vsw_crew.proofs.Meets.{many_rows}
use Rattle.vsw_crew.proofs.before.begin_rows.Goals as goal

pub take_firsts-requires : goal.take_firsts-requires
take_firsts-requires g c =
    let h : HarbourSeen = c.args.harbour.now in
    let w = is_with h c.args.schedule.now c.requires.run.run c.requires.run.is in
    record { many = many_rows h c.meet_and_ask.new.rows (c.in_ok-meet_and_ask.ensures.asked (run_with c.args.schedule.now c.requires.run.run) c.requires.ready.0 w.0 w.1 c.requires.ready.1).size }

pub returns : goal.returns
returns g c =
    let h : HarbourSeen = c.args.harbour.now in
    let i = harbour_is _ h _ _ _ _ c.harbour.view_is c.harbour.invariant in
    record {
      begun = λ s hs run same ready. has_begun h _ _ _ _ s hs c.args.first c.in_ok-firsts.firsts.items (rows_in c.meet_and_ask.new.rows) (rows_in c.take_firsts.new.rows) i
          (c.in_ok-meet_and_ask.ensures.asked s hs run same ready) (c.if-not-are_whole.ensures refl) c.in_ok-firsts.ensures.lines c.in_ok-firsts.ensures.rows;
    }
