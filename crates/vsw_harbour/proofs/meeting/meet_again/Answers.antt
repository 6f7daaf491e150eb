use Rattle.vsw_dock.specs.Opening.{rows_in}
use Rattle.vsw_harbour.specs.Harbour.{HarbourSeen}
use Rattle.vsw_harbour.proofs.Gathering.{all_did, all_idle, all_may, docks_are, harbour_is, lanes_here}
use Rattle.vsw_harbour.proofs.meeting.meet_again.Goals as goal

pub meet_all-requires-clause-lanes : goal.meet_all-requires-clause-lanes
meet_all-requires-clause-lanes g c =
    let h : HarbourSeen = c.args.harbour.now in
    lanes_here h c.deref.result.now (rows_in c.args.rows.now) (docks_are _ h c.deref.result.now c.harbour.view_is c.deref.ensures.value) c.requires.lanes

pub returns-clause-did : goal.returns-clause-did
returns-clause-did g c =
    let h : HarbourSeen = c.args.harbour.now in
    all_did h _ _ _ _ c.args.needs.now c.deref.result.now c.args.rows.now c.meet_all.new.rows (harbour_is _ h _ _ _ _ c.harbour.view_is c.harbour.invariant) (docks_are _ h c.deref.result.now c.harbour.view_is c.deref.ensures.value) c.requires.size c.meet_all.auto.rows c.in_ok-meet_all.ensures.meet

pub returns-clause-idle : goal.returns-clause-idle
returns-clause-idle g c =
    let h : HarbourSeen = c.args.harbour.now in
    all_idle h c.args.rows.now c.meet_all.new.rows (all_did h _ _ _ _ c.args.needs.now c.deref.result.now c.args.rows.now c.meet_all.new.rows (harbour_is _ h _ _ _ _ c.harbour.view_is c.harbour.invariant) (docks_are _ h c.deref.result.now c.harbour.view_is c.deref.ensures.value) c.requires.size c.meet_all.auto.rows c.in_ok-meet_all.ensures.meet)

pub returns-clause-may : goal.returns-clause-may
returns-clause-may g c = all_may c.deref.result.now c.args.needs.now (rows_in c.args.rows.now) (rows_in c.meet_all.new.rows) c.in_ok-meet_all.ensures.meet
