use Rattle.std.proofs.Common.{List, subst, sym}
use Rattle.vsw_dock.specs.Meeting.{AreLanes}
use Rattle.vsw_dock.specs.Opening.{rows_in}
use Rattle.vsw_dock.specs.LiveMeeting.{HeldSeen}
use Rattle.vsw_policy.specs.Sound.{Each}
use Rattle.vsw_harbour.proofs.Held.{rows_held}
use Rattle.vsw_harbour.proofs.meeting.meet_all.Goals as goal

pub meet_each-requires-clause-lanes : goal.meet_each-requires-clause-lanes
meet_each-requires-clause-lanes g c =
    subst (λ (hs : List HeldSeen). Each (AreLanes hs) (rows_in c.args.rows.now)) (sym c.as_mut_slice.ensures.value) (rows_held c.args.docks.now c.in_ok-helds.helds.items (rows_in c.args.rows.now) c.in_ok-helds.ensures c.requires.lanes)
