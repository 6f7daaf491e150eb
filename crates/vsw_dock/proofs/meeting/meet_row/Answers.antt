use Rattle.std.proofs.Common.{◌≡◌, length, sym, ◌∙◌, subst, arith, List}
use Rattle.vsw_live.specs.Meeting.{HeldSeen}
use Rattle.vsw_dock.proofs.Placing.{all_met, met_more, still_lanes}
use Rattle.vsw_dock.specs.Meeting.{AreLanes}
use Rattle.vsw_dock.specs.Private.Met.{MetAt, MetTo}
use Rattle.vsw_dock.proofs.meeting.meet_row.Goals as goal

pub meet_at-requires-clause-lanes : goal.meet_at-requires-clause-lanes
meet_at-requires-clause-lanes g c =
    subst (λ (hs : List HeldSeen). AreLanes hs c.loop-place.row) (sym c.loop-place.invariant.same)
    (still_lanes c.args.more c.loop-place.place c.args.helds.now c.args.row.now c.loop-place.row c.requires.lanes c.loop-place.invariant.met)

pub loop-place-preserved : goal.loop-place-preserved
loop-place-preserved g c = record {
  same = c.meet_at.ensures.same ∙ c.loop-place.invariant.same;
  met = met_more c.args.more c.loop-place.place c.args.helds.now c.args.row.now c.loop-place.row c.meet_at.new.row c.loop-place.invariant.met
      (subst (λ (hs : List HeldSeen). MetAt c.args.more c.loop-place.place hs c.loop-place.row c.meet_at.new.row) c.loop-place.invariant.same c.in_ok-meet_at.ensures.met);
}

pub returns-clause-meet : goal.returns-clause-meet
returns-clause-meet g c =
    let all : c.loop-place.place ≡ length c.args.row.now = omega (arith, c.loop-place-test.false, c.loop-place.auto.place-end) in
    all_met c.args.more c.args.helds.now c.args.row.now c.loop-place.row c.requires.lanes
    (subst (λ n. MetTo c.args.more n c.args.helds.now c.args.row.now c.loop-place.row) all c.loop-place.invariant.met)
