use Rattle.std.proofs.Common.{arith}
use Rattle.vsw_dock.proofs.Placing.{as_many, lane_at, met_at_ok}
use Rattle.vsw_dock.proofs.meeting.meet_at.Goals as goal

pub bounds-helds-place : goal.bounds-helds-place
bounds-helds-place g c = omega (arith, as_many c.args.helds.now c.args.row.now c.requires.lanes, c.requires.place)

pub meet_lane-requires : goal.meet_lane-requires
meet_lane-requires g c = record { of = lane_at c.args.helds.now c.args.row.now c.args.place c.index-helds-place.result c.index-row-place.result c.requires.lanes c.requires.place }

pub returns-clause-met : goal.returns-clause-met
returns-clause-met g c = met_at_ok c.meet_lane.result c.args.more c.args.place c.args.helds.now c.args.row.now c.index-helds-place.result c.index-row-place.result c.meet_lane.new.lane c.requires.lanes c.requires.place c.meet_lane.ensures.meets
