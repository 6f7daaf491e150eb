use Rattle.vsw_frame.proofs.SumsPushed.{push_right}
use Rattle.vsw_frame.proofs.SumsTrip.{keep_encapsulations, levels_are_written, stay_right, stay_wrong}
use Rattle.vsw_frame.proofs.Trip.{reads_more, round_trip}
use Rattle.vsw_frame.proofs.ByActs.{by_acts}
use Rattle.vsw_frame.proofs.Unread.{ends_are_unread}
use Rattle.vsw_frame.proofs.round_trip_law.round_trip_laws.Goals as goal

pub returns-clause-ends : goal.returns-clause-ends
returns-clause-ends c = ends_are_unread

pub returns-clause-round_trip : goal.returns-clause-round_trip
returns-clause-round_trip c = round_trip

pub returns-clause-deeper : goal.returns-clause-deeper
returns-clause-deeper c = reads_more

pub returns-clause-levels : goal.returns-clause-levels
returns-clause-levels c = levels_are_written

pub returns-clause-right : goal.returns-clause-right
returns-clause-right c = stay_right

pub returns-clause-wrong : goal.returns-clause-wrong
returns-clause-wrong c = stay_wrong

pub returns-clause-kept : goal.returns-clause-kept
returns-clause-kept c = keep_encapsulations

pub returns-clause-pushed : goal.returns-clause-pushed
returns-clause-pushed c = push_right

pub returns-clause-by_acts : goal.returns-clause-by_acts
returns-clause-by_acts c = by_acts
