use Rattle.vsw_rows.proofs.Answered.{quiet_until, row_answers}
use Rattle.vsw_rows.proofs.Late.{late_shakes}
use Rattle.vsw_rows.proofs.Ways.{crossing_stays, moment_unseen, right_looks, rows_stay, walk_makes, way_stays}
use Rattle.vsw_rows.proofs.lean_law.lean_laws.Goals as goal

pub returns-clause-moment : goal.returns-clause-moment
returns-clause-moment c = moment_unseen

pub returns-clause-way : goal.returns-clause-way
returns-clause-way c = way_stays

pub returns-clause-rows : goal.returns-clause-rows
returns-clause-rows c = rows_stay

pub returns-clause-crossing : goal.returns-clause-crossing
returns-clause-crossing c = crossing_stays

pub returns-clause-makes : goal.returns-clause-makes
returns-clause-makes c = walk_makes

pub returns-clause-late : goal.returns-clause-late
returns-clause-late c = late_shakes

pub returns-clause-answers : goal.returns-clause-answers
returns-clause-answers c = row_answers

pub returns-clause-quiet : goal.returns-clause-quiet
returns-clause-quiet c = quiet_until

pub returns-clause-right : goal.returns-clause-right
returns-clause-right c = right_looks
