use Rattle.std.proofs.Common.{rules}
use Rattle.vsw_dock.specs.Work.{job_in}
use Rattle.vsw_harbour.proofs.Rows.{row_here, row_there}
use Rattle.vsw_harbour.proofs.before.+step_row.Goals as goal

pub returns-then-at-caller : goal.returns-then-at-caller
returns-then-at-caller g t c = record {
  works = row_here c.args.at c.args.caller c.args.place (job_in c.args.job.now) c.args.docks.now c.in-Some.row.now c.step.new.row c.in-Some.others.now c.args.rows.now (search rules) c.if-at-caller.true c.step.ensures.works;
}

pub returns-else-at-caller : goal.returns-else-at-caller
returns-else-at-caller g t c = record {
  works = row_there c.args.at c.args.caller c.args.place (job_in c.args.job.now) c.args.docks.now c.in-Some.row.now c.in-Some.others.now c.step_row.new.rows c.args.rows.now (search rules) c.if-at-caller.false c.step_row.ensures.works;
}
