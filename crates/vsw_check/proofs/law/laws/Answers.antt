use Rattle.vsw_check.proofs.Alone.{each_judged, no_report_is_bad, one_bad_line, one_report_of}
use Rattle.vsw_check.proofs.law.laws.Goals as goal

pub returns-clause-each : goal.returns-clause-each
returns-clause-each c = each_judged

pub returns-clause-apart : goal.returns-clause-apart
returns-clause-apart c = no_report_is_bad

pub returns-clause-line : goal.returns-clause-line
returns-clause-line c = one_bad_line

pub returns-clause-rounds : goal.returns-clause-rounds
returns-clause-rounds c = one_report_of
