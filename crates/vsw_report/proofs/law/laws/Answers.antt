use Rattle.vsw_report.proofs.OnlyReports.{only_reports}
use Rattle.vsw_report.proofs.RoundsBack.{one_report, reads_back}
use Rattle.vsw_report.proofs.law.laws.Goals as goal

pub returns-clause-back : goal.returns-clause-back
returns-clause-back c = reads_back

pub returns-clause-one : goal.returns-clause-one
returns-clause-one c = one_report

pub returns-clause-only : goal.returns-clause-only
returns-clause-only c = only_reports
