use Rattle.std.specs.Prelude.{codes, decimal}
use Rattle.vsw_run.specs.Complaint.{report_text}
use Rattle.vsw_run.specs.declared.ending.ReportFault.{ReportFault}
use Rattle.vsw_run.specs.declared.ending.ReportFault.TheVariants as variant
use Rattle.vsw_app.proofs.Speaking.{speaks_of, speaks_is, three}
use Rattle.vsw_app.proofs.complaint.say_report.Goals as goal

pub returns-in-Line : goal.returns-in-Line
returns-in-Line g c = speaks_of ReportFault report_text _ _ c.args.why.now (variant.Line c.in-Line.number) _ c.in-Line.is (speaks_is _ _ _ _ _ (three (codes "vsw: refused report ") (decimal c.in-Line.number) (codes "\n")) c.say_bad_report.ensures)

pub returns-in-ReportLimit : goal.returns-in-ReportLimit
returns-in-ReportLimit g c = speaks_of ReportFault report_text _ _ c.args.why.now variant.ReportLimit _ c.in-ReportLimit.is c.say.ensures
