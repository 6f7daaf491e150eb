use Rattle.vsw_report_law.proofs.Histories.{one_history}
use Rattle.vsw_report_law.proofs.Proper.{rounds_are_proper}
use Rattle.vsw_report_law.proofs.Texts.{one_text, report_is_read, text_fixes_histories}
use Rattle.vsw_report_law.proofs.law.laws.Goals as goal

pub returns : goal.returns
returns c = record { proper = rounds_are_proper; text = one_text; read = report_is_read; history = one_history; fixes = text_fixes_histories }
