use Rattle.vsw_history_law.proofs.Entries.{each_entry_is_told}
use Rattle.vsw_history_law.proofs.Reports.{runs_legally, lines_are_calls, one_line_each, no_other_lines}
use Rattle.vsw_history_law.proofs.law.report_laws.Goals as goal

pub returns : goal.returns
returns c = record { legal = runs_legally; calls = lines_are_calls; lines = one_line_each; no_other = no_other_lines; entries = each_entry_is_told }
