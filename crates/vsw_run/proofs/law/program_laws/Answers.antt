use Rattle.vsw_run.proofs.Runs.{one_text, one_run, one_status}
use Rattle.vsw_run.proofs.Wholes.{done_reads_all}
use Rattle.vsw_run.proofs.law.program_laws.Goals as goal

pub returns : goal.returns
returns c = record { whole = done_reads_all; text = one_text; status = one_status; run = one_run }
