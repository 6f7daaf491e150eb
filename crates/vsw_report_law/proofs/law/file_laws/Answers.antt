use Rattle.vsw_report_law.proofs.Files.{done_is_read, files_give, put_is_read}
use Rattle.vsw_report_law.proofs.law.file_laws.Goals as goal

pub returns : goal.returns
returns c = record { given = files_give; put = put_is_read; done = done_is_read }
