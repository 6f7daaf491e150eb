use Rattle.vsw_offload.proofs.Exact.{files_are_right, files_tell}
use Rattle.vsw_offload.proofs.Tables.{tables_are_files}
use Rattle.vsw_offload.proofs.law.file_laws.Goals as goal

pub returns-clause-right : goal.returns-clause-right
returns-clause-right c = files_are_right

pub returns-clause-tell : goal.returns-clause-tell
returns-clause-tell c = files_tell

pub returns-clause-tables : goal.returns-clause-tables
returns-clause-tables c = tables_are_files
