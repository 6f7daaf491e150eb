use Rattle.vsw_words.proofs.Decoded.{decodes, apart}
use Rattle.vsw_words.proofs.Used.{row_ends}
use Rattle.vsw_words.proofs.law.laws.Goals as goal

pub returns-clause-decodes : goal.returns-clause-decodes
returns-clause-decodes c = decodes

pub returns-clause-apart : goal.returns-clause-apart
returns-clause-apart c = apart

pub returns-clause-zero : goal.returns-clause-zero
returns-clause-zero c = row_ends
