use Rattle.std.proofs.Common.{◌∙◌, sym}
use Rattle.vsw_answer.proofs.outcome.edit.Goals as goal

pub returns-then-edits : goal.returns-then-edits
returns-then-edits c by u is f = c.do_words.ensures by u is

pub returns-else-edits : goal.returns-else-edits
returns-else-edits c by u is f = c.copy_from.ensures ∙ sym (c.requires.same by u is f c.if-edits.false)
