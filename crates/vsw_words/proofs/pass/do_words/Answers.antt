use Rattle.std.proofs.Common.{◌∙◌, ap, is_some, get_or, List, ℕ}
use Rattle.vsw_base.specs.Shape.{is_stack}
use Rattle.vsw_words.proofs.Read.{pass_read, made_of}
use Rattle.vsw_transpose.proofs.Kept.{fits_parts}
use Rattle.vsw_words.specs.Reading.{read_acts}
use Rattle.vsw_words.proofs.pass.do_words.Goals as goal

pub rewrite-requires-clause-ready : goal.rewrite-requires-clause-ready
rewrite-requires-clause-ready c =
    ap (λ (n : ℕ). is_some (read_acts n c.behind.result.now)) c.word.ensures ∙ ap (λ (ws : List ℕ). is_some (read_acts (get_or c.args.words.now 2 0) ws)) c.behind.ensures
    ∙ ap is_some (pass_read c.args.words.now c.requires.0 c.requires.1 c.requires.2).1

pub rewrite-requires-clause-shape : goal.rewrite-requires-clause-shape
rewrite-requires-clause-shape c =
    ap is_stack (made_of c.args.words.now c.behind.result.now c.word.result c.args.stack.now c.requires.0 c.requires.1 c.word.ensures c.behind.ensures c.requires.2)
    ∙ (fits_parts c.requires.0 c.args.stack.now c.requires.3).1

pub returns : goal.returns
returns c by u is = c.rewrite.ensures ∙ made_of c.args.words.now c.behind.result.now c.word.result c.args.stack.now by u c.word.ensures c.behind.ensures is
