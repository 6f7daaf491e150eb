use Rattle.std.proofs.Common.{◌∙◌, ap, arith, is_some, get_or, List, ℕ, Option}
use Rattle.vsw_words.specs.Private.Acts.{tallied}
use Rattle.vsw_words.proofs.Read.{pass_read}
use Rattle.vsw_words.proofs.Tallied.{moves, tallied_is}
use Rattle.vsw_transpose.specs.declared.act.Act.{Act}
use Rattle.vsw_words.specs.Reading.{or_none, read_acts}
use Rattle.vsw_words.proofs.doing.doing_of.Goals as goal

pub tally-requires-clause-few : goal.tally-requires-clause-few
tally-requires-clause-few c = omega (arith, c.word.ensures, (pass_read c.args.words.now c.requires.0 c.requires.1 c.requires.2).0)

pub tally-requires-clause-told : goal.tally-requires-clause-told
tally-requires-clause-told c =
    ap (λ (n : ℕ). is_some (read_acts n c.behind.result.now)) c.word.ensures ∙ ap (λ (ws : List ℕ). is_some (read_acts (get_or c.args.words.now 2 0) ws)) c.behind.ensures
    ∙ ap is_some (pass_read c.args.words.now c.requires.0 c.requires.1 c.requires.2).1

pub returns-clause-value : goal.returns-clause-value
returns-clause-value c by u is =
    c.tally.ensures ∙ ap (λ (n : ℕ). tallied 0 0 (or_none (read_acts n c.behind.result.now))) c.word.ensures ∙ ap (λ (ws : List ℕ). tallied 0 0 (or_none (read_acts (get_or c.args.words.now 2 0) ws))) c.behind.ensures
    ∙ ap (λ (o : Option (List Act)). tallied 0 0 (or_none o)) (pass_read c.args.words.now by u is).1 ∙ tallied_is by is.0.form

pub returns-clause-moves : goal.returns-clause-moves
returns-clause-moves c by u hs is s f = moves by hs c.tally.new.out (returns-clause-value c by u is) is.0.form s f
