use Rattle.std.proofs.Common.{ap, ◌∙◌}
use Rattle.vsw_transpose.specs.Form.{is_form}
use Rattle.vsw_words.specs.Reading.{or_none}
use Rattle.vsw_words.proofs.Passes.{last_pass_read}
use Rattle.vsw_words.proofs.reading.take_last.Goals as goal

pub take_acts-requires-clause-acts : goal.take_acts-requires-clause-acts
take_acts-requires-clause-acts c = (last_pass_read c.args.verdict.now c.args.count c.args.last.now c.requires.of.0 c.in-Pass.is c.requires.of.1 c.requires.of.2 c.requires.of.3).0

pub take_acts-requires-clause-form : goal.take_acts-requires-clause-form
take_acts-requires-clause-form c =
    let k = last_pass_read c.args.verdict.now c.args.count c.args.last.now c.requires.of.0 c.in-Pass.is c.requires.of.1 c.requires.of.2 c.requires.of.3 in
    ap (λ acts. is_form (or_none acts)) k.1 ∙ k.2

pub returns-in-Pass : goal.returns-in-Pass
returns-in-Pass c xs body acts are = c.take_acts.ensures ∙ ap or_none (last_pass_read c.args.verdict.now c.args.count c.args.last.now xs c.in-Pass.is body acts are).1
