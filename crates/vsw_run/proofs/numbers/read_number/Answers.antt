use Rattle.std.proofs.Common.{ap, sym, ◌∙◌}
use Rattle.vsw_run.specs.Plain.{is_plain}
use Rattle.vsw_run.proofs.Decimals.{parsed}
use Rattle.vsw_run.proofs.numbers.read_number.Goals as goal

pub returns-then-n-most : goal.returns-then-n-most
returns-then-n-most c =
    parsed c.args.least c.args.most c.args.word.now c.parse.result c.in_ok-n.n (sym (ap is_plain c.as_bytes.ensures.value) ∙ (sym c.is_plain.ensures ∙ c.if-not-is_plain.false)) (sym c.ok.ensures.value ∙ c.in_ok-n.was)
    c.parse.ensures.value.0 c.if-least-n.true c.if-n-most.true
