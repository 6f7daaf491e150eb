use Rattle.std.proofs.Common.{ap, sym, ◌∙◌, arith}
use Rattle.vsw_base.specs.Shape.{encaps, is_stack}
use Rattle.vsw_frame.specs.Frame.{parts}
use Rattle.vsw_offload.proofs.Giving.{none_kept}
use Rattle.vsw_offload.proofs.answer.kept_by.Goals as goal

pub returns-then-encaps-eq0 : goal.returns-then-encaps-eq0
returns-then-encaps-eq0 c by until are fit =
    let hs = (parts c.args.frame.now).stack in
    let shape = ap is_stack (sym c.stack-stack.ensures ∙ sym c.headers.ensures.all) ∙ c.headers.ensures.shape in
    none_kept by hs are.0.form shape fit (ap encaps (sym c.stack-stack.ensures) ∙ (sym c.encaps-encaps.ensures.count ∙ omega (arith, c.if-encaps-eq0.true)))
