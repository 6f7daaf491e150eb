use Rattle.std.proofs.Common.{◌≡◌, ◌∙◌, ℕ, List, true, drop, length, sym, ap, arith}
use Rattle.vsw_base.specs.Frame.{Parts}
use Rattle.vsw_header.specs.Sum.{AreBytes}
use Rattle.vsw_transpose.specs.declared.act.Act.{Act}
use Rattle.vsw_transpose.specs.Apply.{apply}
use Rattle.vsw_transpose.specs.Fits.{fits, kept}
use Rattle.vsw_transpose.specs.Form.{is_form}
use Rattle.vsw_frame.specs.Bytes.{outgoing}
use Rattle.vsw_frame.specs.Frame.{parts, seen}
use Rattle.vsw_frame.proofs.Rewrites.{rewritten_is}
use Rattle.vsw_frame.proofs.rewriting.rewrite_bytes.Goals as goal

pub returns-in-Ok-rewrite-clause-rewritten : goal.returns-in-Ok-rewrite-clause-rewritten
returns-in-Ok-rewrite-clause-rewritten c =
    let acts : List Act = c.args.by.now in
    let p : Parts = parts c.in-Ok.frame in
    let are : AreBytes c.args.bytes.now = λ i. grind (arith, c.type_inv.bytes i) in
    let form : is_form acts ≡ true = ap is_form (sym c.acts-acts.ensures.all) ∙ c.acts-acts.ensures.form in
    let fit : fits acts p.stack ≡ true = sym (c.if-not-fits.ensures ∙ ap (fits acts) c.stack.ensures) in
    let bytes : List ℕ = outgoing p (apply acts p.stack) (kept acts) in
    rewritten_is c.args.bytes.now p acts c.rewrite.new.out (drop (length bytes) c.args.out.now) c.in-Ok-rewrite.len are (sym (ap seen c.in-Ok.is) ∙ c.read_frame-read.ensures.parts) form fit c.numbers_fit.ensures c.in-Ok-rewrite.ensures.answer c.in-Ok-rewrite.ensures.written
