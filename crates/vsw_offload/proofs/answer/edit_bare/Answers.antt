use Rattle.std.proofs.Common.{ap, sym, ◌∙◌, refl}
use Rattle.vsw_base.specs.Shape.{is_stack}
use Rattle.vsw_frame.specs.Bytes as bytes
use Rattle.vsw_frame.specs.Frame.{parts}
use Rattle.vsw_offload.proofs.Giving.{edited_by, none_kept, same_bytes}
use Rattle.vsw_offload.specs.Answered.{passed}
use Rattle.vsw_offload.specs.Private.Saying.{bytes_with}
use Rattle.vsw_offload.proofs.answer.edit_bare.Goals as goal

pub edited_to-requires-clause-edit : goal.edited_to-requires-clause-edit
edited_to-requires-clause-edit c =
    let (by, form, fits, made) = c.requires.edit in
    let hs = (parts c.args.frame.now).stack in
    let shape = ap is_stack (sym c.stack.ensures ∙ sym c.headers.ensures.all) ∙ c.headers.ensures.shape in
    edited_by by hs hs c.args.made.now 0 form shape fits refl made (none_kept by hs form shape fits c.requires.bare)

pub returns-clause-fate : goal.returns-clause-fate
returns-clause-fate c = λ by form fits made.
    let p = parts c.args.frame.now in
    let shape = ap is_stack (sym c.stack.ensures ∙ sym c.headers.ensures.all) ∙ c.headers.ensures.shape in
    let none = none_kept by p.stack form shape fits c.requires.bare in
    c.edited_to.ensures.fate ∙ (λ z. passed (bytes.answer p (made z) (none z)))

pub returns-clause-bytes : goal.returns-clause-bytes
returns-clause-bytes c = λ by form fits made.
    let p = parts c.args.frame.now in
    let shape = ap is_stack (sym c.stack.ensures ∙ sym c.headers.ensures.all) ∙ c.headers.ensures.shape in
    let none = none_kept by p.stack form shape fits c.requires.bare in
    c.edited_to.ensures.bytes ∙ ((λ z. bytes_with p (made z) (none z) c.edited_to.result.fate) ∙ same_bytes by p c.edited_to.result.fate)
