use Rattle.std.proofs.Common.{subst, sym}
use Rattle.std.specs.Prelude.{IfSome}
use Rattle.vsw_frame.specs.Frame.{parts}
use Rattle.vsw_offload.proofs.Giving.{body_is}
use Rattle.vsw_offload.proofs.Remade.{body_at}
use Rattle.vsw_offload.specs.Private.Making.{IsMadeOf}
use Rattle.vsw_offload.proofs.answer.by_row.Goals as goal

pub by_body-requires-clause-body : goal.by_body-requires-clause-body
by_body-requires-clause-body c = (c.requires.row.0, body_is c.args.words.now c.in-Some.body.now c.requires.row.0 (parts c.args.frame.now) c.told-words c.in-Some.ensures.cases.1.same c.requires.row.1)

pub returns-in-Some-clause-early : goal.returns-in-Some-clause-early
returns-in-Some-clause-early c r row = c.by_body.ensures.early r (body_is c.args.words.now c.in-Some.body.now r (parts c.args.frame.now) c.told-words c.in-Some.ensures.cases.1.same row)

pub returns-in-Some-clause-fate : goal.returns-in-Some-clause-fate
returns-in-Some-clause-fate c r row = c.by_body.ensures.fate r (body_is c.args.words.now c.in-Some.body.now r (parts c.args.frame.now) c.told-words c.in-Some.ensures.cases.1.same row)

pub returns-in-Some-clause-bytes : goal.returns-in-Some-clause-bytes
returns-in-Some-clause-bytes c r row = c.by_body.ensures.bytes r (body_is c.args.words.now c.in-Some.body.now r (parts c.args.frame.now) c.told-words c.in-Some.ensures.cases.1.same row)

pub returns-in-Some-clause-late : goal.returns-in-Some-clause-late
returns-in-Some-clause-late c r row = c.by_body.ensures.late r (body_is c.args.words.now c.in-Some.body.now r (parts c.args.frame.now) c.told-words c.in-Some.ensures.cases.1.same row)

pub by_body-requires-clause-made : goal.by_body-requires-clause-made
by_body-requires-clause-made c = subst (λ b. IfSome c.args.made (λ m. IsMadeOf b m.now (parts c.args.frame.now).stack)) (sym (body_at c.args.words.now c.in-Some.body.now c.told-words c.in-Some.ensures.cases.1.same)) c.requires.made
