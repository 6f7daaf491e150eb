use Rattle.std.proofs.Common.{subst, sym}
use Rattle.vsw_frame.specs.Frame.{parts}
use Rattle.vsw_offload.proofs.Headed.{by_head_is, of_frame, row_in}
use Rattle.vsw_offload.specs.Private.Heading.{AreHeads, PassesFrame}
use Rattle.vsw_offload.proofs.answer.by_heads.Goals as goal

pub by_head-requires-clause-frame : goal.by_head-requires-clause-frame
by_head-requires-clause-frame c =
    let (rows, made, each) = c.requires.made in
    let (id, is, same, stack) = c.requires.id in
    let e = c.args.edits.now in
    let p = parts c.args.frame.now in
    let o = c.in-Some.ensures rows e.stacks (subst (AreHeads rows e.stacks) (sym c.as_slice.ensures) made.heads) in
    let r = row_in rows o.words each o.one in
    (r.row, subst (λ ss. PassesFrame p ss c.in-Some.head.now.place r.row) (sym c.as_slice-in-Some.ensures) (of_frame p rows e.stacks c.args.words.now c.args.moment c.in-Some.head.now.place id o r is same stack))

pub returns-in-Some-clause-answered : goal.returns-in-Some-clause-answered
returns-in-Some-clause-answered c = λ rows made each id is same stack.
    let e = c.args.edits.now in
    let p = parts c.args.frame.now in
    let place = c.in-Some.head.now.place in
    let o = c.in-Some.ensures rows e.stacks (subst (AreHeads rows e.stacks) (sym c.as_slice.ensures) made.heads) in
    let r = row_in rows o.words each o.one in
    let f = subst (λ ss. PassesFrame p ss place r.row) (sym c.as_slice-in-Some.ensures) (of_frame p rows e.stacks c.args.words.now c.args.moment place id o r is same stack) in
    by_head_is p rows e.stacks c.args.words.now c.args.moment place c.by_head.result c.by_head.new.out o r (c.by_head.ensures.fate r.row f) (c.by_head.ensures.bytes r.row f)
