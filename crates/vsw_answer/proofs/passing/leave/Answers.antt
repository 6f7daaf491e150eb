use Rattle.std.proofs.Common.{subst, sym}
use Rattle.vsw_frame.specs.Frame.{parts}
use Rattle.vsw_answer.specs.Transit.{Leaves}
use Rattle.vsw_answer.proofs.Passes.{own_left}
use Rattle.vsw_answer.proofs.passing.leave.Goals as goal

pub returns-then-outcome : goal.returns-then-outcome
returns-then-outcome c =
    let p = parts c.args.frame.now in
    let hs = c.args.edited.now in
    let o = c.args.outcome in
    let own = c.own_bytes.ensures in
    record { leaves = subst (λ b. Leaves p hs o.kept b o.fate c.args.room.now) (sym c.if-outcome.true) (own_left p hs o.kept o.fate c.own_bytes.result.now c.args.room.now (c.requires.own c.if-outcome.true) own.bytes own.own own.size own.short) }

pub returns : goal.returns
returns c = record { leaves = subst (λ b. Leaves (parts c.args.frame.now) c.args.edited.now c.args.outcome.kept b c.args.outcome.fate c.write.new.out.items) (sym c.if-outcome.false) c.write.ensures.leaves }
