use Rattle.std.proofs.Common.{◌≡◌, ap, refl, sym, ◌∙◌, subst, true}
use Rattle.vsw_base.specs.Shape.{is_stack}
use Rattle.vsw_base.specs.declared.flow.Crossing.{Crossing}
use Rattle.vsw_answer.specs.Transit.{CanLeave, IsUnedited, Leaves}
use Rattle.vsw_answer.proofs.Passes.{unedited}
use Rattle.vsw_live.proofs.Passing.{leave_can, leave_fits, leave_shows}
use Rattle.vsw_live.proofs.leaving.leave.Goals as goal

pub leave-requires : goal.leave-requires
leave-requires c =
    let u = c.args.unit.now in
    let shape : is_stack u.crossing.id.stack ≡ true = ap (λ (x : Crossing). is_stack x.id.stack) (sym c.crossing.ensures) ∙ (ap is_stack (sym c.headers.ensures.all) ∙ c.headers.ensures.shape) in
    let own : c.args.outcome.own ≡ true → IsUnedited u.parts c.args.edited.now c.args.outcome.kept = unedited u.crossing u.parts c.args.edited.now c.args.edited.now c.args.outcome.kept c.args.outcome.own refl c.frame.ensures.of.stack c.requires.own in
    record { own = subst (λ p. c.args.outcome.own ≡ true → IsUnedited p c.args.edited.now c.args.outcome.kept) (sym c.frame.ensures.frame) own; can = subst (λ p. CanLeave p c.args.edited.now c.args.outcome.kept c.args.outcome.fate) (sym c.frame.ensures.frame) (leave_can c.requires.answered.0 u.crossing u.parts c.args.edited.now c.args.outcome.kept c.args.outcome.fate shape c.frame.ensures.of c.requires.answered.1 c.requires.answered.2) }

pub returns-clause-shows : goal.returns-clause-shows
returns-clause-shows c = λ ls at edits.
    let u = c.args.unit.now in
    let shape : is_stack u.crossing.id.stack ≡ true = ap (λ (x : Crossing). is_stack x.id.stack) (sym c.crossing.ensures) ∙ (ap is_stack (sym c.headers.ensures.all) ∙ c.headers.ensures.shape) in
    leave_shows ls u.crossing u.parts c.args.edited.now c.args.outcome.kept c.args.outcome.own c.args.outcome.fate c.leave.new.room shape c.frame.ensures.of at edits (subst (λ p. Leaves p c.args.edited.now c.args.outcome.kept c.args.outcome.own c.args.outcome.fate c.leave.new.room) c.frame.ensures.frame c.leave.ensures.leaves)

pub returns-clause-fits : goal.returns-clause-fits
returns-clause-fits c =
    let u = c.args.unit.now in
    let shape : is_stack u.crossing.id.stack ≡ true = ap (λ (x : Crossing). is_stack x.id.stack) (sym c.crossing.ensures) ∙ (ap is_stack (sym c.headers.ensures.all) ∙ c.headers.ensures.shape) in
    leave_fits c.requires.answered.0 u.crossing u.parts c.args.edited.now c.args.outcome.kept c.args.outcome.own c.args.outcome.fate c.leave.new.room shape c.frame.ensures.of c.requires.answered.1 c.requires.answered.2 (subst (λ p. Leaves p c.args.edited.now c.args.outcome.kept c.args.outcome.own c.args.outcome.fate c.leave.new.room) c.frame.ensures.frame c.leave.ensures.leaves)
