use Rattle.std.proofs.Common.{◌∙◌, ◌==◌, ap, sym, subst, refl, true, false, length}
use Rattle.vsw_base.specs.Shape.{is_stack}
use Rattle.vsw_frame.specs.Frame.{parts}
use Rattle.vsw_port.specs.Calls.{Carried, Shows}
use Rattle.vsw_port.specs.Cross.{made_by, makes}
use Rattle.vsw_port.specs.Ledger.{layers_in}
use Rattle.vsw_answer.proofs.Passes.{can_leave, lent, short_enough, shows}
use Rattle.vsw_audit.specs.Private.Lines.{Judges}
use Rattle.vsw_audit.proofs.Carrying.{settled, short_read}
use Rattle.vsw_audit.proofs.carry.carry.Goals as goal

pub returns-then-pair-clause-judges : goal.returns-then-pair-clause-judges
returns-then-pair-clause-judges c =
    let x = c.args.rooms.now.crossing in
    let made = sym c.if-pair.true ∙ (c.makes_pair-pair.ensures ∙ ap (λ ls. makes (made_by ls x)) c.policy-then-is_short_read.ensures.layers) in
    short_read c.args.ledger.now.opening c.args.ledger.now.journal c.args.ledger.now.journal x (parts c.args.frame.now) c.args.fate c.args.bytes.now c.args.entry true c.is_empty.result (sym c.is_short_read.ensures ∙ c.if-is_short_read.true) made c.is_empty.ensures refl

pub returns-else-pair-clause-judges : goal.returns-else-pair-clause-judges
returns-else-pair-clause-judges c =
    let x = c.args.rooms.now.crossing in
    let h = c.args.ledger.now.journal in
    let made = sym c.if-pair.false ∙ (c.makes_pair-pair.ensures ∙ ap (λ ls. makes (made_by ls x)) c.policy-then-is_short_read.ensures.layers) in
    subst (λ b. Judges c.args.ledger.now.opening h (Carried x (parts c.args.frame.now) c.args.fate c.args.bytes.now) c.args.entry h b) (sym c.if-pair.false)
    (short_read c.args.ledger.now.opening h h x (parts c.args.frame.now) c.args.fate c.args.bytes.now c.args.entry false (length c.args.bytes.now == 0) (sym c.is_short_read.ensures ∙ c.if-is_short_read.true) made refl refl)

pub leave-requires-clause-can : goal.leave-requires-clause-can
leave-requires-clause-can c =
    let ls = layers_in c.args.ledger.now in
    let x = c.args.rooms.now.crossing in
    let r = c.settle-outcome.result in
    can_leave ls (layers_in c.settle-outcome.new.self) x (parts c.args.frame.now) c.stack.result.now r.kept r.fate r.entry c.settle-outcome.ensures.exact (lent ls x c.walk-walked.new.scratch.stack c.stack.result.now r.kept r.fate c.stack.ensures c.settle-outcome.ensures.edits) (ap is_stack (sym c.headers.ensures.all) ∙ c.headers.ensures.shape) c.requires.of.stack c.requires.of.sizes

pub bytes_of-own-requires : goal.bytes_of-own-requires
bytes_of-own-requires c =
    let ls = layers_in c.args.ledger.now in
    let x = c.args.rooms.now.crossing in
    let r = c.settle-outcome.result in
    record { len = short_enough ls (layers_in c.settle-outcome.new.self) x (parts c.args.frame.now) c.stack.result.now r.kept r.fate r.entry r.own c.leave.new.room c.settle-outcome.ensures.exact (lent ls x c.walk-walked.new.scratch.stack c.stack.result.now r.kept r.fate c.stack.ensures c.settle-outcome.ensures.edits) (ap is_stack (sym c.headers.ensures.all) ∙ c.headers.ensures.shape) c.requires.of.stack c.requires.of.sizes c.leave.ensures.leaves }

pub returns-clause-judges : goal.returns-clause-judges
returns-clause-judges c =
    let o = c.args.ledger.now.opening in
    let h = c.args.ledger.now.journal in
    let ls = layers_in c.args.ledger.now in
    let x = c.args.rooms.now.crossing in
    let p = parts c.args.frame.now in
    let r = c.settle-outcome.result in
    let told = shows ls (layers_in c.settle-outcome.new.self) x p c.stack.result.now r.kept r.fate r.entry r.own c.leave.new.room c.settle-outcome.ensures.exact (lent ls x c.walk-walked.new.scratch.stack c.stack.result.now r.kept r.fate c.stack.ensures c.settle-outcome.ensures.edits) (ap is_stack (sym c.headers.ensures.all) ∙ c.headers.ensures.shape) c.requires.of.stack c.requires.of.sizes c.leave.ensures.leaves in
    settled o h x p r.fate c.args.fate r.entry c.args.entry (layers_in c.settle-outcome.new.self) c.bytes_of-own.result.now c.args.bytes.now c.settle-outcome.new.self.journal c.is_told.result
    (record { exact = c.settle-outcome.ensures.exact; enough = sym c.is_wanting.ensures ∙ c.if-is_wanting.false; done = λ bytes. c.settle-outcome.ensures.done p bytes; shows = subst (Shows ls x p r.fate) (sym c.bytes_of-own.ensures) told; journal = c.settle-outcome.ensures.journal })
    (sym c.is_short_read.ensures ∙ c.if-is_short_read.false) c.is_told.ensures.told c.is_told.ensures.back
