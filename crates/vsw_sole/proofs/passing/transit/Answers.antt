use Rattle.std.proofs.Common.{ap, sym, ◌∙◌, refl}
use Rattle.vsw_base.specs.Shape.{is_stack}
use Rattle.vsw_frame.specs.Frame.{parts}
use Rattle.vsw_sole.specs.Sole.{layers_of}
use Rattle.vsw_answer.proofs.Passes.{can_leave, lent, passage, short_enough, shows, unedited}
use Rattle.vsw_sole.proofs.passing.transit.Goals as goal

pub leave-requires : goal.leave-requires
leave-requires c = record {
  can = can_leave (layers_of c.args.port.now) (layers_of c.cross-outcome.new.self) c.args.crossing.now (parts c.args.frame.now) c.edited.result.now c.cross-outcome.result.kept c.cross-outcome.result.fate c.cross-outcome.result.entry
      c.cross-outcome.ensures.exact (lent (layers_of c.args.port.now) c.args.crossing.now c.cross-outcome.new.self.edited c.edited.result.now c.cross-outcome.result.kept c.cross-outcome.result.fate c.edited.ensures c.cross-outcome.ensures.edits) (ap is_stack (sym c.headers.ensures.all) ∙ c.headers.ensures.shape) c.requires.of.stack c.requires.of.sizes;
  own = unedited c.args.crossing.now (parts c.args.frame.now) c.cross-outcome.new.self.edited c.edited.result.now c.cross-outcome.result.kept c.cross-outcome.result.own c.edited.ensures c.requires.of.stack c.cross-outcome.ensures.own;
}

pub returns-clause-next : goal.returns-clause-next
returns-clause-next c = record {
  last = refl;
  done = c.cross-outcome.ensures.done (parts c.args.frame.now) _;
  shows = shows (layers_of c.args.port.now) (layers_of c.cross-outcome.new.self) c.args.crossing.now (parts c.args.frame.now) c.edited.result.now c.cross-outcome.result.kept c.cross-outcome.result.fate c.cross-outcome.result.entry c.cross-outcome.result.own c.leave.new.room
      c.cross-outcome.ensures.exact (lent (layers_of c.args.port.now) c.args.crossing.now c.cross-outcome.new.self.edited c.edited.result.now c.cross-outcome.result.kept c.cross-outcome.result.fate c.edited.ensures c.cross-outcome.ensures.edits) (ap is_stack (sym c.headers.ensures.all) ∙ c.headers.ensures.shape) c.requires.of.stack c.requires.of.sizes c.leave.ensures.leaves;
}

pub returns-clause-exact : goal.returns-clause-exact
returns-clause-exact c =
    passage (layers_of c.args.port.now) (layers_of c.cross-outcome.new.self) c.args.crossing.now (parts c.args.frame.now) c.edited.result.now c.cross-outcome.result.kept c.cross-outcome.result.fate c.cross-outcome.result.entry c.cross-outcome.result.own c.leave.new.room
    c.cross-outcome.ensures.exact (lent (layers_of c.args.port.now) c.args.crossing.now c.cross-outcome.new.self.edited c.edited.result.now c.cross-outcome.result.kept c.cross-outcome.result.fate c.edited.ensures c.cross-outcome.ensures.edits) (ap is_stack (sym c.headers.ensures.all) ∙ c.headers.ensures.shape) c.requires.of.stack c.requires.of.sizes c.leave.ensures.leaves

pub returns-clause-len : goal.returns-clause-len
returns-clause-len c =
    short_enough (layers_of c.args.port.now) (layers_of c.cross-outcome.new.self) c.args.crossing.now (parts c.args.frame.now) c.edited.result.now c.cross-outcome.result.kept c.cross-outcome.result.fate c.cross-outcome.result.entry c.cross-outcome.result.own c.leave.new.room
    c.cross-outcome.ensures.exact (lent (layers_of c.args.port.now) c.args.crossing.now c.cross-outcome.new.self.edited c.edited.result.now c.cross-outcome.result.kept c.cross-outcome.result.fate c.edited.ensures c.cross-outcome.ensures.edits) (ap is_stack (sym c.headers.ensures.all) ∙ c.headers.ensures.shape) c.requires.of.stack c.requires.of.sizes c.leave.ensures.leaves
