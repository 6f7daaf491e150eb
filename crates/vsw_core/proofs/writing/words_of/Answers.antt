use Rattle.std.proofs.Common.{◌≡◌, true, subst}
use Rattle.vsw_base.specs.Shape.{is_stack}
use Rattle.vsw_core.proofs.Walked.{row_said}
use Rattle.vsw_core.proofs.writing.words_of.Goals as goal

pub returns : goal.returns
returns c = record {
  row = row_said c.args.crossing.now c.args.walked.now c.args.scratch.now c.acts_of.new.out c.row_of.new.out c.requires.control c.requires.pair (subst (λ hs. is_stack hs ≡ true) c.headers.ensures.all c.headers.ensures.shape) c.row_of.ensures.fit c.row_of.ensures.body
      (record { bare = c.acts_of.ensures.bare; fits = c.acts_of.ensures.fits; stack = c.acts_of.ensures.stack; kept = c.acts_of.ensures.kept }) c.row_of.ensures.words;
}
