use Rattle.std.proofs.Common.{◌≡◌, ◌≤◌, length, subst, sym, true}
use Rattle.vsw_base.specs.Shape.{is_stack}
use Rattle.vsw_transpose.specs.Form.{is_form}
use Rattle.vsw_words.specs.Reading.{AreRanged}
use Rattle.vsw_words.specs.Row.{all_halves}
use Rattle.vsw_words.proofs.Halves.{body_fits}
use Rattle.vsw_words.proofs.Written.{acts_fit}
use Rattle.vsw_words.proofs.row.row_of.Goals as goal

pub write_row-requires-clause-few : goal.write_row-requires-clause-few
write_row-requires-clause-few c =
    subst (λ xs. length (all_halves xs) ≤ 18) (sym c.acts.ensures.all) (body_fits c.args.verdict.now c.args.by.now c.args.id.now.stack (subst (λ hs. is_stack hs ≡ true) c.headers.ensures.all c.headers.ensures.shape) c.requires.bare c.requires.fits).0

pub returns-clause-body : goal.returns-clause-body
returns-clause-body c =
    let form : is_form c.args.by.now ≡ true = subst (λ xs. is_form xs ≡ true) c.acts.ensures.all c.acts.ensures.form in
    let ranges : AreRanged c.args.by.now = subst AreRanged c.acts.ensures.all c.write_row.ensures.ranges in
    let row = body_fits c.args.verdict.now c.args.by.now c.args.id.now.stack (subst (λ hs. is_stack hs ≡ true) c.headers.ensures.all c.headers.ensures.shape) c.requires.bare c.requires.fits in
    record { form = form; bare = c.requires.bare; acts = acts_fit c.args.by.now form ranges; numbers = c.write_row.ensures.numbers; few = row.0; apart = row.1 }
