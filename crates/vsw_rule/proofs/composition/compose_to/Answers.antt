use Rattle.std.proofs.Common.{◌∙◌, ap, List}
use Rattle.vsw_transpose.specs.declared.act.Act.{Act}
use Rattle.vsw_transpose.specs.Apply.{apply}
use Rattle.vsw_transpose.specs.Fits.{outer, fits, kept}
use Rattle.vsw_transpose.proofs.Kept.{fits_parts}
use Rattle.vsw_rule.proofs.Alike.{joined_alike}
use Rattle.vsw_rule.proofs.Composed.{composed_of, both_joined}
use Rattle.vsw_rule.proofs.composition.compose_to.Goals as goal

pub rewrite-requires : goal.rewrite-requires
rewrite-requires c =
    let k = composed_of c.acts.ensures.all c.acts.ensures.form c.acts-2.ensures.all c.acts-2.ensures.form c.headers.ensures.all c.headers.ensures.shape c.requires.first c.requires.second in
    record { ready = rw (c.acts.ensures.all, c.acts-2.ensures.all) k.room; form = rw (c.acts.ensures.all, c.acts-2.ensures.all) k.form }

pub returns-clause-law : goal.returns-clause-law
returns-clause-law c hs e =
    ap (λ (l : List Act). apply l hs) (c.rewrite.ensures ∙ both_joined c.acts.ensures.all c.acts-2.ensures.all)
    ∙ joined_alike (outer c.args.shape.now) c.args.first.now c.args.second.now c.args.shape.now hs e (fits_parts c.args.first.now c.args.shape.now c.requires.first).0

pub returns-clause-fits : goal.returns-clause-fits
returns-clause-fits c =
    let k = composed_of c.acts.ensures.all c.acts.ensures.form c.acts-2.ensures.all c.acts-2.ensures.form c.headers.ensures.all c.headers.ensures.shape c.requires.first c.requires.second in
    ap (λ (l : List Act). fits l c.args.shape.now) (c.rewrite.ensures ∙ both_joined c.acts.ensures.all c.acts-2.ensures.all) ∙ k.fit

pub returns-clause-kept : goal.returns-clause-kept
returns-clause-kept c =
    let k = composed_of c.acts.ensures.all c.acts.ensures.form c.acts-2.ensures.all c.acts-2.ensures.form c.headers.ensures.all c.headers.ensures.shape c.requires.first c.requires.second in
    ap kept (c.rewrite.ensures ∙ both_joined c.acts.ensures.all c.acts-2.ensures.all) ∙ k.kept_both
