use Rattle.std.proofs.Common.{subst, sym, ◌∙◌}
use Rattle.vsw_offload.proofs.Judged.{body_part}
use Rattle.vsw_offload.proofs.Remade.{body_at, body_said}
use Rattle.vsw_offload.specs.Private.Making.{EditsNone, IsPlaceOf}
use Rattle.vsw_offload.proofs.heads.head_of.Goals as goal

pub is_known-requires : goal.is_known-requires
is_known-requires c =
    let r = c.requires in
    (r.row.verdict, r.row.acts, r.row.until, body_said c.args.words.now c.in-Some-last_chunk.body.now r c.in-Some-last_chunk.ensures.cases.1.same)

pub returns : goal.returns
returns c = λ stacks made.
    let words = c.args.words.now in
    let body = body_at words c.in-Some-last_chunk.body.now c.requires.long c.in-Some-last_chunk.ensures.cases.1.same in
    record {
      key = sym c.in-Some.ensures.cases.same ∙ (c.is_bare.ensures c.if-not-is_bare.false ∙ sym c.head_with.ensures.key);
      pass = λ r says. c.is_known.ensures.pass c.if-not-is_known.false r.verdict r.acts r.until (says.body, body ∙ body_part words r says);
      until = λ r says. sym (c.until_in.ensures r.verdict r.acts r.until (says.body, body ∙ body_part words r says)) ∙ sym c.head_with.ensures.until;
      none = λ e. subst EditsNone body (c.is_known.ensures.none c.if-not-is_known.false (sym c.head_with.ensures.place ∙ e));
      made = subst (IsPlaceOf words stacks) (sym c.head_with.ensures.place) made;
    }
