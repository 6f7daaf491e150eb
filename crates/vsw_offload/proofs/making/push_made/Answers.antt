use Rattle.std.proofs.Common.{List, ℕ, length, subst, sym, ◌∙◌}
use Rattle.vsw_base.specs.declared.fate.Verdict.TheVariants.{Pass}
use Rattle.vsw_offload.proofs.Remade.{body_at, body_said, needs, placed}
use Rattle.vsw_words.specs.Doing.{AreOf}
use Rattle.vsw_offload.proofs.making.push_made.Goals as goal

pub is_edit-requires : goal.is_edit-requires
is_edit-requires c =
    let r = c.requires in
    (r.row.verdict, r.row.acts, r.row.until, body_said c.args.words.now c.in-Some-last_chunk.body.now r c.in-Some-last_chunk.ensures.cases.1.same)

pub push_pass-requires : goal.push_pass-requires
push_pass-requires c =
    let r = c.requires in
    let back = c.in-Some-last_chunk.ensures.cases.1.same in
    let said = body_said c.args.words.now c.in-Some-last_chunk.body.now r back in
    needs c.args.words.now c.in-Some.key.now c.in-Some-last_chunk.body.now r c.in-Some.ensures.cases.same back (sym (c.is_edit.ensures c.if-not-is_edit.false r.row.verdict r.row.acts r.row.until said))

pub returns-clause-place : goal.returns-clause-place
returns-clause-place c =
    let body = body_at c.args.words.now c.in-Some-last_chunk.body.now c.requires.long c.in-Some-last_chunk.ensures.cases.1.same in
    let (made, grown, is) = c.in_ok-push_pass.ensures in
    let (within, at) = placed c.args.stacks.now c.push_pass.new.stacks made c.in-Some-place_behind.place grown (c.in-Some-place_behind.ensures ∙ (λ z. length (c.as_slice.ensures z))) in
    (within, λ id by until of key are. at ∙ is id by until of (c.in-Some.ensures.cases.same ∙ key) (subst (λ (b : List ℕ). AreOf b Pass by until) (sym body) are))
