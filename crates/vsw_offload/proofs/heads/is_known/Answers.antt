use Rattle.std.proofs.Common.{subst, sym, ◌∙◌}
use Rattle.vsw_base.specs.declared.fate.Verdict.{Verdict}
use Rattle.vsw_words.specs.Doing.{AreOf}
use Rattle.vsw_offload.proofs.heads.is_known.Goals as goal

pub is_own-requires : goal.is_own-requires
is_own-requires c =
    let (v, by, until, are) = c.requires in
    (by, until, subst (λ (w : Verdict). AreOf c.args.body.now w by until) (sym (c.verdict_in.ensures v by until are) ∙ c.in-Pass.is) are)
