use Rattle.std.proofs.Common.{sym, subst, Some, ◌∙◌, arith}
use Rattle.vsw_check.proofs.Cuts.{goes_on, stops}
use Rattle.vsw_check.proofs.Builds.{carried, taken, end_reads}
use Rattle.vsw_check.specs.Private.Built.{Takes}
use Rattle.vsw_check.proofs.report.behind_head.Goals as goal

pub returns-in_default : goal.returns-in_default
returns-in_default c =
    end_reads c.loop-line.place c.loop-line.built c.loop-line.number c.loop-line.rest.now c.args.bytes.now c.finish.result c.in_default.ensures c.loop-line.invariant.3 c.loop-line.invariant.0 c.finish.ensures

pub returns-in-Ok-None : goal.returns-in-Ok-None
returns-in-Ok-None c =
    sym c.loop-line.invariant.0 ∙ stops c.loop-line.place c.loop-line.number c.loop-line.rest.now c.in-Some.line.now c.in-Some.more.now c.in-Some.ensures (sym (subst (λ o. Takes c.loop-line.place c.loop-line.built c.take.new.built c.in-Some.line.now o) c.in-Ok-None.field-0-is c.in-Ok-None.ensures))

pub loop-line-preserved : goal.loop-line-preserved
loop-line-preserved c =
    let t : Takes c.loop-line.place c.loop-line.built c.take.new.built c.in-Some.line.now (Some c.in-Ok-Some.there) = subst (λ o. Takes c.loop-line.place c.loop-line.built c.take.new.built c.in-Some.line.now o) c.in-Ok-Some.field-0-is c.in-Ok-Some.ensures in
    let k = carried c.loop-line.place c.in-Ok-Some.there c.loop-line.built c.take.new.built c.loop-line.rest.now c.in-Some.line.now c.in-Some.more.now c.args.bytes.now c.in-Some.ensures t c.loop-line.invariant.2 c.loop-line.invariant.3 in (
      sym (goes_on c.loop-line.place c.in-Ok-Some.there c.loop-line.number c.loop-line.rest.now c.in-Some.line.now c.in-Some.more.now c.in-Some.ensures (taken c.loop-line.place c.in-Ok-Some.there c.loop-line.built c.take.new.built c.in-Some.line.now t)) ∙ c.loop-line.invariant.0,
      omega (arith, c.loop-line.invariant.1, c.in-Some.ensures.1),
      k.0,
      k.1,
    )
