use Rattle.std.proofs.Common.{◌∙◌, ap, sym, cond, Some, Option, ℕ, option_copied}
use Rattle.vsw_layerflow.specs.declared.pair.Probe.{Probe}
use Rattle.vsw_layerflow.specs.Pairs.{same_probe, back}
use Rattle.vsw_layerflow.proofs.Replaced.{led_both, led_none, led_some}
use Rattle.vsw_layerflow.proofs.maps.lead_over.Goals as goal

pub returns-then-pair-number-clause-place : goal.returns-then-pair-number-clause-place
returns-then-pair-number-clause-place c =
    let p = c.args.pair.now in
    let j = rw c.turned.ensures at c.lead-back.ensures.place in
    let u = λ (k : Probe). j k ∙ ap (λ (o : Option ℕ). cond (same_probe (back p) k) (Some p.number) o) (c.lead-front.ensures.place k) in
    let b = rw c.turned.ensures at c.lead-back.ensures.before in
    led_both c.args.number p c.args.pairs.now.entries c.args.places.now.entries _ c.requires.index c.if-pair-number.true (c.lead-front.ensures.before c.if-front.true) (sym (c.lead-front.ensures.place (back p)) ∙ b c.if-back.true) u

pub returns-in-Some-clause-place : goal.returns-in-Some-clause-place
returns-in-Some-clause-place c =
    let p = c.args.pair.now in
    let j = rw c.turned.ensures at c.lead-back.ensures.place in
    let u = λ (k : Probe). j k ∙ ap (λ (o : Option ℕ). cond (same_probe (back p) k) (Some p.number) o) (c.lead-front.ensures.place k) in
    led_some c.args.number p c.in-Some.left.now c.args.pairs.now.entries c.args.places.now.entries _ _ c.requires.index (sym (ap option_copied c.in-Some.is) ∙ c.get.ensures.value) u c.take_others.ensures.place

pub returns-in_default-clause-place : goal.returns-in_default-clause-place
returns-in_default-clause-place c =
    let p = c.args.pair.now in
    let j = rw c.turned.ensures at c.lead-back.ensures.place in
    let u = λ (k : Probe). j k ∙ ap (λ (o : Option ℕ). cond (same_probe (back p) k) (Some p.number) o) (c.lead-front.ensures.place k) in
    led_none c.args.number p c.args.pairs.now.entries c.args.places.now.entries _ c.requires.index (sym (ap option_copied c.in_default.is) ∙ c.get.ensures.value) u
