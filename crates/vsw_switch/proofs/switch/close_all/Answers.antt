use Rattle.std.proofs.Common.{◌≡◌, ◌<◌, ◌||◌, length, length-set, ap, sym, ◌∙◌, arith}
use Rattle.vsw_report.specs.Whole.{whole_text}
use Rattle.vsw_switch.specs.Stay.{standing}
use Rattle.vsw_switch.proofs.Closed.{closed_all, closed_next}
use Rattle.vsw_switch.proofs.Places.{set_same}
use Rattle.vsw_switch.proofs.switch.close_all.Goals.{then-short, else-short}
use Rattle.vsw_switch.proofs.switch.close_all.Goals as goal

pub returns-in_err-told-clause-stays : goal.returns-in_err-told-clause-stays
returns-in_err-told-clause-stays c = set_same standing c.loop-place.ports.items c.loop-place.place c.index_mut-port.result.now c.close.new.self c.index_mut-port.ensures.value c.close.ensures.stays ∙ c.loop-place.invariant.stays

pub loop-place-preserved : goal.loop-place-preserved
loop-place-preserved c =
    let ps = c.args.ports.now.items in
    let place : c.loop-place.place < length ps = omega (arith, c.loop-place-test.true, c.loop-place.auto.place-end, c.len-place-end.ensures, c.args.ports.now.ok.0) in
    let is : (c.loop-place.short || c.in_ok-told.told) ≡ c.if-short.short = elim c.if-short.branch [ then-short w ↦ ap (λ b. b || c.in_ok-told.told) w.if-short.true ∙ (sym w.if-short.true ∙ sym w.short-is) | else-short w ↦ ap (λ b. b || c.in_ok-told.told) w.if-short.false ∙ sym w.short-is ] in
    record {
      so_far = λ counted. closed_next c.loop-place.place ps c.loop-place.ports.items c.index_mut-port.result.now c.close.new.self (whole_text c.args.out.now) (whole_text c.loop-place.out) (whole_text c.close.new.out) c.loop-place.short c.in_ok-told.told c.if-short.short place c.index_mut-port.ensures.value is
          c.in_ok-told.ensures.text c.in_ok-told.ensures.short c.in_ok-told.ensures.begun counted (c.loop-place.invariant.so_far counted);
      stays = set_same standing c.loop-place.ports.items c.loop-place.place c.index_mut-port.result.now c.close.new.self c.index_mut-port.ensures.value c.close.ensures.stays ∙ c.loop-place.invariant.stays;
      count = length-set _ _ _ ∙ c.loop-place.invariant.count;
    }

pub returns-clause-text : goal.returns-clause-text
returns-clause-text c counted = (closed_all c.loop-place.place c.args.ports.now.items c.loop-place.ports.items (whole_text c.args.out.now) (whole_text c.loop-place.out) c.loop-place.short (omega (arith, c.loop-place-test.false, c.loop-place.auto.place-end, c.len-place-end.ensures, c.args.ports.now.ok.0)) (c.loop-place.invariant.so_far counted)).text

pub returns-clause-short : goal.returns-clause-short
returns-clause-short c counted = (closed_all c.loop-place.place c.args.ports.now.items c.loop-place.ports.items (whole_text c.args.out.now) (whole_text c.loop-place.out) c.loop-place.short (omega (arith, c.loop-place-test.false, c.loop-place.auto.place-end, c.len-place-end.ensures, c.args.ports.now.ok.0)) (c.loop-place.invariant.so_far counted)).short_is

pub returns-clause-begun : goal.returns-clause-begun
returns-clause-begun c counted = (closed_all c.loop-place.place c.args.ports.now.items c.loop-place.ports.items (whole_text c.args.out.now) (whole_text c.loop-place.out) c.loop-place.short (omega (arith, c.loop-place-test.false, c.loop-place.auto.place-end, c.len-place-end.ensures, c.args.ports.now.ok.0)) (c.loop-place.invariant.so_far counted)).begun_are
