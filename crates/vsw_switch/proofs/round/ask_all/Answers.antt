use Rattle.std.proofs.Common.{◌<◌, ◌+◌, List, length, take, sym, ◌∙◌, subst, arith}
use Rattle.vsw_commandfile.specs.declared.line.Line.{Line}
use Rattle.vsw_switch.specs.Switch.{AreServed, SwitchNow}
use Rattle.vsw_switch.proofs.Asking.{AsksOf, asks_not, asks_this, read_there}
use Rattle.vsw_switch.proofs.round.ask_all.Goals.{then-is_when+in_ok-ask, else-is_when}
use Rattle.vsw_switch.proofs.round.ask_all.Goals as goal

pub loop-place-preserved : goal.loop-place-preserved
loop-place-preserved c =
    let places = c.args.places.now in
    let i = c.loop-place.place-index in
    let lt : i < length places = omega (arith, c.loop-place-test.true, c.loop-place.auto.place-index-end) in
    let so_far : AsksOf c.args.during c.args.schedule.now c.args.switch.now (take (i + 1) places) c.if-is_when.switch = elim c.if-is_when.branch [
      | then-is_when+in_ok-ask w ↦ asks_this c.args.during c.args.schedule.now c.args.switch.now c.loop-place.switch c.if-is_when.switch w.ask.new.self places i _ c.line-line.result.now lt (read_there places i _ lt) c.line-line.ensures (sym c.is_when.ensures ∙ w.if-is_when.true) c.loop-place.invariant.so_far w.in_ok-ask.ensures.asks w.switch-is
      | else-is_when w ↦ asks_not c.args.during c.args.schedule.now c.args.switch.now c.loop-place.switch c.if-is_when.switch places i _ c.line-line.result.now lt (read_there places i _ lt) c.line-line.ensures (sym c.is_when.ensures ∙ w.if-is_when.false) c.loop-place.invariant.so_far w.switch-is
    ] in
    let served : (lines : List Line) → AreServed c.args.switch.now lines → AreServed c.if-is_when.switch lines = λ lines h. elim c.if-is_when.branch [
      | then-is_when+in_ok-ask w ↦ subst (λ (t : SwitchNow). AreServed t lines) (sym w.switch-is) (w.ask.ensures.served lines (c.loop-place.invariant.served lines h))
      | else-is_when w ↦ subst (λ (t : SwitchNow). AreServed t lines) (sym w.switch-is) (c.loop-place.invariant.served lines h)
    ] in
    record { so_far = so_far; served = served }
