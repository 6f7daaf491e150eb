use Rattle.std.proofs.Common.{◌≡◌, ◌<◌, ◌+◌, suc, length, take, arith, subst, sym, ◌∙◌}
use Rattle.vsw_offload.proofs.Noted.{all_still, each_more}
use Rattle.vsw_offload.specs.Private.Noting.{AllNoted, AreNoted}
use Rattle.vsw_offload.specs.declared.port_rows.PortRows.{PortRows}
use Rattle.vsw_offload.proofs.guesses.Guesses.of.Goals as goal

pub loop-port-preserved : goal.loop-port-preserved
loop-port-preserved c =
    let n = c.loop-port.port-index in
    let ports = c.args.ports.now in
    let places = c.note_all.new.places.items in
    let below : n < length ports = omega (arith, c.loop-port-test.true) in
    let next : n + 1 ≡ suc n = omega arith in
    let here : AreNoted places c.slots_for-slots.result c.port-item.result.rows = subst (AreNoted places c.slots_for-slots.result) c.as_slice.ensures c.note_all.ensures.noted in
    let there = subst (λ (q : PortRows). AreNoted places c.slots_for-slots.result q.rows) c.port-item.is here in
    record {
      noted = subst (λ k. AllNoted places c.slots_for-slots.result (take k ports)) (sym next) (each_more (λ (p : PortRows). AreNoted places c.slots_for-slots.result p.rows) ports n c.port-item.result below (all_still c.loop-port.places.items places c.slots_for-slots.result (take n ports) c.note_all.ensures.kept c.loop-port.invariant.noted) there);
      long = c.note_all.ensures.long ∙ c.loop-port.invariant.long;
    }
