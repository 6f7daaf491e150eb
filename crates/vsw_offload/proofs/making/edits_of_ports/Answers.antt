use Rattle.std.proofs.Common.{◌≡◌, ◌<◌, ◌+◌, suc, ◌∷◌, ◌++◌, [], length, take, arith, subst, sym, ◌∙◌}
use Rattle.vsw_offload.proofs.Headed.{port_more}
use Rattle.vsw_offload.proofs.Remade.{ok_of, one_longer}
use Rattle.vsw_offload.specs.Private.Heading.{AllMade, AreMade}
use Rattle.vsw_offload.specs.declared.port_rows.PortRows.{PortRows}
use Rattle.vsw_offload.proofs.making.edits_of_ports.Goals as goal

pub loop-port-preserved : goal.loop-port-preserved
loop-port-preserved c =
    let n = c.loop-port.port-index in
    let more = c.in_ok-of_port.of_port in
    let grown : c.push.new.self ≡ c.loop-port.edits ++ more ∷ [] = ok_of c.push.result _ (sym c.if-is_err.false ∙ c.is_err.ensures.value) c.push.ensures.ok in
    let below : n < length c.args.ports.now = omega (arith, c.loop-port-test.true) in
    let next : n + 1 ≡ suc n = omega arith in
    let are : AreMade c.port-item.result.rows more = subst (λ rs. AreMade rs more) c.as_slice.ensures c.in_ok-of_port.ensures in
    let there = subst (λ (q : PortRows). AreMade q.rows more) c.port-item.is are in
    record {
      made = subst (λ m. AllMade (take (n + 1) c.args.ports.now) m) (sym grown) (subst (λ k. AllMade (take k c.args.ports.now) (c.loop-port.edits ++ more ∷ [])) (sym next) (port_more c.args.ports.now n c.port-item.result c.loop-port.edits more c.loop-port.invariant.long below c.loop-port.invariant.made there));
      long = one_longer c.loop-port.edits c.push.new.self more n grown c.loop-port.invariant.long;
    }
