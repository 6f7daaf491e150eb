use Rattle.std.proofs.Common.{◌+◌, subst, refl, arith}
use Rattle.std.specs.Arc.{arc_value}
use Rattle.vsw_harbour.specs.Docks.{pass_in}
use Rattle.vsw_harbour.specs.Lanes.{fronts_of}
use Rattle.vsw_crew.specs.Shares.{GoesOn, IsCarried, ShareSeen}
use Rattle.vsw_crew.proofs.Carrying.{carried_all, goes_on, gone_on, its_jobs, may_go_on, still_a_share}
use Rattle.vsw_crew.proofs.share.carry_piece.Goals as goal

pub carry_on-requires : goal.carry_on-requires
carry_on-requires g c =
    let s : ShareSeen = record { number = c.share.inside.number; docks = c.share.inside.docks.now; histories = fronts_of pass_in c.share.inside.row.items; row = c.share.inside.row.items; packets = arc_value c.share.inside.packets; first = c.share.inside.first; picks = c.share.inside.picks.items; next = c.share.inside.next } in
    record { halfway = may_go_on s c.in-Ok.jobs.items refl c.share.invariant (its_jobs s c.in-Ok.jobs.items c.deref.result.now c.as_slice.result.now c.deref.ensures c.as_slice.ensures.value c.share.invariant c.in-Ok.ensures.jobs c.in-Ok.ensures.work) }

pub invariant_of-result : goal.invariant_of-result
invariant_of-result g c =
    let s : ShareSeen = record { number = c.share.inside.number; docks = c.share.inside.docks.now; histories = fronts_of pass_in c.share.inside.row.items; row = c.share.inside.row.items; packets = arc_value c.share.inside.packets; first = c.share.inside.first; picks = c.share.inside.picks.items; next = c.share.inside.next } in
    let a = its_jobs s c.in-Ok.jobs.items c.deref.result.now c.as_slice.result.now c.deref.ensures c.as_slice.ensures.value c.share.invariant c.in-Ok.ensures.jobs c.in-Ok.ensures.work in
    still_a_share s c.in-Ok.jobs.items c.in-Ok-carry_on.row.items (s.next + 128) refl c.share.invariant a (omega (arith, c.if-len-next.true, c.len.ensures, c.share.inside.picks.ok.0)) c.in-Ok-carry_on.ensures.fit c.in-Ok-carry_on.ensures.done

pub returns-then-len-next : goal.returns-then-len-next
returns-then-len-next g c =
    let s : ShareSeen = record { number = c.share.inside.number; docks = c.share.inside.docks.now; histories = fronts_of pass_in c.share.inside.row.items; row = c.share.inside.row.items; packets = arc_value c.share.inside.packets; first = c.share.inside.first; picks = c.share.inside.picks.items; next = c.share.inside.next } in
    subst (λ (w : ShareSeen). GoesOn w (gone_on s c.in-Ok-carry_on.row.items (s.next + 128))) c.share.view_is (goes_on s c.in-Ok.jobs.items c.in-Ok-carry_on.row.items (s.next + 128) refl c.in-Ok-carry_on.ensures.done)

pub returns : goal.returns
returns g c =
    let s : ShareSeen = record { number = c.share.inside.number; docks = c.share.inside.docks.now; histories = fronts_of pass_in c.share.inside.row.items; row = c.share.inside.row.items; packets = arc_value c.share.inside.packets; first = c.share.inside.first; picks = c.share.inside.picks.items; next = c.share.inside.next } in
    let a = its_jobs s c.in-Ok.jobs.items c.deref.result.now c.as_slice.result.now c.deref.ensures c.as_slice.ensures.value c.share.invariant c.in-Ok.ensures.jobs c.in-Ok.ensures.work in
    subst (λ (w : ShareSeen). IsCarried w c.in-Ok-carry_on.row.items) c.share.view_is (carried_all s c.in-Ok.jobs.items c.in-Ok-carry_on.row.items (s.next + 128) refl a (omega (arith, c.if-len-next.false, c.len.ensures, c.share.inside.picks.ok.0)) c.in-Ok-carry_on.ensures.fit c.in-Ok-carry_on.ensures.done)
