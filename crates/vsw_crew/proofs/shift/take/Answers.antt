use Rattle.vsw_harbour.specs.Harbour.{HarbourSeen}
use Rattle.vsw_harbour.proofs.Gathering.{harbour_is}
use Rattle.vsw_crew.proofs.Incoming.{ok_map}
use Rattle.vsw_crew.proofs.shift.take.Goals as goal

pub end_round-requires-clause-harbour : goal.end_round-requires-clause-harbour
end_round-requires-clause-harbour g c =
    let h : HarbourSeen = c.args.harbour.now in
    (_, _, _, _, harbour_is _ h _ _ _ _ c.harbour.view_is c.harbour.invariant)

pub end_round-requires-clause-out : goal.end_round-requires-clause-out
end_round-requires-clause-out g c =
    let o = c.requires.out in
    (o.0, o.1, o.2, o.3, c.args.pool.now, o.4, c.in_ok-tolds.ensures.told)

pub returns-clause-worked : goal.returns-clause-worked
returns-clause-worked g c = ok_map c.end_round.result (λ w does. does c.args.pool.now c.in_ok-tolds.ensures.told) c.end_round.ensures.worked
