use Rattle.std.proofs.Common.{ap}
use Rattle.vsw_harbour.specs.Harbour.{HarbourSeen}
use Rattle.vsw_harbour.proofs.Gathering.{harbour_is}
use Rattle.vsw_crew.proofs.Picking.{is_picked}
use Rattle.vsw_crew.proofs.picked.pick_for.Goals as goal

pub returns : goal.returns
returns g c =
    let h : HarbourSeen = c.args.harbour.now in
    is_picked h _ _ _ _ _ _ c.args.first _ c.args.packets c.in_ok-picks.picks c.deal_picks.new.loose c.new-loose.result.items (harbour_is _ h _ _ _ _ c.harbour.view_is c.harbour.invariant) c.as_slice.ensures (ap (λ (w : HarbourSeen). w.workers) c.harbour.view_is) c.deref.ensures c.requires.numbers c.new-loose.ensures.items
    c.in_ok-picks.ensures.dealt c.in_ok-picks.ensures.size c.in_ok-picks.ensures.fit c.in_ok-picks.ensures.few c.in_ok-picks.ensures.loose
