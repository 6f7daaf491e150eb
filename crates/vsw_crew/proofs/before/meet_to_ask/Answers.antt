use Rattle.std.proofs.Common.{◌∙◌}
use Rattle.vsw_harbour.specs.HarbourOpening.{rows_in}
use Rattle.vsw_harbour.specs.Harbour.{HarbourSeen}
use Rattle.vsw_harbour.specs.Standing.{no_calls}
use Rattle.vsw_harbour.proofs.Gathering.{docks_are, harbour_is}
use Rattle.vsw_crew.proofs.Asking.{has_asked, may_begin}
use Rattle.vsw_crew.proofs.Meets.{asks_all, lanes_at, met_at}
use Rattle.vsw_crew.proofs.before.meet_to_ask.Goals as goal

pub meet_all-requires-clause-lanes : goal.meet_all-requires-clause-lanes
meet_all-requires-clause-lanes g c =
    let h : HarbourSeen = c.args.harbour.now in
    lanes_at h c.deref.result.now c.requires.ready.0 (no_calls h.docks) (rows_in c.args.rows.now) (docks_are _ h c.deref.result.now c.harbour.view_is c.deref.ensures.value) c.requires.ready.1.stand

pub meet_all-requires-clause-needs : goal.meet_all-requires-clause-needs
meet_all-requires-clause-needs g c =
    let h : HarbourSeen = c.args.harbour.now in
    let i = harbour_is _ h _ _ _ _ c.harbour.view_is c.harbour.invariant in
    asks_all h c.deref-2.result.now c.args.rows.now (c.deref-2.ensures.value ∙ i.asks_are) c.requires.ready.1.size

pub ask_before-requires-clause-may : goal.ask_before-requires-clause-may
ask_before-requires-clause-may g c =
    let h : HarbourSeen = c.args.harbour.now in
    let i = harbour_is _ h _ _ _ _ c.harbour.view_is c.harbour.invariant in
    may_begin h c.deref-2.result.now c.requires.ready.0 (rows_in c.args.rows.now) (rows_in c.meet_all.new.rows) (c.deref-2.ensures.value ∙ i.asks_are) c.requires.ready.1
    (met_at h c.deref.result.now c.deref-2.result.now (rows_in c.args.rows.now) (rows_in c.meet_all.new.rows) (docks_are _ h c.deref.result.now c.harbour.view_is c.deref.ensures.value) c.in_ok-meet_all.ensures.meet)

pub returns : goal.returns
returns g c =
    let h : HarbourSeen = c.args.harbour.now in
    let i = harbour_is _ h _ _ _ _ c.harbour.view_is c.harbour.invariant in
    record {
      asked = has_asked h _ _ _ _ c.deref-2.result.now c.args.schedule.now c.args.first (rows_in c.args.rows.now) (rows_in c.meet_all.new.rows) (rows_in c.ask_before.new.rows) i
          (met_at h c.deref.result.now c.deref-2.result.now (rows_in c.args.rows.now) (rows_in c.meet_all.new.rows) (docks_are _ h c.deref.result.now c.harbour.view_is c.deref.ensures.value) c.in_ok-meet_all.ensures.meet)
          c.in_ok-ask_before.ensures.turned c.in_ok-ask_before.ensures.may;
    }
