use Rattle.std.proofs.Common.{◌∙◌}
use Rattle.vsw_harbour.specs.Harbour.{HarbourSeen, asks_of}
use Rattle.vsw_harbour.proofs.Gathering.{docks_are, harbour_is}
use Rattle.vsw_crew.proofs.Meets.{asks_slice, met_back}
use Rattle.vsw_crew.proofs.beside.meet_after.Goals as goal

pub meet_all-requires-clause-needs : goal.meet_all-requires-clause-needs
meet_all-requires-clause-needs g c =
    let h : HarbourSeen = c.args.harbour.now in
    let i = harbour_is _ h _ _ _ _ c.harbour.view_is c.harbour.invariant in
    asks_slice h c.deref-2.result.now c.args.rows.now.items c.as_mut_slice.result.now (c.deref-2.ensures.value ∙ i.asks_are) c.as_mut_slice.ensures.value c.requires.size

pub returns : goal.returns
returns g c =
    let h : HarbourSeen = c.args.harbour.now in
    let i = harbour_is _ h _ _ _ _ c.harbour.view_is c.harbour.invariant in
    record {
      met = met_back h c.deref.result.now c.deref-2.result.now (asks_of h) c.args.rows.now.len c.args.rows.now.items c.as_mut_slice.result.now c.meet_all.new.rows (docks_are _ h c.deref.result.now c.harbour.view_is c.deref.ensures.value) (c.deref-2.ensures.value ∙ i.asks_are) c.as_mut_slice.ensures.value
          c.args.rows.now.ok.0 c.meet_all.auto.rows c.in_ok-meet_all.ensures.meet;
    }
