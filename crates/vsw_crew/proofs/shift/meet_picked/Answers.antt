use Rattle.std.proofs.Common.{◌≡◌, ◌∙◌, ◌≤◌, ap, length, arith}
use Rattle.vsw_harbour.specs.Harbour.{HarbourSeen, callers}
use Rattle.vsw_harbour.specs.Standing.{no_calls}
use Rattle.vsw_harbour.proofs.Gathering.{docks_are}
use Rattle.vsw_harbour.proofs.Held.{as_many}
use Rattle.vsw_crew.specs.Private.Shifting.{needs_of}
use Rattle.vsw_crew.proofs.Giving.{needs_many}
use Rattle.vsw_crew.proofs.Meets.{lanes_of, met_back}
use Rattle.vsw_crew.proofs.shift.meet_picked.Goals as goal

pub needs-requires-clause-within : goal.needs-requires-clause-within
needs-requires-clause-within g c = omega (arith, c.requires.within, c.len.ensures, c.requires.size, as_many c.args.rows.now.items)

pub meet_all-requires-clause-lanes : goal.meet_all-requires-clause-lanes
meet_all-requires-clause-lanes g c =
    let h : HarbourSeen = c.args.harbour.now in
    lanes_of h c.deref.result.now c.requires.stand.0 (no_calls h.docks) c.args.rows.now.items c.as_mut_slice.result.now (docks_are _ h c.deref.result.now c.harbour.view_is c.deref.ensures.value) c.as_mut_slice.ensures.value c.requires.stand.1

pub meet_all-requires-clause-needs : goal.meet_all-requires-clause-needs
meet_all-requires-clause-needs g c =
    let h : HarbourSeen = c.args.harbour.now in
    let within : length c.args.picks.now ≤ c.len.result = omega (arith, c.requires.within, c.len.ensures, c.requires.size, as_many c.args.rows.now.items) in
    let needs : length c.deref-2.result.now ≡ c.len.result = ap length c.deref-2.ensures.value ∙ (ap length c.in_ok-needs.ensures ∙ needs_many c.args.picks.now c.len.result within) in
    needs ∙ omega (arith, c.len.ensures, ap length c.as_mut_slice.ensures.value)

pub returns : goal.returns
returns g c =
    let h : HarbourSeen = c.args.harbour.now in
    let len : c.len.result ≡ callers h = omega (arith, c.len.ensures, c.requires.size, as_many c.args.rows.now.items) in
    let needs : c.deref-2.result.now ≡ needs_of c.args.picks.now (callers h) = c.deref-2.ensures.value ∙ (c.in_ok-needs.ensures ∙ ap (needs_of c.args.picks.now) len) in
    record {
      met = met_back h c.deref.result.now c.deref-2.result.now (needs_of c.args.picks.now (callers h)) c.args.rows.now.len c.args.rows.now.items c.as_mut_slice.result.now c.meet_all.new.rows (docks_are _ h c.deref.result.now c.harbour.view_is c.deref.ensures.value) needs c.as_mut_slice.ensures.value
          c.args.rows.now.ok.0 c.meet_all.auto.rows c.in_ok-meet_all.ensures.meet;
    }
