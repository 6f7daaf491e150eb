use Rattle.std.proofs.Common.{◌≡◌, ◌∙◌, ◌≤◌, ℕ, ap, ap₂, length, arith}
use Rattle.vsw_harbour.specs.Harbour.{HarbourSeen, callers}
use Rattle.vsw_harbour.specs.Standing.{no_calls}
use Rattle.vsw_harbour.proofs.Gathering.{docks_are, harbour_is}
use Rattle.vsw_harbour.proofs.Held.{as_many}
use Rattle.vsw_crew.specs.Private.Flowing.{needs_for}
use Rattle.vsw_crew.proofs.Meets.{lanes_of, met_back}
use Rattle.vsw_crew.proofs.Outgoing.{needs_many}
use Rattle.vsw_crew.proofs.stream_shift.meet_for_most.Goals as goal

pub needs_most-requires : goal.needs_most-requires
needs_most-requires g c =
    let h : HarbourSeen = c.args.harbour.now in
    let i = harbour_is _ h _ _ _ _ c.harbour.view_is c.harbour.invariant in
    record { within = omega (arith, i.most, c.len.ensures, c.requires.size, as_many c.args.rows.now.items) }

pub meet_all-requires-clause-lanes : goal.meet_all-requires-clause-lanes
meet_all-requires-clause-lanes g c =
    let h : HarbourSeen = c.args.harbour.now in
    lanes_of h c.deref.result.now c.requires.stand.0 (no_calls h.docks) c.args.rows.now.items c.as_mut_slice.result.now (docks_are _ h c.deref.result.now c.harbour.view_is c.deref.ensures.value) c.as_mut_slice.ensures.value c.requires.stand.1

pub meet_all-requires-clause-needs : goal.meet_all-requires-clause-needs
meet_all-requires-clause-needs g c =
    let h : HarbourSeen = c.args.harbour.now in
    let i = harbour_is _ h _ _ _ _ c.harbour.view_is c.harbour.invariant in
    let within : h.workers ≤ c.len.result = omega (arith, i.most, c.len.ensures, c.requires.size, as_many c.args.rows.now.items) in
    let workers : c.harbour.inside.workers ≡ h.workers = ap (λ (w : HarbourSeen). w.workers) c.harbour.view_is in
    let needs : length c.deref-2.result.now ≡ c.len.result = ap length c.deref-2.ensures.value ∙ (ap length c.in_ok-needs.ensures ∙ (ap (λ (n : ℕ). length (needs_for n c.args.most c.len.result)) workers ∙ needs_many h.workers c.args.most c.len.result within)) in
    needs ∙ omega (arith, c.len.ensures, ap length c.as_mut_slice.ensures.value)

pub returns : goal.returns
returns g c =
    let h : HarbourSeen = c.args.harbour.now in
    let len : c.len.result ≡ callers h = omega (arith, c.len.ensures, c.requires.size, as_many c.args.rows.now.items) in
    let needs : c.deref-2.result.now ≡ needs_for h.workers c.args.most (callers h) = c.deref-2.ensures.value ∙ (c.in_ok-needs.ensures ∙ ap₂ (λ (n m : ℕ). needs_for n c.args.most m) (ap (λ (w : HarbourSeen). w.workers) c.harbour.view_is) len) in
    record {
      met = met_back h c.deref.result.now c.deref-2.result.now (needs_for h.workers c.args.most (callers h)) c.args.rows.now.len c.args.rows.now.items c.as_mut_slice.result.now c.meet_all.new.rows (docks_are _ h c.deref.result.now c.harbour.view_is c.deref.ensures.value) needs c.as_mut_slice.ensures.value
          c.args.rows.now.ok.0 c.meet_all.auto.rows c.in_ok-meet_all.ensures.meet;
    }
