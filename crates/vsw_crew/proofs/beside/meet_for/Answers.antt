use Rattle.std.proofs.Common.{◌≡◌, ◌∙◌, ◌++◌, ℕ, List, sym, ap, length}
use Rattle.vsw_harbour.specs.Harbour.{HarbourSeen, callers}
use Rattle.vsw_harbour.specs.Standing.{no_calls}
use Rattle.vsw_harbour.proofs.Gathering.{docks_are}
use Rattle.vsw_crew.specs.Private.Rows.{needs_in}
use Rattle.vsw_crew.proofs.Doing.{needs_many}
use Rattle.vsw_crew.proofs.Meets.{lanes_of, many_slice}
use Rattle.vsw_crew.proofs.beside.meet_for.Goals as goal

pub meet_all-requires-clause-lanes : goal.meet_all-requires-clause-lanes
meet_all-requires-clause-lanes g c =
    let h : HarbourSeen = c.args.harbour.now in
    lanes_of h c.deref.result.now c.requires.stand.0 (no_calls h.docks) c.args.rows.now.items c.as_mut_slice.result.now (docks_are _ h c.deref.result.now c.harbour.view_is c.deref.ensures.value) c.as_mut_slice.ensures.value c.requires.stand.1

pub meet_all-requires-clause-needs : goal.meet_all-requires-clause-needs
meet_all-requires-clause-needs g c =
    let h : HarbourSeen = c.args.harbour.now in
    let needs : c.deref-2.result.now ≡ needs_in c.args.shares.now = c.deref-2.ensures.value ∙ (c.in_ok-add_needs.ensures.needs ∙ ap (λ (w : List ℕ). w ++ needs_in c.args.shares.now) c.new-needs.ensures.items) in
    let many : length c.as_mut_slice.result.now ≡ callers h = many_slice h c.args.rows.now.items c.as_mut_slice.result.now c.as_mut_slice.ensures.value c.requires.size in
    ap length needs ∙ (needs_many c.args.shares.now ∙ (c.requires.shares ∙ sym many))
