use Rattle.std.proofs.Common.{◌≤◌, ℕ, List, length, sym, subst}
use Rattle.vsw_harbour.specs.HarbourOpening.{rows_in}
use Rattle.vsw_harbour.specs.Opening.{IsOpenFor, OpenHarbourSeen}
use Rattle.vsw_harbour.proofs.Mustered.{docks_are, few, idle, is_harbour, locals_few, mustered, rows_are}
use Rattle.vsw_harbour.proofs.opening.OpenHarbour.named.Goals as goal

pub callers_of-callers-requires : goal.callers_of-callers-requires
callers_of-callers-requires g c =
    let here : length c.self.inside.controllers.items ≤ 8 = few c.requires.open_for.0 c.requires.open_for.1 c.requires.open_for.2 _ (subst (IsOpenFor c.requires.open_for.0 c.requires.open_for.1 c.requires.open_for.2) (sym c.self.view_is) c.requires.open_for.3) in
    record { few = subst (λ (cs : List ℕ). length cs ≤ 8) (sym c.deref.ensures.value) here }

pub dock_named-requires-clause-idle : goal.dock_named-requires-clause-idle
dock_named-requires-clause-idle g c =
    idle c.requires.open_for.0 c.requires.open_for.1 c.requires.open_for.2 _ (subst (IsOpenFor c.requires.open_for.0 c.requires.open_for.1 c.requires.open_for.2) (sym c.self.view_is) c.requires.open_for.3)

pub invariant_of-harbour : goal.invariant_of-harbour
invariant_of-harbour g c =
    let s = c.self.inside in
    let o : OpenHarbourSeen = record { workers = s.workers; local = s.local; controllers = s.controllers.items; numbers = s.docks.numbers.items; macs = s.docks.macs.items; ports = s.docks.ports.items } in
    is_harbour c.requires.open_for.0 c.requires.open_for.1 c.requires.open_for.2 o c.in_ok-docks.docks.items c.of.result s.listed.items s.asks.items
    (subst (IsOpenFor c.requires.open_for.0 c.requires.open_for.1 c.requires.open_for.2) (sym c.self.view_is) c.requires.open_for.3)
    (docks_are o c.in_ok-docks.docks.items c.locals_among-locals.result.now c.deref-3.result.now c.deref-4.result.now c.deref-2.result.now c.in_ok-docks.ensures.docks c.locals_among-locals.ensures c.deref-2.ensures.value c.deref-3.ensures.value c.deref-4.ensures.value) c.of.ensures c.self.invariant

pub returns : goal.returns
returns g c workers file local x =
    let s = c.self.inside in
    let o : OpenHarbourSeen = record { workers = s.workers; local = s.local; controllers = s.controllers.items; numbers = s.docks.numbers.items; macs = s.docks.macs.items; ports = s.docks.ports.items } in
    mustered workers file local o c.in_ok-docks.docks.items (rows_in c.in_ok-docks.rows.items) (subst (IsOpenFor workers file local) (sym c.self.view_is) x)
    (docks_are o c.in_ok-docks.docks.items c.locals_among-locals.result.now c.deref-3.result.now c.deref-4.result.now c.deref-2.result.now c.in_ok-docks.ensures.docks c.locals_among-locals.ensures c.deref-2.ensures.value c.deref-3.ensures.value c.deref-4.ensures.value)
    (rows_are o (rows_in c.in_ok-docks.rows.items) c.deref.result.now c.callers_of-callers.result c.in_ok-docks.ensures.rows c.callers_of-callers.ensures c.deref.ensures.value)

pub dock_named-requires-clause-few : goal.dock_named-requires-clause-few
dock_named-requires-clause-few g c =
    locals_few c.requires.open_for.0 c.requires.open_for.1 c.requires.open_for.2 _ c.locals_among-locals.result.now c.deref-2.result.now (subst (IsOpenFor c.requires.open_for.0 c.requires.open_for.1 c.requires.open_for.2) (sym c.self.view_is) c.requires.open_for.3) c.locals_among-locals.ensures c.deref-2.ensures.value
