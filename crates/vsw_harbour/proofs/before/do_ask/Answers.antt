use Rattle.std.proofs.Common.{◌≡◌, ◌+◌}
use Rattle.vsw_dock.specs.DealWork.TheVariants as work
use Rattle.vsw_dock.specs.Opening.{rows_in}
use Rattle.vsw_harbour.specs.Harbour.{HarbourSeen, asks_of}
use Rattle.vsw_port.specs.Calls.{Ask, controller_at}
use Rattle.vsw_harbour.proofs.Asking.{caller_is, harbour_alike, harbour_own, harbour_takes, harbour_within, may_ask, rows_few}
use Rattle.vsw_harbour.proofs.Gathering.{docks_are, harbour_is}
use Rattle.vsw_harbour.proofs.before.do_ask.Goals as goal

pub step_row-requires-clause-small : goal.step_row-requires-clause-small
step_row-requires-clause-small g c =
    let h : HarbourSeen = c.args.harbour.now in
    rows_few h _ _ _ _ (asks_of h) c.args.rows.now (harbour_is _ h _ _ _ _ c.harbour.view_is c.harbour.invariant) c.requires.may

pub step_row-requires-clause-own : goal.step_row-requires-clause-own
step_row-requires-clause-own g c =
    let h : HarbourSeen = c.args.harbour.now in
    let caller : 16 + c.place_of-caller.result ≡ controller_at h.controllers c.args.line.now.controller = caller_is _ h c.deref-2.result.now c.args.line.now.controller c.place_of-caller.result c.harbour.view_is c.deref-2.ensures.value c.place_of-caller.ensures.value in
    harbour_own h _ _ _ _ c.deref-3.result.now (16 + c.place_of-caller.result) (Ask c.args.line.now) (harbour_is _ h _ _ _ _ c.harbour.view_is c.harbour.invariant) (docks_are _ h c.deref-3.result.now c.harbour.view_is c.deref-3.ensures.value) caller

pub step_row-requires-clause-taken : goal.step_row-requires-clause-taken
step_row-requires-clause-taken g c =
    let h : HarbourSeen = c.args.harbour.now in
    harbour_takes h _ _ _ _ c.deref-3.result.now c.place_of-place.result (work.Line c.args.line) (harbour_is _ h _ _ _ _ c.harbour.view_is c.harbour.invariant) (docks_are _ h c.deref-3.result.now c.harbour.view_is c.deref-3.ensures.value) tt (c.requires.line.controller, c.requires.line.rules)

pub step_row-requires-clause-able : goal.step_row-requires-clause-able
step_row-requires-clause-able g c =
    let h : HarbourSeen = c.args.harbour.now in
    let caller : 16 + c.place_of-caller.result ≡ controller_at h.controllers c.args.line.now.controller = caller_is _ h c.deref-2.result.now c.args.line.now.controller c.place_of-caller.result c.harbour.view_is c.deref-2.ensures.value c.place_of-caller.ensures.value in
    may_ask h c.deref-3.result.now c.args.line.now.controller (16 + c.place_of-caller.result) (rows_in c.args.rows.now) (docks_are _ h c.deref-3.result.now c.harbour.view_is c.deref-3.ensures.value) caller c.requires.may

pub step_row-requires-clause-within : goal.step_row-requires-clause-within
step_row-requires-clause-within g c =
    let h : HarbourSeen = c.args.harbour.now in
    harbour_within h _ _ _ _ c.deref.result.now c.deref-3.result.now c.args.line.now.port c.place_of-place.result (harbour_is _ h _ _ _ _ c.harbour.view_is c.harbour.invariant) c.deref.ensures.value (docks_are _ h c.deref-3.result.now c.harbour.view_is c.deref-3.ensures.value) c.place_of-place.ensures.value c.requires.line.port

pub step_row-requires-clause-alike : goal.step_row-requires-clause-alike
step_row-requires-clause-alike g c =
    let h : HarbourSeen = c.args.harbour.now in
    harbour_alike h _ _ _ _ c.deref-3.result.now (harbour_is _ h _ _ _ _ c.harbour.view_is c.harbour.invariant) (docks_are _ h c.deref-3.result.now c.harbour.view_is c.deref-3.ensures.value)
