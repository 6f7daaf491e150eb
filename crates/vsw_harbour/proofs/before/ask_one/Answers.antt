use Rattle.std.proofs.Common.{◌≡◌, [], ◌∷◌, List, length, ◌∙◌, ap}
use Rattle.vsw_dock.specs.Opening.{rows_in}
use Rattle.vsw_harbour.specs.Harbour.{HarbourSeen, asks_of, callers}
use Rattle.vsw_harbour.specs.Steps.{placed_ask}
use Rattle.vsw_promise.specs.Jobs.{Placed}
use Rattle.vsw_harbour.proofs.Asking.{asks_many, may_go, may_meet, still_many}
use Rattle.vsw_harbour.proofs.Gathering.{harbour_is}
use Rattle.vsw_harbour.proofs.before.ask_one.Goals as goal

pub meet_again-requires-clause-lanes : goal.meet_again-requires-clause-lanes
meet_again-requires-clause-lanes g c =
    let h : HarbourSeen = c.args.harbour.now in
    may_meet h (placed_ask h.docks c.args.line.now ∷ []) (rows_in c.args.rows.now) (rows_in c.do_ask.new.rows) c.requires.may c.do_ask.ensures.works

pub meet_again-requires-clause-size : goal.meet_again-requires-clause-size
meet_again-requires-clause-size g c =
    let h : HarbourSeen = c.args.harbour.now in
    still_many h (asks_of h) c.args.rows.now c.do_ask.new.rows c.requires.may c.do_ask.auto.rows

pub meet_again-requires-clause-needs : goal.meet_again-requires-clause-needs
meet_again-requires-clause-needs g c =
    let h : HarbourSeen = c.args.harbour.now in
    let i = harbour_is _ h _ _ _ _ c.harbour.view_is c.harbour.invariant in
    ap length (c.deref.ensures.value ∙ i.asks_are) ∙ asks_many h

pub returns-clause-did : goal.returns-clause-did
returns-clause-did g c =
    let h : HarbourSeen = c.args.harbour.now in
    let jobs : List Placed = placed_ask h.docks c.args.line.now ∷ [] in
    λ hs calls s. c.in_ok-meet_again.ensures.did hs calls jobs (c.do_ask.ensures.works hs calls s)

pub returns-clause-may : goal.returns-clause-may
returns-clause-may g c =
    let h : HarbourSeen = c.args.harbour.now in
    let i = harbour_is _ h _ _ _ _ c.harbour.view_is c.harbour.invariant in
    let jobs : List Placed = placed_ask h.docks c.args.line.now ∷ [] in
    let size : length c.meet_again.new.rows ≡ callers h = c.meet_again.auto.rows ∙ still_many h (asks_of h) c.args.rows.now c.do_ask.new.rows c.requires.may c.do_ask.auto.rows in
    may_go h c.deref.result.now (asks_of h) jobs (rows_in c.args.rows.now) c.meet_again.new.rows c.requires.may (λ hs calls s. c.in_ok-meet_again.ensures.did hs calls jobs (c.do_ask.ensures.works hs calls s)) size (c.deref.ensures.value ∙ i.asks_are) c.in_ok-meet_again.ensures.may
