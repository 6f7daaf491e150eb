use Rattle.std.proofs.Common.{◌≡◌, ◌<◌, ap, arith, length, rules}
use Rattle.vsw_harbour.specs.HarbourOpening.{rows_in}
use Rattle.vsw_harbour.specs.Harbour.{HarbourSeen}
use Rattle.vsw_harbour.proofs.Gathering.{harbour_is}
use Rattle.vsw_harbour.proofs.Held.{as_many}
use Rattle.vsw_crew.specs.Crew.{seen_by}
use Rattle.vsw_crew.proofs.Between.{may_ask, taken_ready}
use Rattle.vsw_crew.proofs.Closing.{opened_out}
use Rattle.vsw_crew.proofs.Shifts.{served_here}
use Rattle.vsw_crew.proofs.crew.Crew.open_stream.Goals as goal

pub open_round-requires-clause-run : goal.open_round-requires-clause-run
open_round-requires-clause-run g c =
    let same : rows_in c.replace-rows.result.items ≡ rows_in c.self.inside.rows.items = ap (λ v. rows_in v.items) c.replace-rows.ensures.value in
    let many : 0 < length c.replace-rows.result.items = search rules in
    let some : 0 < length (rows_in c.replace-rows.result.items) = omega (arith, as_many c.replace-rows.result.items, many) in
    (taken_ready c.self.inside.harbour.now (rows_in c.replace-rows.result.items) (rows_in c.self.inside.rows.items) same some c.self.invariant.0).0

pub open_round-requires-clause-ready : goal.open_round-requires-clause-ready
open_round-requires-clause-ready g c =
    let same : rows_in c.replace-rows.result.items ≡ rows_in c.self.inside.rows.items = ap (λ v. rows_in v.items) c.replace-rows.ensures.value in
    let many : 0 < length c.replace-rows.result.items = search rules in
    let some : 0 < length (rows_in c.replace-rows.result.items) = omega (arith, as_many c.replace-rows.result.items, many) in
    (seen_by (rows_in c.self.inside.rows.items), (taken_ready c.self.inside.harbour.now (rows_in c.replace-rows.result.items) (rows_in c.self.inside.rows.items) same some c.self.invariant.0).1)

pub open_round-requires-clause-lines : goal.open_round-requires-clause-lines
open_round-requires-clause-lines g c =
    let h : HarbourSeen = c.self.inside.harbour.now in
    may_ask h _ _ _ _ (seen_by (rows_in c.self.inside.rows.items)) c.args.schedule.now (harbour_is _ h _ _ _ _ c.harbour.view_is c.harbour.invariant) (served_here h (seen_by (rows_in c.self.inside.rows.items)) c.args.self.now c.args.schedule.now c.self.view_is c.requires.served)

pub returns-clause-feeding : goal.returns-clause-feeding
returns-clause-feeding g c =
    let same : rows_in c.replace-rows.result.items ≡ rows_in c.self.inside.rows.items = ap (λ v. rows_in v.items) c.replace-rows.ensures.value in
    let many : 0 < length c.replace-rows.result.items = search rules in
    let some : 0 < length (rows_in c.replace-rows.result.items) = omega (arith, as_many c.replace-rows.result.items, many) in
    opened_out c.self.inside.harbour.now (seen_by (rows_in c.self.inside.rows.items)) c.args.self.now (rows_in c.replace-rows.result.items) c.args.schedule.now c.args.first c.open_round.result c.open_round.new.pool c.self.view_is
    (taken_ready c.self.inside.harbour.now (rows_in c.replace-rows.result.items) (rows_in c.self.inside.rows.items) same some c.self.invariant.0).1 c.open_round.ensures.feeding
