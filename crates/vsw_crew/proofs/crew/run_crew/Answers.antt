use Rattle.std.proofs.Common.{◌≡◌, ◌<◌, ap, arith, length, rules}
use Rattle.vsw_report.specs.Whole.{whole_text}
use Rattle.vsw_harbour.specs.HarbourOpening.{rows_in}
use Rattle.vsw_harbour.specs.Harbour.{HarbourSeen}
use Rattle.vsw_harbour.proofs.Gathering.{harbour_is}
use Rattle.vsw_harbour.proofs.Held.{as_many}
use Rattle.vsw_crew.specs.Crew.{seen_by}
use Rattle.vsw_crew.proofs.Between.{may_ask, ready_rows, rows_ready, runs, served_still, taken_ready, told_of}
use Rattle.vsw_crew.proofs.Joining.{is_with, run_with}
use Rattle.vsw_crew.proofs.crew.run_crew.Goals as goal

pub run-requires-clause-run : goal.run-requires-clause-run
run-requires-clause-run g c = λ κs within.
    let same : rows_in c.replace-taken.result.items ≡ rows_in c.args.rows.now.items = ap (λ v. rows_in v.items) c.replace-taken.ensures.value in
    let many : 0 < length c.replace-taken.result.items = search rules in
    let some : 0 < length (rows_in c.replace-taken.result.items) = omega (arith, as_many c.replace-taken.result.items, many) in
    (taken_ready c.args.harbour.now (rows_in c.replace-taken.result.items) (rows_in c.args.rows.now.items) same some c.requires.rows).0

pub run-requires-clause-ready : goal.run-requires-clause-ready
run-requires-clause-ready g c = λ κs within.
    let same : rows_in c.replace-taken.result.items ≡ rows_in c.args.rows.now.items = ap (λ v. rows_in v.items) c.replace-taken.ensures.value in
    let many : 0 < length c.replace-taken.result.items = search rules in
    let some : 0 < length (rows_in c.replace-taken.result.items) = omega (arith, as_many c.replace-taken.result.items, many) in
    (seen_by (rows_in c.args.rows.now.items), (taken_ready c.args.harbour.now (rows_in c.replace-taken.result.items) (rows_in c.args.rows.now.items) same some c.requires.rows).1)

pub run-requires-clause-lines : goal.run-requires-clause-lines
run-requires-clause-lines g c = λ κs within.
    let h : HarbourSeen = c.args.harbour.now in
    may_ask h _ _ _ _ (seen_by (rows_in c.args.rows.now.items)) c.args.schedule.now (harbour_is _ h _ _ _ _ c.harbour.view_is c.harbour.invariant) c.requires.served

pub returns-in_err-short-clause-served : goal.returns-in_err-short-clause-served
returns-in_err-short-clause-served g c = λ lines a. served_still c.args.harbour.now (seen_by (rows_in c.args.rows.now.items)) _ lines a

pub returns-clause-rows : goal.returns-clause-rows
returns-clause-rows g c =
    let h : HarbourSeen = c.args.harbour.now in
    let same : rows_in c.replace-taken.result.items ≡ rows_in c.args.rows.now.items = ap (λ v. rows_in v.items) c.replace-taken.ensures.value in
    let many : 0 < length c.replace-taken.result.items = search rules in
    let some : 0 < length (rows_in c.replace-taken.result.items) = omega (arith, as_many c.replace-taken.result.items, many) in
    let x = taken_ready h (rows_in c.replace-taken.result.items) (rows_in c.args.rows.now.items) same some c.requires.rows in
    let w = is_with h c.args.schedule.now x.0.run x.0.is in
    let t = c.in_ok-short.ensures.told (run_with c.args.schedule.now x.0.run) (seen_by (rows_in c.args.rows.now.items)) w.0 w.1 x.1 in
    rows_ready h t.histories (rows_in c.in_ok-short.left.items) x.0 t.ready

pub returns-clause-runs : goal.returns-clause-runs
returns-clause-runs g c =
    let h : HarbourSeen = c.args.harbour.now in
    let same : rows_in c.replace-taken.result.items ≡ rows_in c.args.rows.now.items = ap (λ v. rows_in v.items) c.replace-taken.ensures.value in
    let many : 0 < length c.replace-taken.result.items = search rules in
    let some : 0 < length (rows_in c.args.rows.now.items) = omega (arith, as_many c.replace-taken.result.items, many, ap length same) in
    runs h _ _ _ _ c.args.schedule.now c.args.first c.args.packets.now c.in_ok-short.short (whole_text c.args.out.now) (whole_text c.run.new.out) (rows_in c.args.rows.now.items) (rows_in c.in_ok-short.left.items) (harbour_is _ h _ _ _ _ c.harbour.view_is c.harbour.invariant) (ready_rows h (rows_in c.args.rows.now.items) some c.requires.rows).1
    (told_of h c.args.schedule.now c.args.first c.args.packets.now c.in_ok-short.short (whole_text c.args.out.now) (whole_text c.run.new.out) (rows_in c.replace-taken.result.items) (rows_in c.args.rows.now.items) (rows_in c.in_ok-short.left.items) same c.in_ok-short.ensures.told)

pub returns-clause-served : goal.returns-clause-served
returns-clause-served g c = λ lines a. served_still c.args.harbour.now (seen_by (rows_in c.args.rows.now.items)) _ lines a
