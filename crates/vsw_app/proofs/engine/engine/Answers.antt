use Rattle.std.proofs.Common.{refl}
use Rattle.vsw_run.specs.Seen.{query_seen}
use Rattle.vsw_app.proofs.ByRows.{answered}
use Rattle.vsw_app.proofs.engine.engine.Goals as goal

pub returns-in-Ok : goal.returns-in-Ok
returns-in-Ok g c =
    let q = query_seen c.args.query.now in
    answered q (g.H.Host.outside c.args.host.now) (g.H.Host.outside c.open_rows.new.host) (g.H.Host.outside c.answer_trace.new.host) c.in-Ok.rows c.answer_trace.result (c.in-Ok.ensures q refl) c.answer_trace.ensures

pub returns-in-Err : goal.returns-in-Err
returns-in-Err g c = c.in-Err.ensures (query_seen c.args.query.now) refl
