use Rattle.std.proofs.Common.{◌<◌, arith, length}
use Rattle.vsw_replay.proofs.Puts.{sheet_put, sheet_unput}
use Rattle.vsw_replay.proofs.sheets.put_sheets.Goals as goal

pub returns-in-Err : goal.returns-in-Err
returns-in-Err g c =
    let n = c.loop-place.place in
    let within : n < length c.args.sheets.now = omega (arith, c.loop-place-test.true, c.len-place-end.ensures, c.loop-place.auto.place-end) in
    sheet_unput (g.H.Host.outside c.args.host.now) (g.H.Host.outside c.loop-place.host) (g.H.Host.outside c.put.new.self) n c.args.sheets.now c.text.result.now tt c.in-Err.e within c.text.ensures c.loop-place.invariant c.in-Err.ensures.puts

pub loop-place-preserved : goal.loop-place-preserved
loop-place-preserved g c =
    let n = c.loop-place.place in
    let within : n < length c.args.sheets.now = omega (arith, c.loop-place-test.true, c.len-place-end.ensures, c.loop-place.auto.place-end) in
    sheet_put (g.H.Host.outside c.args.host.now) (g.H.Host.outside c.loop-place.host) (g.H.Host.outside c.put.new.self) n c.args.sheets.now c.text.result.now tt c.in-Ok.field-0 within c.text.ensures c.loop-place.invariant c.in-Ok.ensures.puts
