use Rattle.vsw_replay.proofs.Puts.{whole_put, whole_unput}
use Rattle.vsw_replay.proofs.sheets.put_text.Goals as goal

pub returns-in-Ok : goal.returns-in-Ok
returns-in-Ok g c =
    whole_put (g.H.Host.outside c.args.host.now) (g.H.Host.outside c.put_sheets.new.host) (g.H.Host.outside c.put.new.self) c.args.text.now.sheets c.args.text.now.end.items c.as_slice.result.now c.in-Ok.field-0 c.put.result c.as_slice.ensures.value c.in-Ok.ensures c.put.ensures.puts

pub returns-in-Err : goal.returns-in-Err
returns-in-Err g c = whole_unput (g.H.Host.outside c.args.host.now) (g.H.Host.outside c.put_sheets.new.host) c.args.text.now.sheets c.args.text.now.end.items c.in-Err.e c.in-Err.ensures
