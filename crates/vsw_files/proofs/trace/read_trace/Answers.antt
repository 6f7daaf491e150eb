use Rattle.vsw_files.proofs.Wholes.{broken_trace, whole_trace}
use Rattle.vsw_files.proofs.trace.read_trace.Goals as goal

pub returns-in-Ok-read_whole : goal.returns-in-Ok-read_whole
returns-in-Ok-read_whole g c =
    let old = g.H.Host.outside c.args.host.now in
    let mid = g.H.Host.outside c.open.new.host in
    let name = c.args.name.now in
    let read = c.begin_reading-reading.ensures.read old mid name c.in-Ok.ensures.1 in
    whole_trace old mid (g.H.Host.outside c.read_whole.new.host) name c.read_whole.new.reading _ c.in-Ok.ensures.0 c.read_whole.ensures.outputs (c.read_whole.ensures.later old name read) (c.in-Ok-read_whole.ensures.whole old name read)

pub returns-in-Err : goal.returns-in-Err
returns-in-Err g c =
    let old = g.H.Host.outside c.args.host.now in
    let mid = g.H.Host.outside c.open.new.host in
    let name = c.args.name.now in
    let read = c.begin_reading-reading.ensures.read old mid name c.in-Ok.ensures.1 in
    broken_trace old mid (g.H.Host.outside c.read_whole.new.host) name c.read_whole.new.reading.batch c.in-Err.end c.in-Ok.ensures.0 c.read_whole.ensures.outputs (c.read_whole.ensures.later old name read) (c.in-Err.ensures.whole old name read)
