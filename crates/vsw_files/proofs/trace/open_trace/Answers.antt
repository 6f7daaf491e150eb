use Rattle.vsw_files.proofs.Tracing.{trace_read}
use Rattle.vsw_files.proofs.trace.open_trace.Goals as goal

pub returns : goal.returns
returns g c = λ k start policy lines named h. trace_read k start (g.H.Host.outside c.args.host.now) (g.H.Host.outside c.read_trace.new.host) policy lines c.args.name.now c.read_trace.result named h c.read_trace.ensures
