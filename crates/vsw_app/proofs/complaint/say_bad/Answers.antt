use Rattle.std.proofs.Common.{◌++◌, ◌∙◌}
use Rattle.std.specs.Prelude.{codes}
use Rattle.vsw_run.specs.Complaint.{byte_text}
use Rattle.vsw_pcap.specs.Fault.{trace_name}
use Rattle.vsw_app.proofs.Speaking.{speaks_then, speaks_part, speaks_is}
use Rattle.vsw_app.proofs.complaint.say_bad.Goals as goal

pub returns-in-Ok : goal.returns-in-Ok
returns-in-Ok g c = speaks_then (g.H.Host.outside c.args.host.now) (g.H.Host.outside c.say.new.host) (g.H.Host.outside c.say_place_end.new.host) (trace_name c.args.bad) (byte_text c.args.bad ++ codes "\n") c.say_place_end.result c.in-Ok.field-0 (speaks_is _ _ _ _ _ (c.as_bytes.ensures.value ∙ c.name.ensures) c.in-Ok.ensures) c.say_place_end.ensures

pub returns-in-Err : goal.returns-in-Err
returns-in-Err g c = speaks_part (g.H.Host.outside c.args.host.now) (g.H.Host.outside c.say.new.host) (trace_name c.args.bad) (byte_text c.args.bad ++ codes "\n") c.in-Err.failed c.in-Err.failed (speaks_is _ _ _ _ _ (c.as_bytes.ensures.value ∙ c.name.ensures) c.in-Err.ensures)
