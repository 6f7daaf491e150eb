use Rattle.std.proofs.Common.{ap, sym}
use Rattle.vsw_config.specs.Path.{step_text, steps_text}
use Rattle.vsw_app.proofs.Speaking.{speaks_then, speaks_part, speaks_is}
use Rattle.vsw_app.proofs.complaint.+say_steps.Goals as goal

pub returns-in-Ok : goal.returns-in-Ok
returns-in-Ok g t c = speaks_is _ _ _ _ _ (sym (ap steps_text c.in-Some.ensures.cases.0)) (speaks_then (g.H.Host.outside c.args.host.now) (g.H.Host.outside c.say_steps.new.host) (g.H.Host.outside c.say_step.new.host) (steps_text c.in-Some.outer.now) (step_text c.in-Some.inner.now) c.say_step.result c.in-Ok.field-0 c.in-Ok.ensures c.say_step.ensures)

pub returns-in-Err : goal.returns-in-Err
returns-in-Err g t c = speaks_is _ _ _ _ _ (sym (ap steps_text c.in-Some.ensures.cases.0)) (speaks_part (g.H.Host.outside c.args.host.now) (g.H.Host.outside c.say_steps.new.host) (steps_text c.in-Some.outer.now) (step_text c.in-Some.inner.now) c.in-Err.failed c.in-Err.failed c.in-Err.ensures)
