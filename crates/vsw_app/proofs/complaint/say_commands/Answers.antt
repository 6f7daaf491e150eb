use Rattle.std.proofs.Common.{sym, ap, ◌∙◌}
use Rattle.std.specs.Prelude.{codes, decimal}
use Rattle.vsw_run.specs.Complaint.{commands_text, fault_text}
use Rattle.vsw_commandfile.specs.declared.fault.CommandsFault.{CommandsFault}
use Rattle.vsw_commandfile.specs.declared.fault.CommandsFault.TheVariants as variant
use Rattle.vsw_app.proofs.Speaking.{speaks_of, speaks_is, four}
use Rattle.vsw_app.proofs.complaint.say_commands.Goals as goal

pub returns-in-CommandsLimit : goal.returns-in-CommandsLimit
returns-in-CommandsLimit g c = speaks_of CommandsFault commands_text _ _ c.args.why.now variant.CommandsLimit _ c.in-CommandsLimit.is c.say.ensures

pub returns-in-LinesLimit : goal.returns-in-LinesLimit
returns-in-LinesLimit g c = speaks_of CommandsFault commands_text _ _ c.args.why.now variant.LinesLimit _ c.in-LinesLimit.is c.say-in-LinesLimit.ensures

pub returns-in-Memory : goal.returns-in-Memory
returns-in-Memory g c = speaks_of CommandsFault commands_text _ _ c.args.why.now variant.Memory _ c.in-Memory.is c.say-in-Memory.ensures

pub returns-in-Bad : goal.returns-in-Bad
returns-in-Bad g c = speaks_of CommandsFault commands_text _ _ c.args.why.now (variant.Bad c.in-Bad.line c.in-Bad.kind c.as_slice.result.now) _ (c.in-Bad.is ∙ ap (variant.Bad c.in-Bad.line c.in-Bad.kind) (sym c.as_slice.ensures)) (speaks_is _ _ _ _ _ (four (codes "vsw: refused commands ") (decimal c.in-Bad.line) (codes " ") (fault_text c.in-Bad.kind c.as_slice.result.now)) c.say_bad_line.ensures)
