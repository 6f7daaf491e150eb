use Rattle.std.proofs.Common.{sym, ap, ◌∙◌}
use Rattle.vsw_run.specs.Complaint.{policy_text}
use Rattle.vsw_config.specs.declared.file.ConfigFault.{ConfigFault}
use Rattle.vsw_config.specs.declared.file.ConfigFault.TheVariants as variant
use Rattle.vsw_app.proofs.Speaking.{speaks_of}
use Rattle.vsw_app.proofs.complaint.say_policy.Goals as goal

pub returns-in-PolicyLimit : goal.returns-in-PolicyLimit
returns-in-PolicyLimit g c = speaks_of ConfigFault policy_text _ _ c.args.why.now variant.PolicyLimit _ c.in-PolicyLimit.is c.say.ensures

pub returns-in-PortsLimit : goal.returns-in-PortsLimit
returns-in-PortsLimit g c = speaks_of ConfigFault policy_text _ _ c.args.why.now variant.PortsLimit _ c.in-PortsLimit.is c.say-in-PortsLimit.ensures

pub returns-in-ControllersLimit : goal.returns-in-ControllersLimit
returns-in-ControllersLimit g c = speaks_of ConfigFault policy_text _ _ c.args.why.now variant.ControllersLimit _ c.in-ControllersLimit.is c.say-in-ControllersLimit.ensures

pub returns-in-Memory : goal.returns-in-Memory
returns-in-Memory g c = speaks_of ConfigFault policy_text _ _ c.args.why.now variant.Memory _ c.in-Memory.is c.say-in-Memory.ensures

pub returns-in-Bad : goal.returns-in-Bad
returns-in-Bad g c = speaks_of ConfigFault policy_text _ _ c.args.why.now (variant.Bad c.in-Bad.kind c.as_slice.result.now) _ (c.in-Bad.is ∙ ap (variant.Bad c.in-Bad.kind) (sym c.as_slice.ensures)) c.say_bad_policy.ensures
