use Rattle.std.specs.Prelude.{codes}
use Rattle.vsw_pcap.specs.Fault.{trace_name}
use Rattle.vsw_run.specs.Complaint.{complaint, byte_text}
use Rattle.vsw_run.specs.declared.ending.Ending.{Ending}
use Rattle.vsw_run.specs.declared.ending.Ending.TheVariants as variant
use Rattle.vsw_app.proofs.Speaking.{speaks_of, speaks_is, four}
use Rattle.vsw_app.proofs.complaint.say_ending.Goals as goal

pub returns-in-Done : goal.returns-in-Done
returns-in-Done g c = speaks_of Ending complaint _ _ c.args.end.now variant.Done _ c.in-Done.is c.say.ensures

pub returns-in-Usage : goal.returns-in-Usage
returns-in-Usage g c = speaks_of Ending complaint _ _ c.args.end.now variant.Usage _ c.in-Usage.is c.say-in-Usage.ensures

pub returns-in-ReadFault : goal.returns-in-ReadFault
returns-in-ReadFault g c = speaks_of Ending complaint _ _ c.args.end.now variant.ReadFault _ c.in-ReadFault.is c.say-in-ReadFault.ensures

pub returns-in-WriteFault : goal.returns-in-WriteFault
returns-in-WriteFault g c = speaks_of Ending complaint _ _ c.args.end.now variant.WriteFault _ c.in-WriteFault.is c.say-in-WriteFault.ensures

pub returns-in-Records : goal.returns-in-Records
returns-in-Records g c = speaks_of Ending complaint _ _ c.args.end.now variant.Records _ c.in-Records.is c.say-in-Records.ensures

pub returns-in-Illegal : goal.returns-in-Illegal
returns-in-Illegal g c = speaks_of Ending complaint _ _ c.args.end.now variant.Illegal _ c.in-Illegal.is c.say-in-Illegal.ensures

pub returns-in-Report : goal.returns-in-Report
returns-in-Report g c = speaks_of Ending complaint _ _ c.args.end.now (variant.Report c.in-Report.why) _ c.in-Report.is c.say_report.ensures

pub returns-in-Memory : goal.returns-in-Memory
returns-in-Memory g c = speaks_of Ending complaint _ _ c.args.end.now variant.Memory _ c.in-Memory.is c.say-in-Memory.ensures

pub returns-in-Policy : goal.returns-in-Policy
returns-in-Policy g c = speaks_of Ending complaint _ _ c.args.end.now (variant.Policy c.in-Policy.why) _ c.in-Policy.is c.say_policy.ensures

pub returns-in-Commands : goal.returns-in-Commands
returns-in-Commands g c = speaks_of Ending complaint _ _ c.args.end.now (variant.Commands c.in-Commands.why) _ c.in-Commands.is c.say_commands.ensures

pub returns-in-Trace : goal.returns-in-Trace
returns-in-Trace g c = speaks_of Ending complaint _ _ c.args.end.now (variant.Trace c.in-Trace.bad) _ c.in-Trace.is (speaks_is _ _ _ _ _ (four (codes "vsw: refused trace ") (trace_name c.in-Trace.bad) (byte_text c.in-Trace.bad) (codes "\n")) c.say_bad_trace.ensures)

pub returns-in-Rows : goal.returns-in-Rows
returns-in-Rows g c = speaks_of Ending complaint _ _ c.args.end.now (variant.Rows c.in-Rows.why) _ c.in-Rows.is c.say_rows.ensures
