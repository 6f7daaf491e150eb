-- How a run ends by its trace, or by its workload.
use Rattle.vsw_run.specs.declared.ending.Ending.{Ending}
use Rattle.vsw_run.specs.declared.ending.Ending.TheVariants as ending
use Rattle.vsw_replay.specs.declared.ending.TraceEnd.{TraceEnd}
use Rattle.vsw_replay.specs.declared.ending.TraceEnd.TheVariants as end
use Rattle.vsw_replay.specs.declared.run.WorkloadEnd.{WorkloadEnd}
use Rattle.vsw_replay.specs.declared.run.WorkloadEnd.TheVariants as drawn

-- the run ends as its trace did
abbrev pub ending_of : TraceEnd → Ending
ending_of end.Done = ending.Done
ending_of end.ReadFault = ending.ReadFault
ending_of end.WriteFault = ending.WriteFault
ending_of (end.Refused bad) = ending.Trace bad
ending_of end.Records = ending.Records
ending_of end.Memory = ending.Memory

-- or as its workload did
abbrev pub drawn_ending : WorkloadEnd → Ending
drawn_ending drawn.Done = ending.Done
drawn_ending drawn.WriteFault = ending.WriteFault
drawn_ending drawn.Memory = ending.Memory
