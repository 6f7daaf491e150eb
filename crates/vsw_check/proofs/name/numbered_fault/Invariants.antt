use Rattle.std.proofs.Common.{◌≡◌, drop}
use Rattle.vsw_base.specs.Fault.{fault_number}
use Rattle.vsw_report.specs.Words.{numbered}
use Rattle.vsw_check.proofs.name.numbered_fault.Given as goal

abbrev pub invariant-loop-fault : goal.invariant-loop-fault
invariant-loop-fault l = numbered fault_number (drop l.fault-index l.all) l.number ≡ numbered fault_number l.all l.number
