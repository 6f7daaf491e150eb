-- The status of an ending, and the words that are complained.
use Rattle.std.specs.Prelude.{◌⊎◌, ℕ, List, [], ◌++◌, take, codes, decimal}
use Rattle.vsw_commandfile.specs.declared.fault.CommandsFault.{CommandsFault}
use Rattle.vsw_commandfile.specs.declared.fault.CommandsFault.TheVariants as commands
use Rattle.vsw_config.specs.declared.fault.Kind.{Kind}
use Rattle.vsw_config.specs.declared.fault.Step.{Step}
use Rattle.vsw_config.specs.Path.{path_text, kind_name}
use Rattle.vsw_host.specs.Outside.{Outside, Grows, Rose}
use Rattle.vsw_offload.specs.declared.fault.BadRows.{BadRows}
use Rattle.vsw_offload.specs.declared.fault.BadRows.TheVariants as bad
use Rattle.vsw_pcap.specs.Fault.{trace_name}
use Rattle.vsw_pcap.specs.declared.fault.BadTrace.{BadTrace}
use Rattle.vsw_pcap.specs.declared.fault.BadTrace.TheVariants.{NotPcap, Version, LinkType, Cut, Huge}
use Rattle.vsw_config.specs.declared.file.ConfigFault.{ConfigFault}
use Rattle.vsw_config.specs.declared.file.ConfigFault.TheVariants as policy
use Rattle.vsw_run.specs.declared.ending.Ending.{Ending}
use Rattle.vsw_run.specs.declared.ending.Ending.TheVariants as ending
use Rattle.vsw_run.specs.declared.ending.ReportFault.{ReportFault}
use Rattle.vsw_run.specs.declared.ending.ReportFault.TheVariants as report
use Rattle.vsw_run.specs.declared.ending.RowsFault.{RowsFault}
use Rattle.vsw_run.specs.declared.ending.RowsFault.TheVariants as rows
use Rattle.vsw_run.specs.declared.ending.Status.{Status}
use Rattle.vsw_run.specs.declared.ending.Status.TheVariants as status

-- a refused file has one status, a file over a limit another
abbrev pub policy_status : ConfigFault → Status
policy_status (policy.Bad kind path) = status.Refused
policy_status policy.Memory = status.Memory
policy_status _ = status.Limit

-- so it is of commands
abbrev pub commands_status : CommandsFault → Status
commands_status (commands.Bad line kind path) = status.Refused
commands_status commands.Memory = status.Memory
commands_status _ = status.Limit

-- so it is of a report
abbrev pub report_status : ReportFault → Status
report_status (report.Line number) = status.Refused
report_status report.ReportLimit = status.Limit

-- so it is of rows
abbrev pub rows_status : RowsFault → Status
rows_status (rows.Bad bad.Memory) = status.Memory
rows_status (rows.Bad why) = status.Refused
rows_status rows.RowsLimit = status.Limit

-- the status of an ending
abbrev pub status_of : Ending → Status
status_of ending.Done = status.Done
status_of ending.Usage = status.Usage
status_of ending.ReadFault = status.ReadFault
status_of ending.WriteFault = status.WriteFault
status_of (ending.Policy why) = policy_status why
status_of (ending.Commands why) = commands_status why
status_of (ending.Trace bad) = status.Refused
status_of ending.Records = status.Limit
status_of (ending.Report why) = report_status why
status_of (ending.Rows why) = rows_status why
status_of ending.Illegal = status.Illegal
status_of ending.Memory = status.Memory

-- the exit status: the number with which the program ends
abbrev pub number_of : Status → ℕ
number_of status.Done = 0
number_of status.Usage = 2
number_of status.ReadFault = 3
number_of status.WriteFault = 4
number_of status.Refused = 5
number_of status.Limit = 6
number_of status.Illegal = 8
number_of status.Memory = 9

-- the kind of a fault, and the path to it
abbrev pub fault_text : Kind → List Step → List ℕ
fault_text kind path = kind_name kind ++ codes " " ++ path_text path ++ codes "\n"

-- what is complained for want of memory
abbrev pub memory_text : List ℕ
memory_text = codes "vsw: memory\n"

-- what is complained of a policy
abbrev pub policy_text : ConfigFault → List ℕ
policy_text (policy.Bad kind path) = codes "vsw: refused policy " ++ fault_text kind path
policy_text policy.PolicyLimit = codes "vsw: limit policy\n"
policy_text policy.PortsLimit = codes "vsw: limit ports\n"
policy_text policy.ControllersLimit = codes "vsw: limit controllers\n"
policy_text policy.Memory = memory_text

-- what is complained of commands
abbrev pub commands_text : CommandsFault → List ℕ
commands_text (commands.Bad line kind path) = codes "vsw: refused commands " ++ decimal line ++ codes " " ++ fault_text kind path
commands_text commands.CommandsLimit = codes "vsw: limit commands\n"
commands_text commands.LinesLimit = codes "vsw: limit lines\n"
commands_text commands.Memory = memory_text

-- what is complained of a report
abbrev pub report_text : ReportFault → List ℕ
report_text (report.Line number) = codes "vsw: refused report " ++ decimal number ++ codes "\n"
report_text report.ReportLimit = codes "vsw: limit report\n"

-- what is at fault with rows, and where it begins
abbrev pub place_text : BadRows → List ℕ
place_text bad.NotRows = codes "NotRows"
place_text (bad.Cut at) = codes "Cut " ++ decimal at
place_text (bad.ManyPorts at) = codes "ManyPorts " ++ decimal at
place_text (bad.PortTwice at) = codes "PortTwice " ++ decimal at
place_text (bad.ManyRows at) = codes "ManyRows " ++ decimal at
place_text (bad.BadRow at) = codes "BadRow " ++ decimal at
place_text (bad.Order at) = codes "Order " ++ decimal at
place_text (bad.Extra at) = codes "Extra " ++ decimal at
place_text bad.Memory = codes "Memory"

-- what is complained of rows
abbrev pub rows_text : RowsFault → List ℕ
rows_text (rows.Bad why) = codes "vsw: refused rows " ++ place_text why ++ codes "\n"
rows_text rows.RowsLimit = codes "vsw: limit rows\n"

-- the byte at which a record is cut or huge
abbrev pub byte_text : BadTrace → List ℕ
byte_text NotPcap = []
byte_text Version = []
byte_text LinkType = []
byte_text (Cut at) = codes " " ++ decimal at
byte_text (Huge at) = codes " " ++ decimal at

-- the words that a run complains by its ending. That a report is illegal is put, and nothing complained
abbrev pub complaint : Ending → List ℕ
complaint ending.Done = []
complaint ending.Usage = codes "vsw: usage\n"
complaint ending.ReadFault = codes "vsw: read fault\n"
complaint ending.WriteFault = codes "vsw: write fault\n"
complaint (ending.Policy why) = policy_text why
complaint (ending.Commands why) = commands_text why
complaint (ending.Trace bad) = codes "vsw: refused trace " ++ trace_name bad ++ byte_text bad ++ codes "\n"
complaint ending.Records = codes "vsw: limit records\n"
complaint (ending.Report why) = report_text why
complaint (ending.Rows why) = rows_text why
complaint ending.Illegal = []
complaint ending.Memory = memory_text

-- these words were complained, or a front of them if the host counted a fault
abbrev pub Complains : Outside → Outside → List ℕ → Type 0
Complains old new words = Grows old.complained new.complained words ⊎ ((n : ℕ) × Grows old.complained new.complained (take n words) × Rose old.complain_faults new.complain_faults)
