-- Numbers and names of the faults of a capture.
use Rattle.std.specs.Prelude.{ℕ, List, codes}
use Rattle.vsw_pcap.specs.declared.fault.BadTrace.{BadTrace}
use Rattle.vsw_pcap.specs.declared.fault.BadTrace.TheVariants.{NotPcap, Version, LinkType, Cut, Huge}

abbrev pub trace_number : BadTrace → ℕ
trace_number NotPcap = 1
trace_number Version = 2
trace_number LinkType = 3
trace_number (Cut at) = 4
trace_number (Huge at) = 5

-- the name that a complaint has
abbrev pub trace_name : BadTrace → List ℕ
trace_name NotPcap = codes "NotPcap"
trace_name Version = codes "Version"
trace_name LinkType = codes "LinkType"
trace_name (Cut at) = codes "Cut"
trace_name (Huge at) = codes "Huge"
