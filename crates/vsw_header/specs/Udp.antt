-- The fields of a UDP header, as the reader gives them.
use Rattle.std.specs.Prelude.{Result, Ok, Err}
use Rattle.vsw_base.specs.Udp.{UdpFields}
use Rattle.vsw_base.specs.declared.fault.BadFrame.{BadFrame}
use Rattle.vsw_header.specs.declared.udp.UdpPart.{UdpPart}

abbrev pub udp_view : UdpPart → UdpFields
udp_view p = record { src = p.src; dst = p.dst; payload = p.payload.now; slack = p.slack.now }

abbrev pub udp_seen : Result UdpPart BadFrame → Result UdpFields BadFrame
udp_seen (Ok p) = Ok (udp_view p)
udp_seen (Err e) = Err e
