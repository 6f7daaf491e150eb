-- The fields of a TCP header, as the reader gives them.
use Rattle.std.specs.Prelude.{Result, Ok, Err}
use Rattle.vsw_base.specs.Tcp.{TcpFields}
use Rattle.vsw_base.specs.declared.fault.BadFrame.{BadFrame}
use Rattle.vsw_header.specs.declared.tcp.TcpPart.{TcpPart}

abbrev pub tcp_view : TcpPart → TcpFields
tcp_view p = record { src = p.src; dst = p.dst; control = p.control; payload = p.payload.now }

abbrev pub tcp_seen : Result TcpPart BadFrame → Result TcpFields BadFrame
tcp_seen (Ok p) = Ok (tcp_view p)
tcp_seen (Err e) = Err e
