-- The packets of a generated workload.
use Rattle.std.specs.Prelude.{ℕ, ◌+◌, ◌*◌, ◌%◌, ◌==◌, List, [], ◌∷◌, ◌++◌, false, replicate, if◌then◌else◌}
use Rattle.byteorder.specs.Endian.{big_bytes}
use Rattle.vsw_base.specs.declared.header.Header.{Header}
use Rattle.vsw_base.specs.declared.header.Header.TheVariants.{Ether, Ip, Ports}
use Rattle.vsw_base.specs.Shape.{ipv4_kind}
use Rattle.vsw_header.specs.FlowSum.{flow_sum_of}
use Rattle.vsw_header.specs.Ether.{ether_bytes}
use Rattle.vsw_header.specs.Ip.{pushed_ip_bytes}
use Rattle.vsw_frame.specs.Push.{encap_pushed}
use Rattle.vsw_generate.specs.Draws.{flow_of, kind_of, size_of}
use Rattle.vsw_generate.specs.declared.frame.Ends.{Ends}

-- a UDP datagram without a checksum, of so many bytes 'a'
abbrev pub udp_bytes : ℕ → ℕ → ℕ → List ℕ
udp_bytes src dst size = big_bytes 2 src ++ big_bytes 2 dst ++ big_bytes 2 (size + 8) ++ big_bytes 2 0 ++ replicate size 97

-- the packet: IPv4 and UDP
abbrev pub packet_bytes : Ends → ℕ → List ℕ
packet_bytes ends size = pushed_ip_bytes ends.src_ip ends.dst_ip (size + 28) ++ udp_bytes ends.src_port ends.dst_port size

-- the frame of the packet
abbrev pub frame_bytes : Ends → ℕ → List ℕ
frame_bytes ends size = ether_bytes ends.dst ends.src ipv4_kind ++ packet_bytes ends size

-- the query of a flow: from the port's machine to one of four servers
abbrev pub query : ℕ → Ends
query flow = record {
  dst = 0x020000000099;
  src = 0x020000000001;
  src_ip = 0x0a000005;
  dst_ip = 0x0a000009 + 256 * (flow % 4);
  src_port = 10000 + flow;
  dst_port = 53;
}

-- its answer: all turned round
abbrev pub turned : Ends → Ends
turned ends = record { dst = ends.src; src = ends.dst; src_ip = ends.dst_ip; dst_ip = ends.src_ip; src_port = ends.dst_port; dst_port = ends.src_port }

-- the headers of a frame between two ends
abbrev pub headers : Ends → List Header
headers ends = Ether ends.dst ends.src ipv4_kind ∷ Ip ends.src_ip ends.dst_ip 17 false ∷ Ports 17 ends.src_port ends.dst_port ∷ []

-- the source port of an encapsulation, told by the inner headers
abbrev pub port_of : Ends → ℕ
port_of ends = 49152 + flow_sum_of (headers ends) % 16384

-- the answer comes in network 5001, from one tunnel end to the other
abbrev pub answer_bytes : Ends → ℕ → List ℕ
answer_bytes ends size = encap_pushed (port_of ends) 0x020000000a01 0x020000000a02 0xac100002 0xac100001 5001 (frame_bytes ends size)

-- a packet by its flow, kind and size: a query, or for kind 3 an answer
abbrev pub bytes_by : ℕ → ℕ → ℕ → List ℕ
bytes_by flow kind size = if kind == 3 then answer_bytes (turned (query flow)) size else frame_bytes (query flow) size

-- how many bytes it has
abbrev pub len_by : ℕ → ℕ → ℕ
len_by kind size = if kind == 3 then size + 92 else size + 42

-- the packet of the next three draws
abbrev pub bytes_of : ℕ → List ℕ
bytes_of state = bytes_by (flow_of state) (kind_of state) (size_of state)

abbrev pub len_of : ℕ → ℕ
len_of state = len_by (kind_of state) (size_of state)
