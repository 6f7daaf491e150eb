-- The headers of an encapsulation that is kept around a changed inner frame.
use Rattle.std.specs.Prelude.{ℕ, ◌+◌, Bool, true, false, List, drop}
use Rattle.vsw_base.specs.Ipv4.{ip_header}
use Rattle.vsw_header.specs.L4Change.{unchecked}

-- bytes of Ethernet and IPv4 with its options, behind which UDP stands
abbrev pub udp_at : List ℕ → ℕ
udp_at bytes = 14 + ip_header (drop 14 bytes)

-- the UDP and VXLAN headers of a kept encapsulation: no checksum where an inner field differs
abbrev pub udp_kept : Bool → List ℕ → List ℕ
udp_kept true bytes = unchecked bytes
udp_kept false bytes = bytes
