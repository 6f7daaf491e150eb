-- The IPv4 header (RFC 791, section 3.1), as it is read and written.
use Rattle.std.specs.Prelude.{◌≡◌, ◌≤◌, ◌<◌, ◌^◌, ◌+◌, ℕ, false, List, [], ◌∷◌, ◌++◌, length, take, drop, Result, Ok, Err}
use Rattle.byteorder.specs.Endian.{big_bytes}
use Rattle.vsw_base.specs.Ipv4.{IpFields, ip_of}
use Rattle.vsw_base.specs.declared.fault.BadFrame.{BadFrame}
use Rattle.vsw_header.specs.Sum.{checksum, sum_ones, words_of}
use Rattle.vsw_header.specs.declared.ip.IpPart.{IpPart}

-- what was read
abbrev pub ip_view : IpPart → IpFields
ip_view p = record { src = p.src; dst = p.dst; proto = p.proto; part = p.part; payload = p.payload.now; trailer = p.trailer.now }

abbrev pub ip_seen : Result IpPart BadFrame → Result IpFields BadFrame
ip_seen (Ok p) = Ok (ip_view p)
ip_seen (Err e) = Err e

-- a header in front of an encapsulation, with this checksum: version 4 and header length 5, service 0; total length;
-- id 0; don't fragment, and offset 0; time to live 64, protocol 17 (UDP); checksum; source; destination
abbrev pub ip_bytes : ℕ → ℕ → ℕ → ℕ → List ℕ
ip_bytes src dst total sum = (0x45 ∷ 0 ∷ []) ++ big_bytes 2 total ++ big_bytes 2 0 ++ big_bytes 2 0x4000 ++ (64 ∷ 17 ∷ []) ++ big_bytes 2 sum ++ big_bytes 4 src ++ big_bytes 4 dst

-- its checksum is taken with 0 in its place
unfoldable pub pushed_checksum : ℕ → ℕ → ℕ → ℕ
pushed_checksum src dst total = checksum (words_of (ip_bytes src dst total 0))

-- the header that is put in front, with its checksum
abbrev pub pushed_ip_bytes : ℕ → ℕ → ℕ → List ℕ
pushed_ip_bytes src dst total = ip_bytes src dst total (pushed_checksum src dst total)

-- what was written is read back: n bytes of what follows are the payload, and the rest of it the trailer
abbrev pub ReadsBack : Type 0
ReadsBack = (src dst n : ℕ) (rest : List ℕ) → src < 2 ^ 32 → dst < 2 ^ 32 → 20 + n < 2 ^ 16 → n ≤ length rest → ip_of (pushed_ip_bytes src dst (20 + n) ++ rest) ≡ Ok (record { src = src; dst = dst; proto = 17; part = false; payload = take n rest; trailer = drop n rest })

-- a receiver finds the checksum right: the sum is all ones
abbrev pub Checks : Type 0
Checks = (src dst total : ℕ) → src < 2 ^ 32 → dst < 2 ^ 32 → total < 2 ^ 16 → sum_ones (words_of (pushed_ip_bytes src dst total)) ≡ 65535
