-- The Ethernet header (RFC 894), as it is read and written.
use Rattle.std.specs.Prelude.{◌≡◌, ℕ, List, ◌++◌, Result, Ok, Err}
use Rattle.byteorder.specs.Endian.{big_bytes}
use Rattle.vsw_base.specs.Ethernet.{EtherFields, ether_of}
use Rattle.vsw_base.specs.Fits.{IsFit}
use Rattle.vsw_base.specs.declared.fault.BadFrame.{BadFrame}
use Rattle.vsw_base.specs.declared.header.Header.TheVariants.{Ether}
use Rattle.vsw_header.specs.declared.ether.EtherPart.{EtherPart}

-- what was read
abbrev pub ether_view : EtherPart → EtherFields
ether_view p = record { dst = p.dst; src = p.src; kind = p.kind; rest = p.rest.now }

abbrev pub ether_seen : Result EtherPart BadFrame → Result EtherFields BadFrame
ether_seen (Ok p) = Ok (ether_view p)
ether_seen (Err e) = Err e

-- destination, source, type
abbrev pub ether_bytes : ℕ → ℕ → ℕ → List ℕ
ether_bytes dst src kind = big_bytes 6 dst ++ big_bytes 6 src ++ big_bytes 2 kind

-- what was written is read back, whatever stands after it
abbrev pub ReadsBack : Type 0
ReadsBack = (dst src kind : ℕ) (rest : List ℕ) → IsFit (Ether dst src kind) → ether_of (ether_bytes dst src kind ++ rest) ≡ Ok (record { dst = dst; src = src; kind = kind; rest = rest })
