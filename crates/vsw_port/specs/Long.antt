-- How long a packet gets, and when that is more than an IPv4 header can tell.
use Rattle.std.specs.Prelude.{ℕ, zero, suc, ◌+◌, ◌-◌, ◌*◌, List, Bool, nat_lt}
use Rattle.vsw_base.specs.declared.flow.Crossing.{Crossing}
use Rattle.vsw_base.specs.declared.header.Header.{Header}
use Rattle.vsw_base.specs.declared.packet.Sizes.{Sizes}
use Rattle.vsw_base.specs.Shape.{encaps}
use Rattle.vsw_frame.specs.Bytes.{pushes, total_over}

-- the bytes of a frame without so many of its encapsulations
abbrev pub size_without : Sizes → ℕ → ℕ
size_without s zero = s.whole
size_without s (suc zero) = s.one
size_without s (suc (suc n)) = s.two

-- the outermost IPv4 total length of a frame with this edited stack, so many of whose encapsulations were kept; 0 where none was pushed
abbrev pub outer_total : Crossing → List Header → ℕ → ℕ
outer_total x edited kept = total_over (pushes edited kept) (size_without x.sizes (encaps x.id.stack - kept))

-- it doesn't fit the 16 bits of that length
abbrev pub is_long : Crossing → List Header → ℕ → Bool
is_long x edited kept = nat_lt 65535 (outer_total x edited kept)

-- the bytes of what leaves with this edited stack, told by the frame's sizes: those without the dropped encapsulations, and 50 for each that
-- is pushed
abbrev pub outgoing_size : Crossing → List Header → ℕ → ℕ
outgoing_size x edited kept = size_without x.sizes (encaps x.id.stack - kept) + 50 * pushes edited kept
