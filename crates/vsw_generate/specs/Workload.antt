-- A generated workload as a list.
use Rattle.std.specs.Prelude.{ℕ, zero, suc, ◌*◌, List, [], ◌∷◌}
use Rattle.vsw_generate.specs.Draws.{after}
use Rattle.vsw_generate.specs.Packets.{bytes_of}

-- as many packets as are left, drawn from this state on, where so many were given before: the moment of each, in microseconds, and its bytes. One comes
-- each millisecond
abbrev pub packets_from : (state given left : ℕ) → List (ℕ × List ℕ)
packets_from state given zero = []
packets_from state given (suc left) = (1000 * given, bytes_of state) ∷ packets_from (after state) (suc given) left

-- so many packets, drawn from this number
abbrev pub workload_of : (start packets : ℕ) → List (ℕ × List ℕ)
workload_of start packets = packets_from start 0 packets
