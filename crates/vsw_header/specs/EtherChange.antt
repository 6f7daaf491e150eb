-- An Ethernet header whose addresses are changed.
use Rattle.std.specs.Prelude.{ℕ, List, ◌++◌, drop}
use Rattle.byteorder.specs.Endian.{big_bytes}

-- destination and source are written over those that stand there; the type, and what follows, stay
abbrev pub ether_changed : ℕ → ℕ → List ℕ → List ℕ
ether_changed dst src bytes = big_bytes 6 dst ++ (big_bytes 6 src ++ drop 12 bytes)
