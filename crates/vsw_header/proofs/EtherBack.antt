-- What was written is read back.
use Rattle.std.proofs.Common.{◌≡◌, ℕ, ◌^◌, ◌<◌, ◌≤◌, List, ◌++◌, drop, length, refl, arith}
use Rattle.std.specs.Prelude.{Ok}
use Rattle.std.proofs.lemmas.Grind.{common_steps}
use Rattle.byteorder.specs.Endian.{big_bytes, big_number}
use Rattle.vsw_base.specs.Ethernet.{ether_of}
use Rattle.vsw_header.specs.Ether.{ReadsBack, ether_bytes}
use Rattle.vsw_base.proofs.Numbers.{two_is}

six_is : (x : ℕ) → x < 2 ^ 48 → big_number 6 (big_bytes 6 x) ≡ x
six_is x h = omega arith

ether_is : (bytes rest : List ℕ) (dst src kind : ℕ) → 14 ≤ length bytes → big_number 6 bytes ≡ dst → big_number 6 (drop 6 bytes) ≡ src → big_number 2 (drop 12 bytes) ≡ kind → drop 14 bytes ≡ rest → ether_of bytes ≡ Ok (record { dst = dst; src = src; kind = kind; rest = rest })
ether_is bytes rest dst src kind l d s k r = grind (arith, common_steps)

pub reads_back : ReadsBack
reads_back dst src kind rest f = ether_is (ether_bytes dst src kind ++ rest) rest dst src kind (omega arith) (six_is dst f.0) (six_is src f.1) (two_is kind f.2) refl
