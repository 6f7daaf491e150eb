-- IPv4 header checksums that are right, and what becomes of them where addresses change.
use Rattle.std.specs.Prelude.{◌≡◌, ◌≤◌, ◌<◌, ◌^◌, ◌/◌, ℕ, List, ◌∷◌, ◌++◌, length, take, drop, slice_index, ◌⊎◌}
use Rattle.byteorder.specs.Endian.{big_number}
use Rattle.vsw_base.specs.Ipv4.{ip_header}
use Rattle.vsw_header.specs.Sum.{AreBytes, checksum, words_of}
use Rattle.vsw_header.specs.Update.{IsOtherZero}
use Rattle.vsw_header.specs.IpChange.{ip_changed}

-- the bytes begin with a header of version 4, with its options
pub record IsHeader (bytes : List ℕ) : Type 0 where
  pub version : slice_index bytes 0 / 16 ≡ 4
  pub least : 20 ≤ ip_header bytes
  pub whole : ip_header bytes ≤ length bytes

-- the words that the checksum is taken over (RFC 791, section 3.1): those of the header, options included, with 0 in the
-- checksum's place
abbrev pub header_words : List ℕ → List ℕ
header_words bytes = words_of (take 10 bytes ++ (0 ∷ 0 ∷ drop 12 (take (ip_header bytes) bytes)))

-- the checksum that stands there
abbrev pub header_checksum : List ℕ → ℕ
header_checksum bytes = big_number 2 (drop 10 bytes)

abbrev pub IsRight : List ℕ → Type 0
IsRight bytes = header_checksum bytes ≡ checksum (header_words bytes)

-- a checksum that was right is right for the new addresses
abbrev pub StaysRight : Type 0
StaysRight = (src dst : ℕ) (bytes : List ℕ) → src < 2 ^ 32 → dst < 2 ^ 32 → AreBytes bytes → IsHeader bytes → IsRight bytes → IsRight (ip_changed src dst bytes)

-- one that was wrong isn't made right, but where it was the other zero
abbrev pub StaysWrong : Type 0
StaysWrong = (src dst : ℕ) (bytes : List ℕ) → src < 2 ^ 32 → dst < 2 ^ 32 → AreBytes bytes → IsHeader bytes → IsRight (ip_changed src dst bytes) → IsRight bytes ⊎ IsOtherZero (header_checksum bytes) (checksum (header_words bytes))
