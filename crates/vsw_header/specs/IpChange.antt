-- An IPv4 header whose addresses are changed.
use Rattle.std.specs.Prelude.{ℕ, ◌/◌, ◌%◌, List, [], ◌∷◌, ◌++◌, take, drop}
use Rattle.byteorder.specs.Endian.{big_bytes, big_number}
use Rattle.vsw_header.specs.Update.{update_of}

-- the words of a source and a destination address
abbrev pub address_words : ℕ → ℕ → List ℕ
address_words src dst = src / 65536 ∷ src % 65536 ∷ dst / 65536 ∷ dst % 65536 ∷ []

-- the checksum that stands there, updated for the words of the addresses that differ (RFC 1624, equation 3)
abbrev pub checksum_changed : ℕ → ℕ → List ℕ → ℕ
checksum_changed src dst bytes = update_of (big_number 2 (drop 10 bytes)) (address_words (big_number 4 (drop 12 bytes)) (big_number 4 (drop 16 bytes))) (address_words src dst)

-- checksum, source and destination are written over those that stand there; the first ten bytes, and options and
-- payload, stay
abbrev pub ip_changed : ℕ → ℕ → List ℕ → List ℕ
ip_changed src dst bytes = take 10 bytes ++ (big_bytes 2 (checksum_changed src dst bytes) ++ (big_bytes 4 src ++ (big_bytes 4 dst ++ drop 20 bytes)))
