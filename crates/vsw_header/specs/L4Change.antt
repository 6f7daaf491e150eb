-- TCP and UDP headers whose endpoints are changed.
use Rattle.std.specs.Prelude.{ℕ, Bool, true, false, ◌/◌, ◌%◌, ◌==◌, List, [], ◌∷◌, ◌++◌, take, drop, if◌then◌else◌}
use Rattle.byteorder.specs.Endian.{big_bytes, big_number}
use Rattle.vsw_header.specs.declared.l4_change.Addresses.{Addresses}
use Rattle.vsw_header.specs.declared.l4_change.Addresses.TheVariants.{Four, Six}
use Rattle.vsw_header.specs.declared.l4_change.Endpoints.{Endpoints}
use Rattle.vsw_header.specs.Sum.{six_words}
use Rattle.vsw_header.specs.Update.{update_of, written}

-- the words of a packet's addresses
abbrev pub address_words : Addresses → List ℕ
address_words (Four src dst) = src / 65536 ∷ src % 65536 ∷ dst / 65536 ∷ dst % 65536 ∷ []
address_words (Six src dst) = six_words src ++ six_words dst

-- what the checksums of TCP and UDP count of a packet's endpoints: the words of the addresses, which stand in the
-- pseudo-header, and the ports
abbrev pub endpoint_words : Endpoints → List ℕ
endpoint_words e = address_words e.at ++ (e.src_port ∷ e.dst_port ∷ [])

abbrev pub is_four : Addresses → Bool
is_four (Four a b) = true
is_four (Six a b) = false

-- addresses of one kind
abbrev pub are_alike : Addresses → Addresses → Bool
are_alike (Four a b) (Four c d) = true
are_alike (Six a b) (Six c d) = true
are_alike (Four a b) (Six c d) = false
are_alike (Six a b) (Four c d) = false

-- a checksum of a packet whose endpoints change, updated for the words that differ (RFC 1624, equation 3)
abbrev pub checksum_changed : ℕ → Endpoints → Endpoints → ℕ
checksum_changed old from to = update_of old (endpoint_words from) (endpoint_words to)

-- TCP: the ports and the checksum are written over those that stand there, all else stays
abbrev pub tcp_changed : Endpoints → Endpoints → List ℕ → List ℕ
tcp_changed from to bytes = big_bytes 2 to.src_port ++ (big_bytes 2 to.dst_port ++ (take 12 (drop 4 bytes) ++ (big_bytes 2 (checksum_changed (big_number 2 (drop 16 bytes)) from to) ++ drop 18 bytes)))

-- UDP: 0 says that there is no checksum, and stays; where the updated one is 0, 0xffff is written (RFC 768)
abbrev pub udp_checksum_changed : ℕ → Endpoints → Endpoints → ℕ
udp_checksum_changed old from to = if old == 0 then 0 else written (checksum_changed old from to)

-- the ports and the checksum are written over those that stand there, all else stays
abbrev pub udp_changed : Endpoints → Endpoints → List ℕ → List ℕ
udp_changed from to bytes = big_bytes 2 to.src_port ++ (big_bytes 2 to.dst_port ++ (take 2 (drop 4 bytes) ++ (big_bytes 2 (udp_checksum_changed (big_number 2 (drop 6 bytes)) from to) ++ drop 8 bytes)))

-- UDP without a checksum: 0 is written over it, all else stays
abbrev pub unchecked : List ℕ → List ℕ
unchecked bytes = take 6 bytes ++ (0 ∷ 0 ∷ drop 8 bytes)
