-- The fields of an IPv6 header, one by one.
use Rattle.std.proofs.Common.{◌≡◌, ℕ, List, drop, take, slice_index, refl}
use Rattle.byteorder.specs.Endian.{big_number}
use Rattle.vsw_base.specs.Ipv6.{ip6_fields, ip6_total}

pub fields_are : (bytes : List ℕ) (s d : ℕ) (p t : List ℕ) → s ≡ big_number 16 (drop 8 bytes) → d ≡ big_number 16 (drop 24 bytes) → p ≡ drop 40 (take (ip6_total bytes) bytes) → t ≡ drop (ip6_total bytes) bytes
    → record { src = s; dst = d; proto = slice_index bytes 6; payload = p; trailer = t } ≡ ip6_fields bytes
fields_are bytes s d p t e f g h = rw (e, f, g, h) refl
