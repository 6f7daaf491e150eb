-- What leaves is bytes, where the frame was.
use Rattle.std.proofs.Common.{◌≡◌, ◌≤◌, ◌<◌, ℕ, zero, suc, ◌+◌, ◌*◌, ◌/◌, ◌%◌, ◌^◌, ◌==◌, Bool, true, false, if◌then◌else◌, List, [], ◌∷◌, ◌++◌, length, take, drop, Option, Some, None, Ok, ap, sym, subst, arith, length-append}
use Rattle.hex.specs.Hex.{IsBytes}
use Rattle.byteorder.specs.Endian.{big_bytes, big_number}
use Rattle.vsw_base.proofs.Readings.{short_is}
use Rattle.vsw_base.specs.declared.header.Header.{Header}
use Rattle.vsw_base.specs.declared.header.Header.TheVariants.{Ether, Ip, Vxlan, Six}
use Rattle.vsw_base.specs.Frame.{Level, Parts, frame_of, size_at}
use Rattle.vsw_base.specs.Shape.{inner, ipv4_kind}
use Rattle.vsw_frame.specs.Bytes.{levels_changed, outgoing, pushes, drops, source_port}
use Rattle.vsw_frame.specs.Change.{addresses_changed, frame_changed, over_changed, packet_changed, segment_changed}
use Rattle.vsw_frame.specs.Differ.{differ}
use Rattle.vsw_frame.specs.Headers.{ends_with}
use Rattle.vsw_frame.specs.Kept.{udp_at, udp_kept}
use Rattle.vsw_frame.specs.Push.{encap_pushed, packet_pushed, pushed}
use Rattle.vsw_frame.proofs.Cases.{read_in}
use Rattle.vsw_frame.proofs.Tiles.{frame_tiles}
use Rattle.vsw_frame.specs.Room.{header_of}
use Rattle.vsw_frame.specs.Tiles.{Surrounds, TilesAt, outermost}
use Rattle.vsw_header.specs.Ether.{ether_bytes}
use Rattle.vsw_header.specs.EtherChange.{ether_changed}
use Rattle.vsw_header.specs.Ip.{ip_bytes, pushed_checksum, pushed_ip_bytes}
use Rattle.vsw_header.specs.Ip6.{ip6_changed}
use Rattle.vsw_header.specs.IpChange as ip
use Rattle.vsw_header.specs.IpChange.{ip_changed}
use Rattle.vsw_header.specs.L4Change.{are_alike, checksum_changed, tcp_changed, udp_changed, udp_checksum_changed}
use Rattle.vsw_header.specs.declared.l4_change.Addresses.{Addresses}
use Rattle.vsw_header.specs.declared.l4_change.Addresses.TheVariants as at
use Rattle.vsw_header.specs.declared.l4_change.Endpoints.{Endpoints}
use Rattle.vsw_header.specs.Vxlan.{udp_vxlan_bytes, vxlan_bytes}

-- ---- lists of bytes

pub no_bytes : IsBytes []
no_bytes i = omega arith

one_more : (b : ℕ) (xs : List ℕ) → b < 256 → IsBytes xs → IsBytes (b ∷ xs)
one_more b xs h hs zero = h
one_more b xs h hs (suc i) = hs i

both : (xs ys : List ℕ) → IsBytes xs → IsBytes ys → IsBytes (xs ++ ys)
both [] ys h k = k
both (x ∷ xs) ys h k = one_more x (xs ++ ys) (h 0) (both xs ys (λ i. h (suc i)) k)

pub front : (n : ℕ) (xs : List ℕ) → IsBytes xs → IsBytes (take n xs)
front zero xs h = no_bytes
front (suc n) [] h = no_bytes
front (suc n) (x ∷ xs) h = one_more x (take n xs) (h 0) (front n xs (λ i. h (suc i)))

pub rest : (n : ℕ) (xs : List ℕ) → IsBytes xs → IsBytes (drop n xs)
rest zero xs h = h
rest (suc n) [] h = no_bytes
rest (suc n) (x ∷ xs) h = rest n xs (λ i. h (suc i))

below : (n : ℕ) → n % 256 < 256
below n = omega arith

number_bytes : (n x : ℕ) → IsBytes (big_bytes n x)
number_bytes zero x = no_bytes
number_bytes (suc zero) x = one_more (x % 256) [] (below x) no_bytes
number_bytes (suc (suc n)) x = one_more (x / 256 ^ suc n % 256) (big_bytes (suc n) x) (below (x / 256 ^ suc n)) (number_bytes (suc n) x)

zeros : IsBytes (0 ∷ 0 ∷ [])
zeros = one_more 0 (0 ∷ []) (omega arith) (one_more 0 [] (omega arith) no_bytes)

-- ---- headers that are changed

ether_bytes_changed : (dst src : ℕ) (bytes : List ℕ) → IsBytes bytes → IsBytes (ether_changed dst src bytes)
ether_bytes_changed dst src bytes h = both (big_bytes 6 dst) (big_bytes 6 src ++ drop 12 bytes) (number_bytes 6 dst) (both (big_bytes 6 src) (drop 12 bytes) (number_bytes 6 src) (rest 12 bytes h))

ip_bytes_changed : (src dst : ℕ) (bytes : List ℕ) → IsBytes bytes → IsBytes (ip_changed src dst bytes)
ip_bytes_changed src dst bytes h =
    let last = both (big_bytes 4 dst) (drop 20 bytes) (number_bytes 4 dst) (rest 20 bytes h) in
    let behind = both (big_bytes 4 src) (big_bytes 4 dst ++ drop 20 bytes) (number_bytes 4 src) last in
    let sum = both (big_bytes 2 (ip.checksum_changed src dst bytes)) (big_bytes 4 src ++ (big_bytes 4 dst ++ drop 20 bytes)) (number_bytes 2 (ip.checksum_changed src dst bytes)) behind in
    both (take 10 bytes) (big_bytes 2 (ip.checksum_changed src dst bytes) ++ (big_bytes 4 src ++ (big_bytes 4 dst ++ drop 20 bytes))) (front 10 bytes h) sum

ip6_bytes_changed : (src dst : ℕ) (bytes : List ℕ) → IsBytes bytes → IsBytes (ip6_changed src dst bytes)
ip6_bytes_changed src dst bytes h =
    both (take 8 bytes) (big_bytes 16 src ++ (big_bytes 16 dst ++ drop 40 bytes)) (front 8 bytes h)
    (both (big_bytes 16 src) (big_bytes 16 dst ++ drop 40 bytes) (number_bytes 16 src) (both (big_bytes 16 dst) (drop 40 bytes) (number_bytes 16 dst) (rest 40 bytes h)))

addresses_bytes : (a : Addresses) (bytes : List ℕ) → IsBytes bytes → IsBytes (addresses_changed a bytes)
addresses_bytes (at.Four src dst) bytes h = ip_bytes_changed src dst bytes h
addresses_bytes (at.Six src dst) bytes h = ip6_bytes_changed src dst bytes h

tcp_bytes : (from to : Endpoints) (bytes : List ℕ) → IsBytes bytes → IsBytes (tcp_changed from to bytes)
tcp_bytes from to bytes h =
    let sum = checksum_changed (big_number 2 (drop 16 bytes)) from to in
    let last = both (big_bytes 2 sum) (drop 18 bytes) (number_bytes 2 sum) (rest 18 bytes h) in
    let kept = both (take 12 (drop 4 bytes)) (big_bytes 2 sum ++ drop 18 bytes) (front 12 (drop 4 bytes) (rest 4 bytes h)) last in
    both (big_bytes 2 to.src_port) (big_bytes 2 to.dst_port ++ (take 12 (drop 4 bytes) ++ (big_bytes 2 sum ++ drop 18 bytes))) (number_bytes 2 to.src_port)
    (both (big_bytes 2 to.dst_port) (take 12 (drop 4 bytes) ++ (big_bytes 2 sum ++ drop 18 bytes)) (number_bytes 2 to.dst_port) kept)

udp_bytes : (from to : Endpoints) (bytes : List ℕ) → IsBytes bytes → IsBytes (udp_changed from to bytes)
udp_bytes from to bytes h =
    let sum = udp_checksum_changed (big_number 2 (drop 6 bytes)) from to in
    let last = both (big_bytes 2 sum) (drop 8 bytes) (number_bytes 2 sum) (rest 8 bytes h) in
    let kept = both (take 2 (drop 4 bytes)) (big_bytes 2 sum ++ drop 8 bytes) (front 2 (drop 4 bytes) (rest 4 bytes h)) last in
    both (big_bytes 2 to.src_port) (big_bytes 2 to.dst_port ++ (take 2 (drop 4 bytes) ++ (big_bytes 2 sum ++ drop 8 bytes))) (number_bytes 2 to.src_port)
    (both (big_bytes 2 to.dst_port) (take 2 (drop 4 bytes) ++ (big_bytes 2 sum ++ drop 8 bytes)) (number_bytes 2 to.dst_port) kept)

segment_bytes : (proto : ℕ) (from to : Endpoints) (bytes : List ℕ) → IsBytes bytes → IsBytes (segment_changed proto from to bytes)
segment_bytes proto from to bytes h = by (proto == 6)
  where
    by : (b : Bool) → IsBytes (if b then tcp_changed from to bytes else udp_changed from to bytes)
    by true = tcp_bytes from to bytes h
    by false = udp_bytes from to bytes h

over_bytes : (m n : Option ℕ) (from to : Endpoints) (bytes : List ℕ) → IsBytes bytes → IsBytes (over_changed m n from to bytes)
over_bytes None n from to bytes h = addresses_bytes to.at bytes h
over_bytes (Some proto) None from to bytes h = addresses_bytes to.at bytes h
over_bytes (Some proto) (Some over) from to bytes h =
    let n = header_of to.at bytes in
    both (addresses_changed to.at (take n bytes)) (segment_changed over from to (drop n bytes)) (addresses_bytes to.at (take n bytes) (front n bytes h)) (segment_bytes over from to (drop n bytes) (rest n bytes h))

if_alike : (b : Bool) (m n : Option ℕ) (from to : Endpoints) (bytes : List ℕ) → IsBytes bytes → IsBytes (if b then over_changed m n from to bytes else bytes)
if_alike true m n from to bytes h = over_bytes m n from to bytes h
if_alike false m n from to bytes h = h

packet_bytes : (hs gs : List Header) (bytes : List ℕ) → IsBytes bytes → IsBytes (packet_changed hs gs bytes)
packet_bytes (Ip a b p f ∷ hs) (Ip c d q g ∷ gs) bytes h =
    let from = ends_with (at.Four a b) hs in
    let to = ends_with (at.Four c d) gs in
    if_alike (are_alike from.at.at to.at.at) from.over to.over from.at to.at bytes h
packet_bytes (Six a b p ∷ hs) (Six c d q ∷ gs) bytes h =
    let from = ends_with (at.Six a b) hs in
    let to = ends_with (at.Six c d) gs in
    if_alike (are_alike from.at.at to.at.at) from.over to.over from.at to.at bytes h
packet_bytes (Ip a b p f ∷ hs) (Six c d q ∷ gs) bytes h =
    let from = ends_with (at.Four a b) hs in
    let to = ends_with (at.Six c d) gs in
    if_alike (are_alike from.at.at to.at.at) from.over to.over from.at to.at bytes h
packet_bytes (Six a b p ∷ hs) (Ip c d q g ∷ gs) bytes h =
    let from = ends_with (at.Six a b) hs in
    let to = ends_with (at.Four c d) gs in
    if_alike (are_alike from.at.at to.at.at) from.over to.over from.at to.at bytes h
packet_bytes hs gs bytes h = h

frame_bytes : (hs gs : List Header) (bytes : List ℕ) → IsBytes bytes → IsBytes (frame_changed hs gs bytes)
frame_bytes (Ether d s k ∷ hs) (Ether dst src kind ∷ gs) bytes h =
    both (ether_changed dst src (take 14 bytes)) (packet_changed hs gs (drop 14 bytes)) (ether_bytes_changed dst src (take 14 bytes) (front 14 bytes h)) (packet_bytes hs gs (drop 14 bytes) (rest 14 bytes h))
frame_bytes hs gs bytes h = h

kept_bytes : (changed : Bool) (bytes : List ℕ) → IsBytes bytes → IsBytes (udp_kept changed bytes)
kept_bytes false bytes h = h
kept_bytes true bytes h = both (take 6 bytes) (0 ∷ 0 ∷ drop 8 bytes) (front 6 bytes h) (both (0 ∷ 0 ∷ []) (drop 8 bytes) zeros (rest 8 bytes h))

-- ---- levels

-- a level is bytes, no more than so many
pub record IsLevel (most : ℕ) (l : Level) : Type 0 where
  pub bytes : IsBytes l.bytes
  pub slack : IsBytes l.slack
  pub trailer : IsBytes l.trailer
  pub few : length l.bytes ≤ most

abbrev pub AllLevels : ℕ → List Level → Type 0
AllLevels most [] = Unit {0}
AllLevels most (l ∷ ls) = IsLevel most l × AllLevels most ls

changed_bytes : (from to : List Header) (most : ℕ) (ls : List Level) → AllLevels most ls → IsBytes (levels_changed from to ls)
changed_bytes from to most [] e = no_bytes
changed_bytes from to most (l ∷ []) e = frame_bytes from to l.bytes e.0.bytes
changed_bytes from to most (l ∷ m ∷ ls) e =
    let u = udp_at l.bytes in
    let inside = levels_changed from to (m ∷ ls) in
    let written = udp_kept (differ from to) (take 16 (drop u l.bytes)) in
    let ends = both l.slack l.trailer e.0.slack e.0.trailer in
    both (take u l.bytes) (written ++ (inside ++ (l.slack ++ l.trailer))) (front u l.bytes e.0.bytes)
    (both written (inside ++ (l.slack ++ l.trailer)) (kept_bytes (differ from to) (take 16 (drop u l.bytes)) (front 16 (drop u l.bytes) (rest u l.bytes e.0.bytes)))
    (both inside (l.slack ++ l.trailer) (changed_bytes from to most (m ∷ ls) e.1) ends))

fewer_levels : (most n : ℕ) (ls : List Level) → AllLevels most ls → AllLevels most (drop n ls)
fewer_levels most zero ls e = e
fewer_levels most (suc n) [] e = tt
fewer_levels most (suc n) (l ∷ ls) e = fewer_levels most n ls e.1

-- ---- encapsulations in front

ip_are_bytes : (src dst total sum : ℕ) → IsBytes (ip_bytes src dst total sum)
ip_are_bytes src dst total sum =
    both ((0x45 ∷ 0 ∷ []) ++ big_bytes 2 total ++ big_bytes 2 0 ++ big_bytes 2 0x4000 ++ (64 ∷ 17 ∷ []) ++ big_bytes 2 sum ++ big_bytes 4 src) (big_bytes 4 dst)
    (both ((0x45 ∷ 0 ∷ []) ++ big_bytes 2 total ++ big_bytes 2 0 ++ big_bytes 2 0x4000 ++ (64 ∷ 17 ∷ []) ++ big_bytes 2 sum) (big_bytes 4 src)
    (both ((0x45 ∷ 0 ∷ []) ++ big_bytes 2 total ++ big_bytes 2 0 ++ big_bytes 2 0x4000 ++ (64 ∷ 17 ∷ [])) (big_bytes 2 sum)
    (both ((0x45 ∷ 0 ∷ []) ++ big_bytes 2 total ++ big_bytes 2 0 ++ big_bytes 2 0x4000) (64 ∷ 17 ∷ [])
    (both ((0x45 ∷ 0 ∷ []) ++ big_bytes 2 total ++ big_bytes 2 0) (big_bytes 2 0x4000)
    (both ((0x45 ∷ 0 ∷ []) ++ big_bytes 2 total) (big_bytes 2 0)
    (both (0x45 ∷ 0 ∷ []) (big_bytes 2 total) (one_more 0x45 (0 ∷ []) (omega arith) (one_more 0 [] (omega arith) no_bytes)) (number_bytes 2 total)) (number_bytes 2 0)) (number_bytes 2 0x4000))
    (one_more 64 (17 ∷ []) (omega arith) (one_more 17 [] (omega arith) no_bytes))) (number_bytes 2 sum)) (number_bytes 4 src)) (number_bytes 4 dst)

vxlan_are_bytes : (vni : ℕ) → IsBytes (vxlan_bytes vni)
vxlan_are_bytes vni =
    both ((0x08 ∷ 0 ∷ 0 ∷ 0 ∷ []) ++ big_bytes 3 vni) (0 ∷ [])
    (both (0x08 ∷ 0 ∷ 0 ∷ 0 ∷ []) (big_bytes 3 vni) (one_more 0x08 (0 ∷ 0 ∷ 0 ∷ []) (omega arith) (one_more 0 (0 ∷ 0 ∷ []) (omega arith) zeros)) (number_bytes 3 vni))
    (one_more 0 [] (omega arith) no_bytes)

udp_are_bytes : (port n vni : ℕ) → IsBytes (udp_vxlan_bytes port n vni)
udp_are_bytes port n vni =
    both (big_bytes 2 port ++ big_bytes 2 4789 ++ big_bytes 2 (n + 16) ++ big_bytes 2 0) (vxlan_bytes vni)
    (both (big_bytes 2 port ++ big_bytes 2 4789 ++ big_bytes 2 (n + 16)) (big_bytes 2 0)
    (both (big_bytes 2 port ++ big_bytes 2 4789) (big_bytes 2 (n + 16)) (both (big_bytes 2 port) (big_bytes 2 4789) (number_bytes 2 port) (number_bytes 2 4789)) (number_bytes 2 (n + 16))) (number_bytes 2 0)) (vxlan_are_bytes vni)

ether_are_bytes : (dst src kind : ℕ) → IsBytes (ether_bytes dst src kind)
ether_are_bytes dst src kind = both (big_bytes 6 dst ++ big_bytes 6 src) (big_bytes 2 kind) (both (big_bytes 6 dst) (big_bytes 6 src) (number_bytes 6 dst) (number_bytes 6 src)) (number_bytes 2 kind)

encap_bytes : (port dst src src_ip dst_ip vni : ℕ) (frame : List ℕ) → IsBytes frame → IsBytes (encap_pushed port dst src src_ip dst_ip vni frame)
encap_bytes port dst src src_ip dst_ip vni frame h =
    let total = length frame + 36 in
    both (ether_bytes dst src ipv4_kind) (packet_pushed port src_ip dst_ip vni frame) (ether_are_bytes dst src ipv4_kind)
    (both (pushed_ip_bytes src_ip dst_ip total) (udp_vxlan_bytes port (length frame) vni ++ frame) (ip_are_bytes src_ip dst_ip total (pushed_checksum src_ip dst_ip total))
    (both (udp_vxlan_bytes port (length frame) vni) frame (udp_are_bytes port (length frame) vni) h))

pushed_bytes : (port : ℕ) (hs : List Header) (frame : List ℕ) → IsBytes frame → IsBytes (pushed port hs frame)
pushed_bytes port (Ether d s k ∷ Ip a b p f ∷ Vxlan v ∷ hs) frame h = encap_bytes port d s a b v (pushed port hs frame) (pushed_bytes port hs frame h)
pushed_bytes port hs frame h = h

pub outgoing_bytes : (most : ℕ) (p : Parts) (edited : List Header) (kept : ℕ) → AllLevels most p.levels → IsBytes (outgoing p edited kept)
outgoing_bytes most p edited kept e =
    pushed_bytes (source_port edited) (take (3 * pushes edited kept) edited) (levels_changed (inner p.stack) (inner edited) (drop (drops p kept) p.levels))
    (changed_bytes (inner p.stack) (inner edited) most (drop (drops p kept) p.levels) (fewer_levels most (drops p kept) p.levels e))

-- ---- the levels of a frame

left : (xs ys : List ℕ) → IsBytes (xs ++ ys) → IsBytes xs
left [] ys h = no_bytes
left (x ∷ xs) ys h = one_more x xs (h 0) (left xs ys (λ i. h (suc i)))

right : (xs ys : List ℕ) → IsBytes (xs ++ ys) → IsBytes ys
right [] ys h = h
right (x ∷ xs) ys h = right xs ys (λ i. h (suc i))

level_known : (most : ℕ) (l : Level) (inside : List ℕ) → Surrounds l inside → IsBytes l.bytes → length l.bytes ≤ most → IsLevel most l × IsBytes inside × (length inside ≤ most)
level_known most l inside s h few =
    let ends = l.slack ++ l.trailer in
    let all : IsBytes (s.0 ++ (inside ++ ends)) = subst IsBytes s.1 h in
    let behind : IsBytes (inside ++ ends) = right s.0 (inside ++ ends) all in
    let last : IsBytes ends = right inside ends behind in
    let size : length l.bytes ≡ length (s.0 ++ (inside ++ ends)) = ap length s.1 in (
      record { bytes = h; slack = left l.slack l.trailer last; trailer = right l.slack l.trailer last; few = few },
      left inside ends behind,
      omega (arith, few, size, length-append s.0 (inside ++ ends), length-append inside ends),
    )

levels_known : (most : ℕ) (ls : List Level) (payload : List ℕ) → TilesAt ls payload → IsBytes (outermost ls) → length (outermost ls) ≤ most → AllLevels most ls
levels_known most [] payload t h few = tt
levels_known most (l ∷ []) payload t h few = ((level_known most l payload t h few).0, tt)
levels_known most (l ∷ m ∷ ls) payload t h few =
    let k = level_known most l m.bytes t.0 h few in
    (k.0, levels_known most (m ∷ ls) payload t.1 k.1 k.2)

pub frame_levels : (bytes : List ℕ) (p : Parts) → frame_of bytes ≡ Ok p → IsBytes bytes → AllLevels 65600 p.levels
frame_levels bytes p e h =
    let r = read_in bytes p e in
    let t = frame_tiles 2 bytes p r.1 in
    levels_known 65600 p.levels p.payload t.tiled (subst IsBytes (sym t.whole) h) (subst (λ w. length w ≤ 65600) (sym t.whole) (short_is (length bytes) r.0))

pub size_few : (most n : ℕ) (ls : List Level) → AllLevels most ls → size_at n ls ≤ most
size_few most n [] e = omega arith
size_few most zero (l ∷ ls) e = e.0.few
size_few most (suc n) (l ∷ ls) e = size_few most n ls e.1
