-- A pushed encapsulation is read around its frame.
use Rattle.std.proofs.Common.{◌≡◌, ℕ, ◌+◌, ◌^◌, ◌<◌, List, [], ◌∷◌, ◌++◌, false, drop, Option, Some, option_map, Ok, refl, ◌∙◌, ap, arith, length, take_all}
use Rattle.std.proofs.lemmas.List.{drop_all}
use Rattle.vsw_base.specs.declared.header.Header.TheVariants.{Ether, Ip}
use Rattle.vsw_base.specs.Ethernet.{EtherFields}
use Rattle.vsw_base.specs.Ipv4.{IpFields, ip_of}
use Rattle.vsw_base.specs.Udp.{UdpFields, udp_of}
use Rattle.vsw_base.specs.Shape.{ipv4_kind}
use Rattle.vsw_base.specs.Vxlan.{vxlan_port}
use Rattle.vsw_base.specs.Frame as frame
use Rattle.vsw_base.specs.Frame.{Opened, End, opened_of, slack_in, within}
use Rattle.vsw_header.specs.Ip.{pushed_ip_bytes}
use Rattle.vsw_header.proofs.IpBack as ip
use Rattle.vsw_header.specs.Vxlan.{udp_vxlan_bytes, vxlan_bytes}
use Rattle.vsw_header.proofs.L4Back as l4
use Rattle.vsw_header.proofs.EtherBack as link
use Rattle.vsw_frame.specs.Push.{encap_pushed, packet_pushed}
use Rattle.vsw_frame.proofs.Openings.{end_udp, opened_over}

abbrev pub pushed_end : ℕ → ℕ → List ℕ → End
pushed_end port vni inner = frame.OverUdp (record { src = port; dst = vxlan_port; payload = vxlan_bytes vni ++ inner; slack = [] })

-- what is read of a pushed encapsulation
abbrev pub pushed_opened : ℕ → ℕ → ℕ → ℕ → ℕ → ℕ → List ℕ → Opened
pushed_opened port dst src a b vni inner = record { front = Ether dst src 2048 ∷ Ip a b 17 false ∷ []; trailer = []; end = pushed_end port vni inner }

abbrev ip_at : ℕ → ℕ → List ℕ → List ℕ → IpFields
ip_at a b payload trailer = record { src = a; dst = b; proto = 17; part = false; payload = payload; trailer = trailer }

abbrev udp_at : ℕ → List ℕ → List ℕ → UdpFields
udp_at port payload slack = record { src = port; dst = vxlan_port; payload = payload; slack = slack }

packet_is : (port a b vni : ℕ) (inner : List ℕ) → a < 2 ^ 32 → b < 2 ^ 32 → length inner + 36 < 2 ^ 16 → ip_of (packet_pushed port a b vni inner) ≡ Ok (ip_at a b (udp_vxlan_bytes port (length inner) vni ++ inner) [])
packet_is port a b vni inner ha hb l =
    let rest = udp_vxlan_bytes port (length inner) vni ++ inner in
    let n = length inner + 16 in
    let size : length rest ≡ n = omega arith in
    ap (λ (k : ℕ). ip_of (pushed_ip_bytes a b k ++ rest)) (omega arith)
    ∙ ip.reads_back a b n rest ha hb (omega (arith, l)) (omega (arith, size))
    ∙ ap (λ (x : List ℕ). Ok (ip_at a b x (drop n rest))) (take_all n rest (omega (arith, size)))
    ∙ ap (λ (x : List ℕ). Ok (ip_at a b rest x)) (drop_all n rest (omega (arith, size)))

udp_is : (port vni : ℕ) (inner : List ℕ) → port < 2 ^ 16 → length inner + 36 < 2 ^ 16 → udp_of (udp_vxlan_bytes port (length inner) vni ++ inner) ≡ Ok (udp_at port (vxlan_bytes vni ++ inner) [])
udp_is port vni inner hp l =
    let n = length inner in
    l4.reads_udp_back port n vni inner hp (omega (arith, l)) (omega arith)
    ∙ ap (λ (x : List ℕ). Ok (udp_at port (vxlan_bytes vni ++ x) (drop n inner))) (take_all n inner (omega arith))
    ∙ ap (λ (x : List ℕ). Ok (udp_at port (vxlan_bytes vni ++ inner) x)) (drop_all n inner (omega arith))

pub pushed_read : (port dst src a b vni : ℕ) (inner : List ℕ) → port < 2 ^ 16 → dst < 2 ^ 48 → src < 2 ^ 48 → a < 2 ^ 32 → b < 2 ^ 32 → length inner + 36 < 2 ^ 16 → opened_of (encap_pushed port dst src a b vni inner) ≡ Ok (pushed_opened port dst src a b vni inner)
pushed_read port dst src a b vni inner hp hd hs ha hb l =
    let packet = packet_pushed port a b vni inner in
    let e : EtherFields = record { dst = dst; src = src; kind = 2048; rest = packet } in
    let i = ip_at a b (udp_vxlan_bytes port (length inner) vni ++ inner) [] in
    opened_over (encap_pushed port dst src a b vni inner) e i (pushed_end port vni inner) (link.reads_back dst src ipv4_kind packet (hd, hs, omega arith)) refl (packet_is port a b vni inner ha hb l) (end_udp i (udp_at port (vxlan_bytes vni ++ inner) []) refl refl (udp_is port vni inner hp l))

pub pushed_within : (port vni : ℕ) (inner : List ℕ) → vni < 2 ^ 24 → within (pushed_end port vni inner) ≡ Some (vni, inner)
pushed_within port vni inner h = ap (λ (r : Option ℕ). option_map (λ v. (v, inner)) r) (l4.reads_vni_back vni inner h)
