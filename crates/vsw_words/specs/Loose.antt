-- Headers read loosely from sixteen words. Numbers are cut to the ranges of their fields; type, protocol and the mark of a fragment say which
-- inner headers there are. So they are those of a stack, whatever the words are, and those of an identity where the words are its key.
use Rattle.std.specs.Prelude.{ℕ, ◌+◌, ◌*◌, ◌/◌, ◌%◌, ◌^◌, ◌==◌, ◌&&◌, ◌||◌, List, [], ◌∷◌, Bool, false, not, get_or, if◌then◌else◌}
use Rattle.vsw_base.specs.declared.header.Header.{Header}
use Rattle.vsw_base.specs.declared.header.Header.TheVariants.{Ether, Ip, Ports, Six}
use Rattle.vsw_base.specs.Shape.{ipv4_kind, ipv6_kind}
use Rattle.vsw_words.specs.declared.head.Head.{Head}
use Rattle.vsw_words.specs.Key.{head_bounds, vni_bounds}
use Rattle.vsw_words.specs.Id.{split, dir_of, outer_from}

-- the fields of a first word, but for those that tell whether IPv4, IPv6 and ports are there
abbrev pub head_of : ℕ → Head
head_of word = record {
  dir = dir_of (get_or (split head_bounds word) 1 0);
  count = get_or (split head_bounds word) 2 0;
  part = get_or (split head_bounds word) 5 0 == 1;
  proto = get_or (split head_bounds word) 7 0;
  kind = get_or (split head_bounds word) 8 0;
  src = get_or (split head_bounds word) 9 0;
  dst = get_or (split head_bounds word) 10 0;
}

abbrev pub mac : ℕ → ℕ
mac word = word % 2 ^ 48

-- the ports that a whole packet of TCP or UDP has
abbrev pub ports_by : Head → Bool → List Header
ports_by h part = if not part && ((h.proto == 6) || (h.proto == 17)) then Ports h.proto h.src h.dst ∷ [] else []

-- an address by its halves, at these two words
abbrev pub six_by : List ℕ → ℕ → ℕ
six_by ws at = get_or ws at 0 * 2 ^ 64 + get_or ws (at + 1) 0

-- the headers behind Ethernet, where the type is that of IPv4 or IPv6
abbrev pub packet_by : Head → ℕ → List ℕ → List Header
packet_by h pair ws =
    if h.kind == ipv4_kind then Ip (pair / 2 ^ 32) (pair % 2 ^ 32) h.proto h.part ∷ ports_by h h.part
    else if h.kind == ipv6_kind then Six (six_by ws 11) (six_by ws 13) h.proto ∷ ports_by h false
    else []

abbrev pub inner_by : Head → ℕ → ℕ → ℕ → List ℕ → List Header
inner_by h dst src pair ws = Ether (mac dst) (mac src) h.kind ∷ packet_by h pair ws

abbrev pub outer_by : ℕ → ℕ → ℕ → ℕ → List Header → List Header
outer_by dst src pair vni hs = outer_from (mac dst) (mac src) pair vni hs

-- the networks of both encapsulations
abbrev pub first_vni : ℕ → ℕ
first_vni word = get_or (split vni_bounds word) 0 0

abbrev pub second_vni : ℕ → ℕ
second_vni word = get_or (split vni_bounds word) 1 0

-- the headers behind this first word, with so many encapsulations; more than two count as two
abbrev pub headers_by : Head → List ℕ → List Header
headers_by h ws =
    if h.count == 0 then inner_by h (get_or ws 2 0) (get_or ws 3 0) (get_or ws 8 0) ws
    else if h.count == 1 then outer_by (get_or ws 2 0) (get_or ws 3 0) (get_or ws 8 0) (first_vni (get_or ws 1 0)) (inner_by h (get_or ws 4 0) (get_or ws 5 0) (get_or ws 9 0) ws)
    else outer_by (get_or ws 2 0) (get_or ws 3 0) (get_or ws 8 0) (first_vni (get_or ws 1 0))
    (outer_by (get_or ws 4 0) (get_or ws 5 0) (get_or ws 9 0) (second_vni (get_or ws 1 0)) (inner_by h (get_or ws 6 0) (get_or ws 7 0) (get_or ws 10 0) ws))

-- the headers that the words are of, or some others
abbrev pub stack_by : List ℕ → List Header
stack_by ws = headers_by (head_of (get_or ws 0 0)) ws
