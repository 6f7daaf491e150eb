-- The pairs of a layer, as a list in order of number.
use Rattle.std.specs.Prelude.{◌≡◌, ℕ, ◌<◌, ◌==◌, ◌&&◌, ◌||◌, List, [], ◌∷◌, nat_le, Bool, true, false, not, filter, get_or, map, Option, Some, None, if◌then◌else◌}
use Rattle.vsw_base.specs.declared.packet.Dir.{Dir}
use Rattle.vsw_base.specs.declared.packet.Dir.TheVariants.{Out, In}
use Rattle.vsw_base.specs.Direction.{same_dir}
use Rattle.vsw_base.specs.declared.address.Addr.{Addr}
use Rattle.vsw_base.specs.declared.address.Addr.TheVariants as addr
use Rattle.vsw_base.specs.declared.flow.LayerKey.{LayerKey}
use Rattle.vsw_base.specs.declared.flow.Track.{Track}
use Rattle.vsw_layerflow.specs.declared.pair.Probe.{Probe}
use Rattle.vsw_layerflow.specs.declared.pair.Pair.{Pair}

-- the other direction
abbrev pub turned : Dir → Dir
turned Out = In
turned In = Out

-- whether two truth values are one
abbrev pub same_bool : Bool → Bool → Bool
same_bool true b = b
same_bool false b = not b

-- whether two addresses are one
abbrev pub same_addr : Addr → Addr → Bool
same_addr addr.Absent addr.Absent = true
same_addr (addr.Four a) (addr.Four b) = a == b
same_addr (addr.Six a) (addr.Six b) = a == b
same_addr addr.Absent (addr.Four b) = false
same_addr addr.Absent (addr.Six b) = false
same_addr (addr.Four a) addr.Absent = false
same_addr (addr.Four a) (addr.Six b) = false
same_addr (addr.Six a) addr.Absent = false
same_addr (addr.Six a) (addr.Four b) = false

-- whether two keys are one
abbrev pub same_key : LayerKey → LayerKey → Bool
same_key a b = a.encaps == b.encaps && (a.vni_outer == b.vni_outer && (a.vni_second == b.vni_second && (same_addr a.src b.src && (same_addr a.dst b.dst && (a.proto == b.proto && (same_bool a.part b.part && (a.src_port == b.src_port && a.dst_port == b.dst_port)))))))

-- whether two probes are one
abbrev pub same_probe : Probe → Probe → Bool
same_probe a b = same_dir a.dir b.dir && same_key a.key b.key

-- a direction and a key
abbrev pub probe : Dir → LayerKey → Probe
probe d k = record { dir = d; key = k }

-- a pair holds its forward key in its own direction, and its reverse key in the other
abbrev pub front : Pair → Probe
front p = probe p.dir p.forward

-- what replies look for
abbrev pub back : Pair → Probe
back p = probe (turned p.dir) p.reverse

-- a pair holds a direction and a key
abbrev pub holds : Probe → Pair → Bool
holds k p = same_probe (front p) k || same_probe (back p) k

-- the pair that holds what is looked for
abbrev pub holder : Probe → List Pair → Option Pair
holder k [] = None
holder k (p ∷ ps) = if holds k p then Some p else holder k ps

-- the pair that holds a direction and a key
abbrev pub pair_of : Dir → LayerKey → List Pair → Option Pair
pair_of d k ps = holder (probe d k) ps

-- the pair of a number
abbrev pub numbered : ℕ → List Pair → Option Pair
numbered n [] = None
numbered n (p ∷ ps) = if n == p.number then Some p else numbered n ps

-- a pair with another state and last use
abbrev pub with_use : Track → ℕ → Pair → Pair
with_use t m p = record { number = p.number; group = p.group; rule = p.rule; dir = p.dir; forward = p.forward; forward_set = p.forward_set; reverse = p.reverse; reverse_set = p.reverse_set; state = t; last_use = m }

-- a pair with another state and last use, if its number is this
abbrev pub touch_if : ℕ → Track → ℕ → Pair → Pair
touch_if n t m p = with_use (if n == p.number then t else p.state) (if n == p.number then m else p.last_use) p

-- the pair of this number gets another state and last use
abbrev pub touched : ℕ → Track → ℕ → List Pair → List Pair
touched n t m ps = map (touch_if n t m) ps

-- the pairs but the one of this number
abbrev pub without : ℕ → List Pair → List Pair
without n ps = filter (λ p. not (n == p.number)) ps

-- whether a rule made this pair
abbrev pub of_rule : ℕ → ℕ → Pair → Bool
of_rule g r p = p.group == g && p.rule == r

-- whether a rule of this group made this pair whose number is marked
abbrev pub of_marked : ℕ → List Bool → Pair → Bool
of_marked g marks p = p.group == g && get_or marks p.rule false

-- what a layer's pairs are, and for how many more there is room
pub record Pairs : Type 0 where
  pub pairs : List Pair
  pub spare : ℕ

-- its number in its layer
abbrev pub number_of : Pair → ℕ
number_of p = p.number

-- a pair at its place by number: before the first whose number isn't less
abbrev pub put_by_number : Pair → List Pair → List Pair
put_by_number p [] = p ∷ []
put_by_number p (q ∷ qs) = if nat_le p.number q.number then p ∷ q ∷ qs else q ∷ put_by_number p qs

-- every pair has a number below this
abbrev pub AllBelow : ℕ → List Pair → Type 0
AllBelow n [] = Unit {0}
AllBelow n (p ∷ ps) = (p.number < n) × AllBelow n ps

abbrev pub AllAbove : ℕ → List Pair → Type 0
AllAbove n [] = Unit {0}
AllAbove n (p ∷ ps) = (n < p.number) × AllAbove n ps

-- each pair has a number above those before it
abbrev pub AreRising : List Pair → Type 0
AreRising [] = Unit {0}
AreRising (p ∷ ps) = AllAbove p.number ps × AreRising ps

-- no probe and no number is held twice
abbrev pub AllApart : List Pair → Type 0
AllApart [] = Unit {0}
AllApart (p ∷ ps) = (holder (front p) ps ≡ None) × (holder (back p) ps ≡ None) × (numbered p.number ps ≡ None) × AllApart ps
