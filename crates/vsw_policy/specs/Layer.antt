-- A layer as contracts see it, and one with other parts.
use Rattle.std.specs.Prelude.{◌≡◌, ℕ, ◌<◌, ◌+◌, ◌-◌, ◌^◌, List, [], ◌∷◌, ◌++◌, length, Bool, None}
use Rattle.vsw_base.specs.declared.packet.Dir.{Dir}
use Rattle.vsw_base.specs.declared.packet.Dir.TheVariants.{Out, In}
use Rattle.vsw_base.specs.declared.flow.Track.{Track}
use Rattle.vsw_layerflow.specs.declared.pair.Pair.{Pair}
use Rattle.vsw_layerflow.specs.Pairs.{pair_of, turned, touched, without, AllBelow}
use Rattle.vsw_rule.specs.declared.rule.Group.{Group}
use Rattle.vsw_policy.specs.declared.layer.LayerSpec.{LayerSpec}
use Rattle.vsw_policy.specs.declared.layer.Layer.{Layer}

-- a layer, but for the room that its flows have
pub record LayerSeen : Type 0 where
  pub controller : ℕ
  pub spec : LayerSpec
  pub groups : List Group
  pub pairs : List Pair
  pub next_pair : ℕ

abbrev pub seen : Layer → LayerSeen
seen l = record { controller = l.controller; spec = l.spec; groups = l.groups; pairs = l.flows.pairs; next_pair = l.next_pair }

-- for how many more pairs it has room
abbrev pub room : Layer → ℕ
room l = l.flows.spare

-- a layer with other parts
abbrev pub with_spec : LayerSpec → LayerSeen → LayerSeen
with_spec s l = record { controller = l.controller; spec = s; groups = l.groups; pairs = l.pairs; next_pair = l.next_pair }

-- a layer with other groups and pairs
abbrev pub with_parts : List Group → List Pair → LayerSeen → LayerSeen
with_parts gs ps l = record { controller = l.controller; spec = l.spec; groups = gs; pairs = ps; next_pair = l.next_pair }

-- other defaults of a layer
abbrev pub defaulting : Dir → Bool → LayerSpec → LayerSpec
defaulting Out b s = record { layer = s.layer; order = s.order; allow_out = b; allow_in = s.allow_in; pairs = s.pairs; idle = s.idle; linger = s.linger }
defaulting In b s = record { layer = s.layer; order = s.order; allow_out = s.allow_out; allow_in = b; pairs = s.pairs; idle = s.idle; linger = s.linger }

-- a layer can take up a pair that holds no key of another, and whose number is the next and above all others
pub record CanTake (p : Pair) (l : LayerSeen) : Type 0 where
  pub forward_free : pair_of p.dir p.forward l.pairs ≡ None
  pub reverse_free : pair_of (turned p.dir) p.reverse l.pairs ≡ None
  pub number_next : p.number ≡ l.next_pair
  pub number_last : AllBelow l.next_pair l.pairs
  pub few : length l.pairs < 2 ^ 32 - 1
  pub numbers_left : l.next_pair < 2 ^ 32 - 1

-- a layer with one more pair, behind the others
abbrev pub with_pair : Pair → LayerSeen → LayerSeen
with_pair p l = record { controller = l.controller; spec = l.spec; groups = l.groups; pairs = l.pairs ++ p ∷ []; next_pair = l.next_pair + 1 }

-- a layer whose pair of this number has another state and last use
abbrev pub with_touched : ℕ → Track → ℕ → LayerSeen → LayerSeen
with_touched n t m l = with_parts l.groups (touched n t m l.pairs) l

-- a layer without the pair of this number
abbrev pub without_pair : ℕ → LayerSeen → LayerSeen
without_pair n l = with_parts l.groups (without n l.pairs) l
