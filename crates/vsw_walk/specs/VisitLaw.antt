-- What holds of visits, and of the pairs that they want.
use Rattle.std.specs.Prelude.{◌≡◌, ◌≢◌, ℕ, List, true, false}
use Rattle.vsw_base.specs.declared.fate.Verdict.{Verdict}
use Rattle.vsw_base.specs.declared.fate.Verdict.TheVariants.{Pass}
use Rattle.vsw_base.specs.declared.header.Header.{Header}
use Rattle.vsw_base.specs.declared.packet.Control.{Control}
use Rattle.vsw_base.specs.declared.packet.Dir.{Dir}
use Rattle.vsw_base.specs.Shape.{is_stack, inner}
use Rattle.vsw_rule.specs.Edit.{with_set}
use Rattle.vsw_header.specs.Key.{key_from, mirror_of}
use Rattle.vsw_layerflow.specs.declared.pair.Pair.{Pair}
use Rattle.vsw_layerflow.specs.Pairs.{holds, probe, turned}
use Rattle.vsw_rule.specs.declared.rule.Rule.{Rule}
use Rattle.vsw_rule.specs.Check.{is_stateless}
use Rattle.vsw_transpose.specs.Fits.{alike}
use Rattle.vsw_policy.specs.Layer.{LayerSeen}
use Rattle.vsw_walk.specs.declared.outcome.Visit.TheVariants.{Stops}
use Rattle.vsw_walk.specs.Visit.{visit_of}
use Rattle.vsw_walk.specs.Wanted.{wanted_pair}

-- the reverse set, written into a stack that has the reverse key and inner headers of the kinds of the packet's, gives one whose key is
-- the mirror of the forward key
abbrev pub IsTurned : Pair → List Header → List Header → Type 0
IsTurned p hs ks = is_stack ks ≡ true → alike (inner ks) (inner hs) → key_from ks ≡ p.reverse
    → key_from (with_set p.reverse_set ks) ≡ mirror_of p.forward

-- this is so of each pair that a rule wants whose action a stateful rule may have: neither drop, decap nor encap
abbrev pub TurnsBack : Type 0
TurnsBack = (number : ℕ) (d : Dir) (c : Control) (moment : ℕ) (hs : List Header) (group : ℕ) (r : Rule) → is_stack hs ≡ true
    → is_stateless r.action ≡ false → (ks : List Header) → IsTurned (wanted_pair number d c moment hs group r) hs ks

-- the pair holds the packet's direction and key, and the other direction and the reverse key
abbrev pub HoldsBoth : Type 0
HoldsBoth = (number : ℕ) (d : Dir) (c : Control) (moment : ℕ) (hs : List Header) (group : ℕ) (r : Rule)
    → (holds (probe d (key_from hs)) (wanted_pair number d c moment hs group r) ≡ true)
    × (holds (probe (turned d) (wanted_pair number d c moment hs group r).reverse) (wanted_pair number d c moment hs group r) ≡ true)

-- a layer that stops a packet drops it, so a packet that passes was let go on by all layers
abbrev pub StopsDrop : Type 0
StopsDrop = (l : LayerSeen) (d : Dir) (c : Control) (moment : ℕ) (hs : List Header) (verdict : Verdict) → visit_of l d c moment hs ≡ Stops verdict → verdict ≢ Pass
