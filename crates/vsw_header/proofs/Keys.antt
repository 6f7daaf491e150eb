-- The key of a stack without encapsulations.
use Rattle.std.proofs.Common.{◌≡◌, ℕ, ◌*◌, List, [], ◌∷◌, refl, ap, arith, drop, get_or}
use Rattle.vsw_base.specs.Shape.{encaps, inner, vnis}
use Rattle.vsw_base.specs.declared.header.Header.{Header}
use Rattle.vsw_base.specs.declared.header.Header.TheVariants.{Ether, Ip, Vxlan, Ports, Six}
use Rattle.vsw_header.specs.Key.{key_behind, key_from}

no_networks : (hs : List Header) → encaps hs ≡ 0 → vnis hs ≡ []
no_networks [] e = refl
no_networks (Ether d s k ∷ hs) e = no_networks hs e
no_networks (Ip a b p f ∷ hs) e = no_networks hs e
no_networks (Vxlan v ∷ hs) e = absurd (omega (arith, e))
no_networks (Ports p x y ∷ hs) e = no_networks hs e
no_networks (Six a b p ∷ hs) e = no_networks hs e

behind : (hs gs : List Header) (n : ℕ) (vs : List ℕ) → gs ≡ hs → n ≡ 0 → vs ≡ [] → key_behind hs 0 0 0 ≡ key_behind gs n (get_or vs 0 0) (get_or vs 1 0)
behind hs gs n vs e f g = rw (e, f, g) refl

pub plain_key : (hs : List Header) → encaps hs ≡ 0 → key_behind hs 0 0 0 ≡ key_from hs
plain_key hs e = behind hs (inner hs) (encaps hs) (vnis hs) (ap (λ (n : ℕ). drop (3 * n) hs) e) e (no_networks hs e)
