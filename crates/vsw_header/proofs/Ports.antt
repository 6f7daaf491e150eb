-- Where a port is found.
use Rattle.std.proofs.Common.{◌≡◌, ◌↔◌, ℕ, List, [], ◌∷◌, refl, arith, true, false, Bool, Option, Some, None}
use Rattle.std.specs.Prelude.{option_and_then, option_map, is_some}
use Rattle.std.proofs.lemmas.Grind.{common_steps}
use Rattle.vsw_base.specs.declared.header.Header.{Header}
use Rattle.vsw_base.specs.declared.flow.Place.{Place}
use Rattle.vsw_base.specs.declared.packet.Dir.TheVariants.{Out, In}
use Rattle.vsw_base.specs.Shape.{destination_of, inner, source_of}
use Rattle.vsw_header.specs.PortChoice.{place_of, choose, is_among, is_port, out_of, in_of}

among_is : (macs : List ℕ) (address : ℕ) → is_some (place_of macs address) ≡ is_among macs address
among_is [] address = refl
among_is (mac ∷ macs) address = grind (arith, common_steps, among_is macs address)

port_is : (macs : List ℕ) (address : Option ℕ) → is_some (option_and_then (place_of macs) address) ≡ is_port macs address
port_is macs None = refl
port_is macs (Some address) = among_is macs address

-- a port by what was found of each address
abbrev pub chosen : Option ℕ → Option ℕ → Option Place
chosen a b = elim a [
  | Some port ↦ Some (record { port = port; dir = Out })
  | None ↦ option_map (λ port. record { port = port; dir = In }) b
]

chosen_none : (a b : Option ℕ) (p q : Bool) → is_some a ≡ p → is_some b ≡ q → (chosen a b ≡ None) ↔ ((p ≡ false) × (q ≡ false))
chosen_none a b p q h k = grind (arith, common_steps)

chosen_out : (a b : Option ℕ) (p : Bool) → is_some a ≡ p → (option_map (λ (place : Place). place.dir) (chosen a b) ≡ Some Out) ↔ (p ≡ true)
chosen_out a b p h = grind (arith, common_steps)

pub meets_none : (macs : List ℕ) (hs : List Header) → (choose macs hs ≡ None) ↔ ((is_port macs (source_of hs) ≡ false) × (is_port macs (destination_of (inner hs)) ≡ false))
meets_none macs hs = chosen_none (out_of macs hs) (in_of macs hs) _ _ (port_is macs (source_of hs)) (port_is macs (destination_of (inner hs)))

pub out_wins : (macs : List ℕ) (hs : List Header) → (option_map (λ (place : Place). place.dir) (choose macs hs) ≡ Some Out) ↔ (is_port macs (source_of hs) ≡ true)
out_wins macs hs = chosen_out (out_of macs hs) (in_of macs hs) _ (port_is macs (source_of hs))
