use Rattle.std.proofs.Common.{◌≡◌, true, length, map, ap, ◌∙◌, arith}
use Rattle.std.proofs.lemmas.List.{length-map}
use Rattle.vsw_policy.specs.Layers.{place_of}
use Rattle.vsw_policy.specs.Sound.{is_listed}
use Rattle.vsw_switch.specs.Stay.{standing}
use Rattle.vsw_switch.specs.Switch.{PortNow, SwitchNow}
use Rattle.vsw_switch.proofs.Places.{place_within}
use Rattle.vsw_switch.proofs.Staying.{ports_stay, served_stay}
use Rattle.vsw_switch.proofs.switch.Switch.ask.Goals as goal

pub ask_at-requires-clause-within : goal.ask_at-requires-clause-within
ask_at-requires-clause-within c =
    let s = c.self.inside in
    let port = c.args.line.now.port in
    let listed : is_listed s.numbers.items port ≡ true = ap (λ ns. is_listed ns port) (c.self.invariant.numbers_are ∙ ap (λ (w : SwitchNow). map (λ (p : PortNow). p.number) w.ports) c.self.view_is) ∙ c.requires.port in
    let place : c.place_of-place.result ≡ place_of port s.numbers.items = c.place_of-place.ensures.value ∙ ap (place_of port) c.deref.ensures.value in
    omega (arith, place, place_within s.numbers.items port listed, ap length c.self.invariant.numbers_are, length-map s.ports.items (λ (p : PortNow). p.number))

pub invariant_of-self : goal.invariant_of-self
invariant_of-self c = ports_stay c.self.inside.workers c.self.inside.numbers.items c.self.inside.macs c.self.inside.ports.items c.ask_at.new.ports.items c.ask_at.ensures.stays c.self.invariant

pub returns-clause-served : goal.returns-clause-served
returns-clause-served c = served_stay c.args.self.now _ (c.ask_at.ensures.stays ∙ ap (λ (s : SwitchNow). map standing s.ports) c.self.view_is)
