-- What no call changes of the ports, and what follows from it.
use Rattle.std.proofs.Common.{◌≡◌, ℕ, true, List, [], ◌∷◌, map, refl, ap, ap₂, sym, ◌∙◌, subst}
use Rattle.vsw_commandfile.specs.declared.line.Line.{Line}
use Rattle.vsw_policy.specs.Sound.{Each, is_listed}
use Rattle.vsw_switch.specs.Stay.{ArePorts, Standing, standing}
use Rattle.vsw_switch.specs.Switch.{AreServed, PortNow, SwitchNow}

same_seen : {A : Type 0} (g : Standing → A) (h : PortNow → A) → ((p : PortNow) → g (standing p) ≡ h p) → (ps : List PortNow) → map g (map standing ps) ≡ map h ps
same_seen g h e [] = refl
same_seen g h e (p ∷ ps) = ap₂ (λ x y. x ∷ y) (e p) (same_seen g h e ps)

-- what is seen of what stays is the same
stay_same : {A : Type 0} (g : Standing → A) (h : PortNow → A) → ((p : PortNow) → g (standing p) ≡ h p) → (ps qs : List PortNow) → map standing qs ≡ map standing ps → map h qs ≡ map h ps
stay_same g h e ps qs s = sym (same_seen g h e qs) ∙ (ap (map g) s ∙ same_seen g h e ps)

each_up : (P : Standing → Type 0) (ps : List PortNow) → Each (λ p. P (standing p)) ps → Each P (map standing ps)
each_up P [] e = tt
each_up P (p ∷ ps) e = (e.0, each_up P ps e.1)

each_down : (P : Standing → Type 0) (ps : List PortNow) → Each P (map standing ps) → Each (λ p. P (standing p)) ps
each_down P [] e = tt
each_down P (p ∷ ps) e = (e.0, each_down P ps e.1)

pub stay_each : (P : Standing → Type 0) (ps qs : List PortNow) → map standing qs ≡ map standing ps → Each (λ p. P (standing p)) ps → Each (λ p. P (standing p)) qs
stay_each P ps qs s e = each_down P qs (subst (Each P) (sym s) (each_up P ps e))

pub ports_stay : (workers : ℕ) (numbers macs : List ℕ) (ps qs : List PortNow) → map standing qs ≡ map standing ps → ArePorts workers numbers macs ps → ArePorts workers numbers macs qs
ports_stay workers numbers macs ps qs s a = record {
  some = a.some;
  numbers_are = a.numbers_are ∙ sym (stay_same (λ t. t.number) (λ p. p.number) (λ p. refl) ps qs s);
  macs_are = a.macs_are ∙ sym (stay_same (λ t. t.mac) (λ p. p.mac) (λ p. refl) ps qs s);
  callers = stay_each (λ t. t.workers ≡ workers) ps qs s a.callers;
  apart = a.apart;
  few = a.few;
}

pub served_stay : (s t : SwitchNow) → map standing t.ports ≡ map standing s.ports → (lines : List Line) → AreServed s lines → AreServed t lines
served_stay s t same [] a = tt
served_stay s t same (l ∷ ls) a = (
  record {
    port = ap (λ ns. is_listed ns l.port) (stay_same (λ w. w.number) (λ p. p.number) (λ p. refl) s.ports t.ports same) ∙ a.0.port;
    controller = stay_each (λ w. is_listed w.opening.controllers l.controller ≡ true) s.ports t.ports same a.0.controller;
    rules = a.0.rules;
  },
  served_stay s t same ls a.1,
)
