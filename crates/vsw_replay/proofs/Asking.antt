-- What each line of the commands asks can be asked.
use Rattle.std.proofs.Common.{◌≡◌, ◌==◌, ◌||◌, ℕ, suc, List, [], ◌∷◌, map, true, All, refl, sym, ◌∙◌, ap, arith, ne_eqb}
use native.Mathlib.Decide.{ℕ_discrete}
use Rattle.vsw_commandfile.specs.Good.{CanAsk}
use Rattle.vsw_commandfile.specs.Line.{is_port}
use Rattle.vsw_commandfile.specs.declared.line.Line.{Line}
use Rattle.vsw_config.specs.declared.file.PolicyFile.{PolicyFile}
use Rattle.vsw_config.specs.declared.file.PortFile.{PortFile}
use Rattle.vsw_policy.specs.Obey.{rules_given}
use Rattle.vsw_policy.specs.Sound.{Each, IsGoodRule, is_listed}
use Rattle.vsw_promise.specs.Ports.{port_of, ports_of}

pub all_listed : (p : PolicyFile) (ls : List Line) → All (CanAsk p) ls → Each (λ l. is_listed p.controllers l.controller ≡ true) ls
all_listed p [] h = tt
all_listed p (l ∷ ls) h = ((h 0 l (omega arith)).0, all_listed p ls (λ i d lt. h (suc i) d (omega (arith, lt))))

same_tests : (a b : ℕ) → (a == b) ≡ (b == a)
same_tests a b = elim (ℕ_discrete a b) [ yes e ↦ ap (λ n. n == b) e ∙ ap (λ n. b == n) (sym e) | no ne ↦ ne_eqb a b ne ∙ sym (ne_eqb b a (λ e. ne (sym e))) ]

-- a port's number is listed where the port is
port_listed : (cs : List ℕ) (n : ℕ) (ps : List PortFile) → is_listed (map (λ p. p.number) (map (port_of cs) ps)) n ≡ is_port n ps
port_listed cs n [] = refl
port_listed cs n (p ∷ ps) = ap (λ b. (n == p.port) || b) (port_listed cs n ps) ∙ ap (λ b. b || is_port n ps) (same_tests n p.port)

pub all_ports : (p : PolicyFile) (ls : List Line) → All (CanAsk p) ls → Each (λ l. is_listed (map (λ p. p.number) (ports_of p)) l.port ≡ true) ls
all_ports p [] h = tt
all_ports p (l ∷ ls) h = (port_listed p.controllers l.port p.ports ∙ (h 0 l (omega arith)).1, all_ports p ls (λ i d lt. h (suc i) d (omega (arith, lt))))

pub all_rules : (p : PolicyFile) (ls : List Line) → All (CanAsk p) ls → Each (λ l. Each IsGoodRule (rules_given l.command)) ls
all_rules p [] h = tt
all_rules p (l ∷ ls) h = ((h 0 l (omega arith)).2, all_rules p ls (λ i d lt. h (suc i) d (omega (arith, lt))))
