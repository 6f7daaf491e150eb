-- A switch before the first round.
use Rattle.std.proofs.Common.{◌≡◌, ◌≢◌, ◌<◌, ◌≤◌, ℕ, zero, suc, ◌==◌, true, false, List, [], ◌∷◌, length, map, replicate, slice_index_or, refl, ap, sym, ◌∙◌, subst, arith, ne_eqb}
use Rattle.std.specs.Prelude.{All}
use Rattle.std.specs.List.{AllPairs}
use Rattle.std.proofs.lemmas.List.{length-map}
use Rattle.vsw_commandfile.specs.declared.line.Line.{Line}
use Rattle.vsw_port.specs.Order.{counted}
use Rattle.vsw_policy.proofs.Keeps.{each-placed}
use Rattle.vsw_policy.specs.Obey.{rules_given}
use Rattle.vsw_policy.specs.Sound.{Each, IsGoodRule, are_distinct, is_listed}
use Rattle.vsw_config.specs.Good.{AreGoodPorts, IsGoodPolicy}
use Rattle.vsw_config.specs.declared.file.LayerFile.{LayerFile}
use Rattle.vsw_config.specs.declared.file.PolicyFile.{PolicyFile}
use Rattle.vsw_config.specs.declared.file.PortFile.{PortFile}
use Rattle.vsw_port.specs.Core.{AreAtMost}
use Rattle.vsw_promise.specs.declared.port.Port.{Port}
use Rattle.vsw_promise.specs.Jobs.{macs_of}
use Rattle.vsw_promise.specs.Ports.{PortSeen, in_order, port_of, port_seen, ports_of, whole}
use Rattle.vsw_report.specs.Line.{TextLine}
use Rattle.vsw_switch.specs.Stay.{ArePorts, CanOpen, port_at_first}
use Rattle.vsw_switch.specs.Switch.{AllStandAt, AreServed, PortNow, SwitchNow}

-- ---- callers

pub no_lines : (n : ℕ) (ks : List ℕ) → n ≡ length ks → replicate {A = List TextLine} n [] ≡ map (λ k. []) ks
no_lines n [] e = ap (λ k. replicate {A = List TextLine} k []) e
no_lines n (k ∷ ks) e = ap (λ m. replicate {A = List TextLine} m []) e ∙ ap (λ w. [] ∷ w) (no_lines (length ks) ks refl)

-- as many as were counted
pub length_counted : (first n : ℕ) → length (counted first n) ≡ n
length_counted first zero = refl
length_counted first (suc n) = ap suc (length_counted (suc first) n)

pub no_workers : (n : ℕ) → replicate {A = List TextLine} n [] ≡ map (λ k. []) (counted 0 n)
no_workers n = no_lines n (counted 0 n) (sym (length_counted 0 n))

-- ---- layers

layers_first : (cs : List ℕ) (ls : List LayerFile) → AreAtMost 0 (in_order cs (map whole ls))
layers_first cs [] = tt
layers_first cs (l ∷ ls) = each-placed (λ m. m.next_pair ≤ 0) cs (whole l) (in_order cs (map whole ls)) (layers_first cs ls) (omega arith)

all_open : (cs : List ℕ) (ps : List PortFile) → length cs ≤ 8 → All (λ p. (8 ≤ p.rows) × (p.rows ≤ 16384)) ps → Each CanOpen (map (port_of cs) ps)
all_open cs [] few rows = tt
all_open cs (p ∷ ps) few rows = (record { fresh = layers_first cs p.layers; few = few; rows = rows 0 p (omega arith) }, all_open cs ps few (λ i d lt. rows (suc i) d (omega (arith, lt))))

good_open : (f : PolicyFile) → IsGoodPolicy f → Each CanOpen (ports_of f)
unfolding IsGoodPolicy AreGoodPorts
good_open f g = all_open f.controllers f.ports g.0 g.2.4

-- the ports that a good policy gives can be opened
pub made_open : (f : PolicyFile) (made : List Port) → IsGoodPolicy f → map port_seen made ≡ ports_of f → Each CanOpen (map port_seen made)
made_open f made good e = subst (Each CanOpen) (sym e) (good_open f good)

-- ---- numbers

none_listed : (n : ℕ) (ps : List PortFile) (cs : List ℕ) → ((i : ℕ) (d : PortFile) → i < length ps → n ≢ (slice_index_or ps i d).port) → is_listed (map (λ p. p.number) (map (port_of cs) ps)) n ≡ false
none_listed n [] cs h = refl
none_listed n (p ∷ ps) cs h =
    let here : (n == p.port) ≡ false = ne_eqb n p.port (h 0 p (omega arith)) in
    let rest = none_listed n ps cs (λ i d lt. h (suc i) d (omega (arith, lt))) in
    rw (here, rest) refl

numbers_apart : (cs : List ℕ) (ps : List PortFile) → AllPairs (λ p q. p.port ≢ q.port) ps → are_distinct (map (λ p. p.number) (map (port_of cs) ps)) ≡ true
numbers_apart cs [] h = refl
numbers_apart cs (p ∷ ps) h =
    let here = none_listed p.port ps cs (λ i d lt. h 0 (suc i) d (omega arith) (omega (arith, lt))) in
    let rest = numbers_apart cs ps (λ i j d less lt. h (suc i) (suc j) d (omega (arith, less)) (omega (arith, lt))) in
    rw (here, rest) refl

good_apart : (f : PolicyFile) → IsGoodPolicy f → are_distinct (map (λ p. p.number) (ports_of f)) ≡ true
unfolding IsGoodPolicy AreGoodPorts
good_apart f g = numbers_apart f.controllers f.ports g.2.1

few_ports : (f : PolicyFile) → IsGoodPolicy f → length f.ports ≤ 16
unfolding IsGoodPolicy AreGoodPorts
few_ports f g = g.2.0

-- ---- ports

seen_numbers : (workers : ℕ) (ports : List Port) → map (λ p. p.number) (map (port_at_first workers) (map port_seen ports)) ≡ map (λ p. p.number) ports
seen_numbers workers [] = refl
seen_numbers workers (p ∷ ps) = ap (λ w. p.number ∷ w) (seen_numbers workers ps)

seen_macs : (workers : ℕ) (ports : List Port) → map (λ p. p.mac) (map (port_at_first workers) (map port_seen ports)) ≡ map (λ p. p.mac) ports
seen_macs workers [] = refl
seen_macs workers (p ∷ ps) = ap (λ w. p.mac ∷ w) (seen_macs workers ps)

made_seen : (ports : List Port) → map (λ p. p.mac) ports ≡ map (λ p. p.mac) (map port_seen ports)
made_seen [] = refl
made_seen (p ∷ ps) = ap (λ w. p.mac ∷ w) (made_seen ps)

-- the addresses of the ports that a policy gives
pub made_macs : (f : PolicyFile) (made : List Port) (macs : List ℕ) → map port_seen made ≡ ports_of f → macs ≡ map (λ p. p.mac) made → macs ≡ macs_of f
made_macs f made macs is m = m ∙ (made_seen made ∙ ap (map (λ p. p.mac)) is)

first_numbers : (workers : ℕ) (ps : List PortSeen) → map (λ p. p.number) (map (port_at_first workers) ps) ≡ map (λ p. p.number) ps
first_numbers workers [] = refl
first_numbers workers (p ∷ ps) = ap (λ w. p.number ∷ w) (first_numbers workers ps)

first_callers : (workers : ℕ) (ps : List PortSeen) → Each (λ p. length p.workers ≡ workers) (map (port_at_first workers) ps)
first_callers workers [] = tt
first_callers workers (p ∷ ps) = (length-map (counted 0 workers) (λ k. []) ∙ length_counted 0 workers, first_callers workers ps)

pub are_ports : (f : PolicyFile) (workers : ℕ) (made : List Port) (numbers macs : List ℕ) (ports : List PortNow) → IsGoodPolicy f → 0 < workers → map port_seen made ≡ ports_of f
    → numbers ≡ map (λ p. p.number) made → macs ≡ map (λ p. p.mac) made → ports ≡ map (port_at_first workers) (map port_seen made) → ArePorts workers numbers macs ports
are_ports f workers made numbers macs ports good some is n m p =
    let count : length made ≡ length f.ports = sym (length-map made port_seen) ∙ (ap length is ∙ length-map f.ports (port_of f.controllers)) in
    let same : numbers ≡ map (λ p. p.number) (ports_of f) = n ∙ (sym (seen_numbers workers made) ∙ (first_numbers workers (map port_seen made) ∙ ap (map (λ p. p.number)) is)) in
    subst (ArePorts workers numbers macs) (sym p) (record {
      some = some;
      numbers_are = n ∙ sym (seen_numbers workers made);
      macs_are = m ∙ sym (seen_macs workers made);
      callers = first_callers workers (map port_seen made);
      apart = ap are_distinct same ∙ good_apart f good;
      few = omega (arith, few_ports f good, ap length m, length-map made (λ p. p.mac), count);
    })

stand_first : (workers : ℕ) (ps : List PortSeen) → AllStandAt workers ps (map (λ p. []) ps) (map (port_at_first workers) ps)
stand_first workers [] = tt
stand_first workers (p ∷ ps) = (record { number = refl; mac = refl; opening = refl; journal = refl; right = tt; before = refl; workers_are = refl; controllers_are = refl; tally = refl }, stand_first workers ps)

pub all_stand : (f : PolicyFile) (workers : ℕ) (made : List Port) (ports : List PortNow) → map port_seen made ≡ ports_of f → ports ≡ map (port_at_first workers) (map port_seen made) → AllStandAt workers (ports_of f) (map (λ p. []) (ports_of f)) ports
all_stand f workers made ports is p = subst (AllStandAt workers (ports_of f) (map (λ p. []) (ports_of f))) (sym (p ∙ ap (map (port_at_first workers)) is)) (stand_first workers (ports_of f))

-- ---- commands

first_controllers : (workers c : ℕ) (cs : List ℕ) (ps : List PortFile) → is_listed cs c ≡ true → Each (λ p. is_listed p.opening.controllers c ≡ true) (map (port_at_first workers) (map (port_of cs) ps))
first_controllers workers c cs [] l = tt
first_controllers workers c cs (p ∷ ps) l = (l, first_controllers workers c cs ps l)

pub served_first : (f : PolicyFile) (workers : ℕ) (made : List Port) (s : SwitchNow) → map port_seen made ≡ ports_of f → s.ports ≡ map (port_at_first workers) (map port_seen made) → (lines : List Line)
    → Each (λ l. is_listed f.controllers l.controller ≡ true) lines → Each (λ l. is_listed (map (λ p. p.number) (ports_of f)) l.port ≡ true) lines → Each (λ l. Each IsGoodRule (rules_given l.command)) lines → AreServed s lines
served_first f workers made s is p [] a b c = tt
served_first f workers made s is p (l ∷ ls) a b c =
    let all : s.ports ≡ map (port_at_first workers) (ports_of f) = p ∙ ap (map (port_at_first workers)) is in (
      record {
        port = ap (λ ns. is_listed ns l.port) (ap (map (λ p. p.number)) all ∙ first_numbers workers (ports_of f)) ∙ b.0;
        controller = subst (Each (λ p. is_listed p.opening.controllers l.controller ≡ true)) (sym all) (first_controllers workers l.controller f.controllers f.ports a.0);
        rules = c.0;
      },
      served_first f workers made s is p ls a.1 b.1 c.1,
    )
