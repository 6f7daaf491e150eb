-- What a good policy file gives a harbour.
use Rattle.std.proofs.Common.{◌≡◌, ◌≢◌, ◌≤◌, ◌<◌, ◌==◌, ℕ, suc, List, [], ◌∷◌, length, map, slice_index_or, true, false, refl, sym, subst, arith, ne_eqb}
use Rattle.std.specs.Prelude.{All}
use Rattle.std.specs.List.{AllPairs}
use Rattle.vsw_harbour.specs.HarbourOpening.{CanOpen}
use Rattle.vsw_policy.proofs.Keeps.{each-placed}
use Rattle.vsw_policy.specs.Sound.{Each, are_distinct, is_listed}
use Rattle.vsw_config.specs.Good.{AreGoodPorts, IsGoodPolicy}
use Rattle.vsw_config.specs.declared.file.LayerFile.{LayerFile}
use Rattle.vsw_config.specs.declared.file.PolicyFile.{PolicyFile}
use Rattle.vsw_config.specs.declared.file.PortFile.{PortFile}
use Rattle.vsw_promise.specs.declared.port.Port.{Port}
use Rattle.vsw_promise.specs.Ports.{PortSeen, in_order, port_of, port_seen, ports_of, whole}

-- ---- how many

pub few_controllers : (f : PolicyFile) → IsGoodPolicy f → length f.controllers ≤ 8
unfolding IsGoodPolicy
few_controllers f g = g.0

pub few_ports : (f : PolicyFile) → IsGoodPolicy f → length f.ports ≤ 16
unfolding IsGoodPolicy AreGoodPorts
few_ports f g = g.2.0

-- ---- ports that can be opened

-- no layer has made a pair, and the rows are as many as a policy may give
record Begins (p : PortSeen) : Type 0 where
  fresh : Each (λ l. l.next_pair ≤ 0) p.layers
  rows : (8 ≤ p.rows) × (p.rows ≤ 16384)

layers_first : (cs : List ℕ) (ls : List LayerFile) → Each (λ l. l.next_pair ≤ 0) (in_order cs (map whole ls))
layers_first cs [] = tt
layers_first cs (l ∷ ls) = each-placed (λ m. m.next_pair ≤ 0) cs (whole l) (in_order cs (map whole ls)) (layers_first cs ls) (omega arith)

all_begin : (cs : List ℕ) (ps : List PortFile) → All (λ p. (8 ≤ p.rows) × (p.rows ≤ 16384)) ps → Each Begins (map (port_of cs) ps)
all_begin cs [] rows = tt
all_begin cs (p ∷ ps) rows = (record { fresh = layers_first cs p.layers; rows = rows 0 p (omega arith) }, all_begin cs ps (λ i d lt. rows (suc i) d (omega (arith, lt))))

good_begin : (f : PolicyFile) → IsGoodPolicy f → Each Begins (ports_of f)
unfolding IsGoodPolicy AreGoodPorts
good_begin f g = all_begin f.controllers f.ports g.2.4

made_begin : (made : List Port) → Each Begins (map port_seen made) → Each CanOpen made
made_begin [] a = tt
made_begin (p ∷ ps) a = (record { fresh = a.0.fresh; rows = a.0.rows }, made_begin ps a.1)

pub can_open : (f : PolicyFile) (made : List Port) → IsGoodPolicy f → map port_seen made ≡ ports_of f → Each CanOpen made
can_open f made good e = made_begin made (subst (Each Begins) (sym e) (good_begin f good))

-- ---- numbers

none_listed : (n : ℕ) (ps : List PortFile) (cs : List ℕ) → ((i : ℕ) (d : PortFile) → i < length ps → n ≢ (slice_index_or ps i d).port) → is_listed (map (λ p. p.number) (map (port_of cs) ps)) n ≡ false
none_listed n [] cs h = refl
none_listed n (p ∷ ps) cs h =
    let here : (n == p.port) ≡ false = ne_eqb n p.port (h 0 p (omega arith)) in
    let rest = none_listed n ps cs (λ i d lt. h (suc i) d (omega (arith, lt))) in
    rw (here, rest) refl

numbers_apart : (cs : List ℕ) (ps : List PortFile) → AllPairs (λ p q. p.port ≢ q.port) ps → are_distinct (map (λ p. p.number) (map (port_of cs) ps)) ≡ true
numbers_apart cs [] h = refl
numbers_apart cs (p ∷ ps) h =
    let here = none_listed p.port ps cs (λ i d lt. h 0 (suc i) d (omega arith) (omega (arith, lt))) in
    let rest = numbers_apart cs ps (λ i j d less lt. h (suc i) (suc j) d (omega (arith, less)) (omega (arith, lt))) in
    rw (here, rest) refl

pub good_apart : (f : PolicyFile) → IsGoodPolicy f → are_distinct (map (λ p. p.number) (ports_of f)) ≡ true
unfolding IsGoodPolicy AreGoodPorts
good_apart f g = numbers_apart f.controllers f.ports g.2.1
