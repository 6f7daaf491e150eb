-- A switch before the first round of its report, and the answer at the end.
use Rattle.std.proofs.Common.{◌≡◌, ◌≤◌, ℕ, suc, Bool, true, List, [], ◌∷◌, ◌++◌, length, map, refl, ap, sym, ◌∙◌, subst, arith}
use Rattle.std.specs.Prelude.{All}
use Rattle.std.proofs.lemmas.List.{length-map}
use Rattle.vsw_commandfile.specs.declared.line.Line.{Line}
use Rattle.vsw_commandfile.specs.Good.{AreGood, CanAsk}
use Rattle.vsw_config.specs.Good.{AreGoodPorts, IsGoodPolicy}
use Rattle.vsw_config.specs.declared.file.LayerFile.{LayerFile}
use Rattle.vsw_config.specs.declared.file.PolicyFile.{PolicyFile}
use Rattle.vsw_config.specs.declared.file.PortFile.{PortFile}
use Rattle.vsw_history_law.specs.Law.{AreServed}
use Rattle.vsw_pcap.specs.declared.capture.Record.{Record}
use Rattle.vsw_policy.proofs.Keeps.{each-placed}
use Rattle.vsw_policy.specs.Sound.{Each, is_listed}
use Rattle.vsw_port.specs.declared.event.Event.{Event}
use Rattle.vsw_port.specs.Core.{AreAtMost}
use Rattle.vsw_promise.specs.declared.port.Port.{Port}
use Rattle.vsw_promise.specs.Jobs.{cuts, macs_of}
use Rattle.vsw_promise.specs.Ports.{PortSeen, in_order, port_of, port_seen, ports_of, whole}
use Rattle.vsw_report.specs.declared.round.Round.{Round}
use Rattle.vsw_audit.specs.declared.port.Seat.{Seat}
use Rattle.vsw_audit.specs.Audit.{IsReplayed, RunReplays}
use Rattle.vsw_audit.specs.Check.{IsCheck, IsLegalReport, checked}
use Rattle.vsw_audit.specs.Private.Rounds.{AreFirst, AreSeats, Finds, histories}
use Rattle.vsw_audit.specs.Private.Tasks.{CanBeAsked}
use Rattle.vsw_audit.proofs.Audited.{replay_decides}

-- ---- layers

layers_first : (cs : List ℕ) (ls : List LayerFile) → AreAtMost 0 (in_order cs (map whole ls))
layers_first cs [] = tt
layers_first cs (l ∷ ls) = each-placed (λ m. m.next_pair ≤ 0) cs (whole l) (in_order cs (map whole ls)) (layers_first cs ls) (omega arith)

ports_first : (cs : List ℕ) (ps : List PortFile) → Each (λ p. AreAtMost 0 p.layers) (map (port_of cs) ps)
ports_first cs [] = tt
ports_first cs (p ∷ ps) = (layers_first cs p.layers, ports_first cs ps)

pub made_first : (f : PolicyFile) (made : List Port) → map port_seen made ≡ ports_of f → Each (λ p. AreAtMost 0 p.policy.layers) made
made_first f made e = by made (subst (Each (λ p. AreAtMost 0 p.layers)) (sym e) (ports_first f.controllers f.ports))
  where
    by : (made : List Port) → Each (λ p. AreAtMost 0 p.layers) (map port_seen made) → Each (λ p. AreAtMost 0 p.policy.layers) made
    by [] w = tt
    by (p ∷ ps) w = (w.0, by ps w.1)

-- ---- ports

seats_first : (made : List Port) (ss : List Seat) → AreFirst made ss → AreSeats (map port_seen made) ss × (histories ss ≡ map (λ p. []) (map port_seen made))
seats_first [] [] a = (tt, refl)
seats_first [] (s ∷ ss) a = absurd a
seats_first (p ∷ ps) [] a = absurd a
seats_first (p ∷ ps) (s ∷ ss) a =
    let r = seats_first ps ss a.3 in
    ((record { number = a.0; opening = a.1 }, r.0), ap (λ w. w ∷ histories ss) a.2 ∙ ap (λ (w : List (List Event)). [] ∷ w) r.1)

pub opened : (f : PolicyFile) (made : List Port) (ss : List Seat) → map port_seen made ≡ ports_of f → AreFirst made ss → AreSeats (ports_of f) ss
opened f made ss e a = subst (λ ps. AreSeats ps ss) e (seats_first made ss a).0

pub opened_empty : (f : PolicyFile) (made : List Port) (ss : List Seat) → map port_seen made ≡ ports_of f → AreFirst made ss → histories ss ≡ map (λ p. []) (ports_of f)
opened_empty f made ss e a = subst (λ ps. histories ss ≡ map (λ p. []) ps) e (seats_first made ss a).1

pub seen_macs : (f : PolicyFile) (made : List Port) (macs : List ℕ) → map port_seen made ≡ ports_of f → macs ≡ map (λ p. p.mac) made → macs ≡ macs_of f
seen_macs f made macs e m = m ∙ (by made ∙ ap (map (λ p. p.mac)) e)
  where
    by : (ps : List Port) → map (λ p. p.mac) ps ≡ map (λ p. p.mac) (map port_seen ps)
    by [] = refl
    by (p ∷ ps) = ap (λ w. p.mac ∷ w) (by ps)

pub first_more : (ps : List Port) (ss : List Seat) (p : Port) (s : Seat) → AreFirst ps ss → AreFirst (p ∷ []) (s ∷ []) → AreFirst (ps ++ p ∷ []) (ss ++ s ∷ [])
first_more [] [] p s a b = b
first_more [] (t ∷ ss) p s a b = absurd a
first_more (q ∷ ps) [] p s a b = absurd a
first_more (q ∷ ps) (t ∷ ss) p s a b = (a.0, a.1, a.2, first_more ps ss p s a.3 b)

-- ---- what holds of the files

pub few_controllers : (f : PolicyFile) → IsGoodPolicy f → length f.controllers ≤ 8
unfolding IsGoodPolicy
few_controllers f g = g.0

few_ports : (f : PolicyFile) → IsGoodPolicy f → length f.ports ≤ 16
unfolding IsGoodPolicy AreGoodPorts
few_ports f g = g.2.0

pub few_seats : (f : PolicyFile) (ss : List Seat) → IsGoodPolicy f → AreSeats (ports_of f) ss → length ss ≤ 16
few_seats f ss good a = let e : length (ports_of f) ≡ length f.ports = length-map f.ports (port_of f.controllers) in let l : length ss ≡ length (ports_of f) = by (ports_of f) ss a in omega (arith, e, l, few_ports f good)
  where
    by : (ps : List PortSeen) (ss : List Seat) → AreSeats ps ss → length ss ≡ length ps
    by [] [] a = refl
    by [] (s ∷ ss) a = absurd a
    by (p ∷ ps) [] a = absurd a
    by (p ∷ ps) (s ∷ ss) a = ap suc (by ps ss a.1)

pub few_macs : (f : PolicyFile) (macs : List ℕ) → IsGoodPolicy f → macs ≡ macs_of f → length macs ≤ 16
few_macs f macs good e = let l : length macs ≡ length f.ports = ap length e ∙ (length-map (ports_of f) (λ p. p.mac) ∙ length-map f.ports (port_of f.controllers)) in omega (arith, l, few_ports f good)

pub all_askable : (f : PolicyFile) (ls : List Line) → All (CanAsk f) ls → Each (CanBeAsked f.controllers) ls
all_askable f [] a = tt
all_askable f (l ∷ ls) a = let c = a 0 l (omega arith) in ((c.0, c.2), all_askable f ls (λ i d lt. a (suc i) d (omega (arith, lt))))

pub same_controllers : (f : PolicyFile) (ss : List Seat) → AreSeats (ports_of f) ss → Each (λ s. f.controllers ≡ s.ledger.opening.controllers) ss
same_controllers f ss a = by f.ports ss a
  where
    by : (ps : List PortFile) (ss : List Seat) → AreSeats (map (port_of f.controllers) ps) ss → Each (λ s. f.controllers ≡ s.ledger.opening.controllers) ss
    by [] [] a = tt
    by [] (s ∷ ss) a = absurd a
    by (p ∷ ps) [] a = absurd a
    by (p ∷ ps) (s ∷ ss) a = (sym (ap (λ o. o.controllers) a.0.opening), by ps ss a.1)

-- ---- the answer

pub checks : (workers : ℕ) (f : PolicyFile) (commands : List Line) (records : List Record) (rounds : List Round) (hs new : List (List Event)) (answer : Bool) → 1 ≤ workers → workers ≤ 16 → AreGood f commands → hs ≡ map (λ p. []) (ports_of f)
    → Finds (λ gs. RunReplays (checked workers f commands) records hs (cuts commands (length records)) gs rounds) new answer → IsCheck workers f commands records rounds answer
checks workers f commands records rounds hs new answer some few good first found = record { yes = λ a. decides.1 (new, subst (λ w. RunReplays (checked workers f commands) records w (cuts commands (length records)) new rounds) first (found.yes a)); back = λ legal. let r = decides.0 legal in (found.back r.0 (subst (λ w. RunReplays (checked workers f commands) records w (cuts commands (length records)) r.0 rounds) (sym first) r.1)).0 }
  where
    asked : (ls : List Line) → Each (CanBeAsked f.controllers) ls → Each (λ l. is_listed f.controllers l.controller ≡ true) ls
    asked [] a = tt
    asked (l ∷ ls) a = (a.0.0, asked ls a.1)

    served : AreServed (checked workers f commands)
    served = record { least = omega (arith, some); most = few; asked = asked commands (all_askable f commands good.can_ask) }

    decides : (IsLegalReport workers f commands records rounds → IsReplayed workers f commands records rounds) × (IsReplayed workers f commands records rounds → IsLegalReport workers f commands records rounds)
    decides = replay_decides workers f commands records rounds served
