-- Before its first round a crew stands where a run begins.
use Rattle.std.proofs.Common.{◌≡◌, ◌≤◌, ℕ, true, List, [], ◌∷◌, map, All, refl, sym, ◌∙◌, ap, Bool, arith}
use Rattle.vsw_commandfile.specs.declared.line.Line.{Line}
use Rattle.vsw_commandfile.specs.Good.{CanAsk}
use Rattle.vsw_replay.specs.Crew.{AreReady, CrewSeen, IsOfSome, crew_now, ports_now, switch_now}
use Rattle.vsw_harbour.proofs.Dealing.{all_know}
use Rattle.vsw_harbour.specs.Harbour.{AreLike, HarbourSeen, IsOfRun}
use Rattle.vsw_harbour.specs.Lane.{Lane}
use Rattle.vsw_harbour.specs.Seen.{DockSeen, StationSeen}
use Rattle.vsw_port.specs.Order.{ascending, counted}
use Rattle.vsw_port.specs.declared.event.Event.{Event}
use Rattle.vsw_harbour.specs.Mustered.{IsMustered, no_entries}
use Rattle.vsw_policy.specs.Obey.{rules_given}
use Rattle.vsw_policy.specs.Sound.{Each, IsGoodRule, is_listed}
use Rattle.vsw_config.specs.declared.file.PolicyFile.{PolicyFile}
use Rattle.vsw_promise.specs.Ports.{PortSeen, ports_of}
use Rattle.vsw_replay.specs.Switch.{AllStandAt, AreServed, IsAt}
use Rattle.vsw_replay.proofs.Asking.{all_listed, all_ports, all_rules}

-- ---- the callers are ready

pub ready : (workers : ℕ) (file : PolicyFile) (local : Bool) (h : HarbourSeen) (rows : List (List (Lane StationSeen))) → IsMustered workers file local h rows → AreReady h (no_entries h.docks) rows
ready workers file local h rows m = record { size = m.size; stand = m.stand; journals = m.journals }

pub of_some : (workers : ℕ) (file : PolicyFile) (local : Bool) (h : HarbourSeen) (rows : List (List (Lane StationSeen))) → IsMustered workers file local h rows → IsOfSome h
of_some workers file local h rows m = record { run = record { workers = workers; policy = file; commands = []; local = local }; is = m.run [] }

-- ---- the ports stand at their beginning

stand_first : (h : HarbourSeen) (workers : ℕ) (cs : List ℕ) (ps : List PortSeen) (ds : List DockSeen) → h.workers ≡ workers → h.controllers ≡ cs → Each (λ p. p.controllers ≡ cs) ps → AreLike ps ds → AllStandAt workers ps (map (λ p. []) ps) (ports_now h ds (no_entries ds))
stand_first h workers cs [] [] w c k a = tt
stand_first h workers cs (p ∷ ps) (d ∷ ds) w c k a = (
  record {
    number = sym a.0.number;
    mac = sym a.0.mac;
    opening = sym a.0.opening;
    journal = refl;
    right = tt;
    before = refl;
    workers_are = ap (λ (n : ℕ). map (λ k. []) (counted 0 n)) w;
    controllers_are = ap (λ (ns : List ℕ). map (λ c. []) (ascending ns)) (c ∙ sym k.0);
    tally = refl;
  },
  stand_first h workers cs ps ds w c k.1 a.1,
)
stand_first h workers cs [] (d ∷ ds) w c k a = absurd a
stand_first h workers cs (p ∷ ps) [] w c k a = absurd a

pub first_at : (workers : ℕ) (file : PolicyFile) (local : Bool) (commands : List Line) (h : HarbourSeen) (rows : List (List (Lane StationSeen))) → 2 ≤ workers → workers ≤ 16 → IsMustered workers file local h rows
    → IsAt (record { workers = workers; policy = file; commands = commands; local = local }) (map (λ p. []) (ports_of file)) (switch_now h (no_entries h.docks))
first_at workers file local commands h rows more most m =
    let run = m.run commands in
    record {
      workers = sym run.workers;
      some = omega (arith, more);
      few = most;
      locals = run.locals;
      ports = stand_first h workers file.controllers (ports_of file) h.docks (sym run.workers) (sym run.controllers) (all_know file.controllers file.ports) run.ports;
      loose = refl;
    }

-- ---- and can be asked the commands

each_knows : (h : HarbourSeen) (cs : List ℕ) (n : ℕ) (ps : List PortSeen) (ds : List DockSeen) → is_listed cs n ≡ true → Each (λ p. p.controllers ≡ cs) ps → AreLike ps ds → Each (λ p. is_listed p.opening.controllers n ≡ true) (ports_now h ds (no_entries ds))
each_knows h cs n [] [] l k a = tt
each_knows h cs n (p ∷ ps) (d ∷ ds) l k a = (ap (λ o. is_listed o.controllers n) (sym a.0.opening) ∙ (ap (λ (ns : List ℕ). is_listed ns n) k.0 ∙ l), each_knows h cs n ps ds l k.1 a.1)
each_knows h cs n [] (d ∷ ds) l k a = absurd a
each_knows h cs n (p ∷ ps) [] l k a = absurd a

numbers_first : (h : HarbourSeen) (ps : List PortSeen) (ds : List DockSeen) → AreLike ps ds → map (λ p. p.number) (ports_now h ds (no_entries ds)) ≡ map (λ p. p.number) ps
numbers_first h [] [] a = refl
numbers_first h (p ∷ ps) (d ∷ ds) a = (λ i. (sym a.0.number) i ∷ numbers_first h ps ds a.1 i)
numbers_first h [] (d ∷ ds) a = absurd a
numbers_first h (p ∷ ps) [] a = absurd a

all_served : (workers : ℕ) (file : PolicyFile) (local : Bool) (h : HarbourSeen) (lines : List Line) → IsOfRun h (record { workers = workers; policy = file; commands = []; local = local })
    → Each (λ l. is_listed file.controllers l.controller ≡ true) lines → Each (λ l. is_listed (map (λ p. p.number) (ports_of file)) l.port ≡ true) lines → Each (λ l. Each IsGoodRule (rules_given l.command)) lines
    → AreServed (switch_now h (no_entries h.docks)) lines
all_served workers file local h [] run a b c = tt
all_served workers file local h (l ∷ lines) run a b c = (
  record {
    port = ap (λ (ns : List ℕ). is_listed ns l.port) (numbers_first h (ports_of file) h.docks run.ports) ∙ b.0;
    controller = each_knows h file.controllers l.controller (ports_of file) h.docks a.0 (all_know file.controllers file.ports) run.ports;
    rules = c.0;
  },
  all_served workers file local h lines run a.1 b.1 c.1,
)

pub first_served : (workers : ℕ) (file : PolicyFile) (local : Bool) (h : HarbourSeen) (rows : List (List (Lane StationSeen))) (lines : List Line) → IsMustered workers file local h rows → All (CanAsk file) lines → AreServed (switch_now h (no_entries h.docks)) lines
first_served workers file local h rows lines m asked = all_served workers file local h lines (m.run []) (all_listed file lines asked) (all_ports file lines asked) (all_rules file lines asked)

-- ---- the crew that is made of them

pub crew_first : (workers : ℕ) (file : PolicyFile) (local : Bool) (h : HarbourSeen) (rows : List (List (Lane StationSeen))) (crew : CrewSeen) → IsMustered workers file local h rows
    → ((hs : List (List Event)) → AreReady h hs rows → crew ≡ record { harbour = h; histories = hs }) → crew_now crew ≡ switch_now h (no_entries h.docks)
crew_first workers file local h rows crew m made = ap crew_now (made (no_entries h.docks) (ready workers file local h rows m))
