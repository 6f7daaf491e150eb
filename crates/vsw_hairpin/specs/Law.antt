-- Callers that hand packets on at once have done what the round's own lines ask for.
use Rattle.std.specs.Prelude.{◌≡◌, ◌≤◌, ◌<◌, ℕ, List, [], ◌++◌, length, true, false}
use Rattle.vsw_pcap.specs.declared.capture.Record.{Record}
use Rattle.vsw_policy.specs.Sound.{Each, are_distinct}
use Rattle.vsw_promise.specs.Ports.{ports_of}
use Rattle.vsw_port.specs.declared.event.Event.{Event}
use Rattle.vsw_port.specs.Calls.{Call}
use Rattle.vsw_port.specs.Order.{numbered}
use Rattle.vsw_history_law.specs.Law.{AreServed}
use Rattle.vsw_history_law.specs.Plain.{IsAsk}
use Rattle.vsw_promise.specs.Jobs.{Placed, Setting, macs_of, placed_packets}
use Rattle.vsw_many.specs.Dealing.{numbers_of, placed_lines}
use Rattle.vsw_many.specs.Phases.{Lane}
use Rattle.vsw_many.specs.Actors.{AreRows}
use Rattle.vsw_many.specs.Rounds.{AreJournals, calls_by_port, ports_told}
use Rattle.vsw_many.specs.Turns.{PlacedTurns, placed_before}
use Rattle.vsw_many.specs.Crew.{callers_in, jobs_beside}
use Rattle.vsw_hairpin.specs.Handing.{AreGone, AreHandedRows, HaveHanded, locals_of, told_of, with_hops}

-- the jobs of these packets, of which the first has this number, at the ports to which they go
abbrev pub own_jobs : Setting → ℕ → List Record → List Placed
own_jobs s first packets = placed_packets s.workers false (macs_of s.policy) [] (numbered first packets)

-- after the "before" commands, each caller did its own of the "during" commands and of the packets, and handed each packet on at once: so it did its own of what
-- is to be done in a round that tells of this
abbrev pub RowsHandOn : Type 0
RowsHandOn = (s : Setting) (first : ℕ) (packets : List Record) (hs middles gs : List (List Event)) (firsts : List (List Call)) (rows : List (List Lane)) (hops : List (List (List Placed))) → AreServed s → are_distinct (numbers_of s.policy) ≡ true
    → PlacedTurns 0 (ports_of s.policy) (placed_before (numbers_of s.policy) s.commands first) hs middles firsts → AreJournals (callers_in s) (ports_of s.policy) middles gs → length rows ≡ callers_in s
    → AreHandedRows (locals_of s) s.policy.controllers (placed_lines (numbers_of s.policy) s.commands first ++ own_jobs s first packets) 0 (ports_of s.policy) middles gs rows hops
    → AreRows s.policy.controllers (jobs_beside s (ports_told (ports_of s.policy) hs gs firsts (calls_by_port (ports_of s.policy) rows)) first packets) 0 0 (ports_of s.policy) middles gs rows

-- one thread asked commands, and then carried each packet and handed it on at once: so it did what is to be done in a round that tells of this
abbrev pub TurnsHandOn : Type 0
TurnsHandOn = (s : Setting) (first : ℕ) (packets : List Record) (hs gs : List (List Event)) (asked : List Placed) (hops : List (List Placed)) (calls : List (List Call)) → 0 < s.workers → s.workers ≤ 16
    → Each (λ t. IsAsk t.1) asked → AreGone 0 (ports_of s.policy) (asked ++ with_hops (own_jobs s first packets) hops) hs gs calls → HaveHanded (locals_of s) calls (own_jobs s first packets) hops
    → with_hops (own_jobs s first packets) hops ≡ placed_packets s.workers s.local (macs_of s.policy) (told_of (ports_of s.policy) hs gs calls) (numbered first packets)
