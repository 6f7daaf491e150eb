-- The jobs of a round over all ports, as they are dealt to callers.
use Rattle.std.specs.Prelude.{◌==◌, ◌&&◌, ℕ, List, ◌++◌, map, filter}
use Rattle.vsw_commandfile.specs.declared.line.Line.{Line}
use Rattle.vsw_config.specs.declared.file.PolicyFile.{PolicyFile}
use Rattle.vsw_pcap.specs.declared.capture.Record.{Record}
use Rattle.vsw_policy.specs.Layers.{place_of}
use Rattle.vsw_port.specs.Calls.{Ask, job_doer}
use Rattle.vsw_promise.specs.Jobs.{Placed, Setting, macs_of, packets_between, placed_packets}
use Rattle.vsw_promise.specs.Ports.{ports_of}
use Rattle.vsw_report.specs.declared.round.PortRound.{PortRound}

-- the "during" commands of the round that begins with this packet, in file order, with the places of their ports among these numbers
abbrev pub placed_lines : List ℕ → List Line → ℕ → List Placed
placed_lines numbers commands first = map (λ l. (place_of l.port numbers, Ask l)) (filter (λ l. (l.at == first) && l.during) commands)

-- the numbers of the ports
abbrev pub numbers_of : PolicyFile → List ℕ
numbers_of policy = map (λ p. p.number) (ports_of policy)

-- all that is done beside each other in a round that tells this: the "during" commands, and the packets
abbrev pub placed_jobs : Setting → List Record → List PortRound → ℕ → ℕ → List Placed
placed_jobs s records told first next = placed_lines (numbers_of s.policy) s.commands first ++ placed_packets s.workers s.local (macs_of s.policy) told (packets_between records first next)

-- the jobs of one caller among these, in its order
abbrev pub deal : List ℕ → ℕ → List Placed → List Placed
deal cs k js = filter (λ t. job_doer cs t.1 == k) js
