-- What is to be done where no packet is handed on.
use Rattle.std.specs.Prelude.{◌≡◌, ℕ, ◌==◌, List, [], ◌∷◌, ◌++◌, false, if◌then◌else◌, Result, Ok, Err}
use Rattle.std.specs.List.{flat_map}
use Rattle.vsw_base.specs.declared.flow.Place.{Place}
use Rattle.vsw_base.specs.Frame.{Parts}
use Rattle.vsw_pcap.specs.declared.capture.Record.{Record}
use Rattle.vsw_port.specs.Calls.{Job, Carry}
use Rattle.vsw_promise.specs.Jobs.{Setting, aim_of, before_jobs, crossing_by, during_jobs, jobs_of, macs_of, packets_between, worker_of}
use Rattle.vsw_report.specs.declared.round.LooseCause.{LooseCause}
use Rattle.vsw_report.specs.declared.round.PortRound.{PortRound}

-- a packet is a job at the port to which it goes, and at no other
abbrev pub aimed_at : ℕ → ℕ → ℕ → ℕ → Result (Place × Parts) LooseCause → List Job
aimed_at workers port n moment (Err why) = []
aimed_at workers port n moment (Ok a) = if a.0.port == port then Carry (crossing_by (worker_of workers a.1) n a.0 moment a.1) a.1 ∷ [] else []

-- the packets among these that go to the port at this place, in packet order
abbrev pub packet_jobs : ℕ → List ℕ → ℕ → List (ℕ × Record) → List Job
packet_jobs workers macs port packets = flat_map (λ p. aimed_at workers port p.0 p.1.moment (aim_of macs p.1)) packets

-- whatever a round tells, a port's jobs are its commands, and the packets that go to it
abbrev pub JobsAreAimed : Type 0
JobsAreAimed = (s : Setting) (records : List Record) (told : List PortRound) (first next place number : ℕ) → s.local ≡ false
    → jobs_of s records told first next place number ≡ record { first = before_jobs s.commands first number; later = during_jobs s.commands first number ++ packet_jobs s.workers (macs_of s.policy) place (packets_between records first next) }
