-- The jobs of packets: they are the same whatever a round tells where none is handed on, and what holds of each packet's holds of all.
use Rattle.std.proofs.Common.{◌≡◌, ℕ, ◌==◌, Bool, true, false, List, [], ◌∷◌, ◌++◌, map, Result, Ok, Err, refl, ap, ◌∙◌}
use Rattle.vsw_base.specs.declared.flow.Place.{Place}
use Rattle.vsw_base.specs.declared.packet.Dir.TheVariants.{In}
use Rattle.vsw_base.specs.Frame.{Parts}
use Rattle.vsw_pcap.specs.declared.capture.Record.{Record}
use Rattle.vsw_policy.specs.Sound.{Each}
use Rattle.vsw_port.specs.Calls.{Job, Carry}
use Rattle.vsw_port.proofs.Calls.{each_append}
use Rattle.vsw_promise.specs.Forwarded.{JobsAreAimed, aimed_at, packet_jobs}
use Rattle.vsw_promise.specs.Jobs.{Hop, Placed, Setting, aim_of, at_place, crossing_by, during_jobs, before_jobs, hops_of, jobs_of, macs_of, packets_between, placed_packet, placed_packets, second_job, worker_of}
use Rattle.vsw_report.specs.declared.round.LooseCause.{LooseCause}
use Rattle.vsw_report.specs.declared.round.PortRound.{PortRound}

pub packets_untold : (workers : ℕ) (local : Bool) (macs : List ℕ) (told others : List PortRound) (packets : List (ℕ × Record)) → local ≡ false
    → placed_packets workers local macs told packets ≡ placed_packets workers local macs others packets
packets_untold workers false macs told others packets e = refl
packets_untold workers true macs told others packets e = absurd (cc e)

-- where no packet is handed on, jobs don't hang on what the round tells
pub jobs_untold : (s : Setting) (records : List Record) (told others : List PortRound) (first next place number : ℕ) → s.local ≡ false
    → jobs_of s records told first next place number ≡ jobs_of s records others first next place number
jobs_untold s records told others first next place number e =
    ap (λ (w : List Placed). record { first = before_jobs s.commands first number; later = during_jobs s.commands first number ++ at_place place w })
    (packets_untold s.workers s.local (macs_of s.policy) told others (packets_between records first next) e)

-- ---- of each job of a packet, of all jobs of packets

each_hop : (P : Placed → Type 0) (worker n moment : ℕ) (hops : List Hop) → ((h : Hop) → P (second_job worker n moment h)) → Each P (map (second_job worker n moment) hops)
each_hop P worker n moment [] second = tt
each_hop P worker n moment (h ∷ hs) second = (second h, each_hop P worker n moment hs second)

pub each_packet : (P : Placed → Type 0) (workers : ℕ) (local : Bool) (macs : List ℕ) (told : List PortRound) (packets : List (ℕ × Record))
    → ((n moment : ℕ) (a : Place × Parts) → P (a.0.port, Carry (crossing_by (worker_of workers a.1) n a.0 moment a.1) a.1))
    → ((n moment : ℕ) (a : Place × Parts) (h : Hop) → P (second_job (worker_of workers a.1) n moment h))
    → Each P (placed_packets workers local macs told packets)
each_packet P workers local macs told [] own second = tt
each_packet P workers local macs told (p ∷ ps) own second =
    each_append P (placed_packet workers p.0 p.1.moment (hops_of local macs told p.0 (aim_of macs p.1)) (aim_of macs p.1)) (placed_packets workers local macs told ps)
    (one (aim_of macs p.1) (hops_of local macs told p.0 (aim_of macs p.1))) (each_packet P workers local macs told ps own second)
  where
    one : (to : Result (Place × Parts) LooseCause) (hops : List Hop) → Each P (placed_packet workers p.0 p.1.moment hops to)
    one (Err why) hops = tt
    one (Ok a) hops = (own p.0 p.1.moment a, each_hop P (worker_of workers a.1) p.0 p.1.moment hops (second p.0 p.1.moment a))

pub each_at : (P : Job → Type 0) (i : ℕ) (js : List Placed) → Each (λ t. P t.1) js → Each P (at_place i js)
each_at P i [] e = tt
each_at P i (t ∷ js) e = by (t.0 == i) refl (each_at P i js e.1)
  where
    by : (b : Bool) → (t.0 == i) ≡ b → Each P (at_place i js) → Each P (at_place i (t ∷ js))
    by true q rest = rw q (e.0, rest)
    by false q rest = rw q rest

-- a law of jobs that each packet's jobs have, whoever brings it and wherever it goes, all packets' jobs at a port have
pub each_packet_at : (P : Job → Type 0) (workers : ℕ) (local : Bool) (macs : List ℕ) (told : List PortRound) (i : ℕ) (packets : List (ℕ × Record))
    → ((n moment : ℕ) (frame : Parts) (place : Place) (parts : Parts) → P (Carry (crossing_by (worker_of workers frame) n place moment parts) parts))
    → Each P (at_place i (placed_packets workers local macs told packets))
each_packet_at P workers local macs told i packets each =
    each_at P i (placed_packets workers local macs told packets)
    (each_packet (λ t. P t.1) workers local macs told packets (λ n moment a. each n moment a.1 a.0 a.1) (λ n moment a h. each n moment a.1 (record { port = h.port; dir = In }) h.parts))

-- ---- the jobs of a port, where no packet is handed on

pub place_append : (i : ℕ) (js ks : List Placed) → at_place i (js ++ ks) ≡ at_place i js ++ at_place i ks
place_append i [] ks = refl
place_append i (t ∷ js) ks = by (t.0 == i) refl (place_append i js ks)
  where
    by : (b : Bool) → (t.0 == i) ≡ b → at_place i (js ++ ks) ≡ at_place i js ++ at_place i ks → at_place i (t ∷ js ++ ks) ≡ at_place i (t ∷ js) ++ at_place i ks
    by true e ih = rw e (ap (λ w. t.1 ∷ w) ih)
    by false e ih = rw e ih

one_aimed : (workers i n moment : ℕ) (to : Result (Place × Parts) LooseCause) → at_place i (placed_packet workers n moment [] to) ≡ aimed_at workers i n moment to
one_aimed workers i n moment (Err why) = refl
one_aimed workers i n moment (Ok a) = by (a.0.port == i) refl
  where
    by : (b : Bool) → (a.0.port == i) ≡ b → at_place i (placed_packet workers n moment [] (Ok a)) ≡ aimed_at workers i n moment (Ok a)
    by true e = rw e refl
    by false e = rw e refl

all_aimed : (workers : ℕ) (macs : List ℕ) (told : List PortRound) (i : ℕ) (packets : List (ℕ × Record)) → at_place i (placed_packets workers false macs told packets) ≡ packet_jobs workers macs i packets
all_aimed workers macs told i [] = refl
all_aimed workers macs told i (p ∷ ps) =
    place_append i (placed_packet workers p.0 p.1.moment [] (aim_of macs p.1)) (placed_packets workers false macs told ps)
    ∙ (ap (λ w. w ++ at_place i (placed_packets workers false macs told ps)) (one_aimed workers i p.0 p.1.moment (aim_of macs p.1))
    ∙ ap (λ w. aimed_at workers i p.0 p.1.moment (aim_of macs p.1) ++ w) (all_aimed workers macs told i ps))

-- the packets at a port are those aimed at it
pub packets_aimed : (workers : ℕ) (local : Bool) (macs : List ℕ) (told : List PortRound) (i : ℕ) (packets : List (ℕ × Record)) → local ≡ false → at_place i (placed_packets workers local macs told packets) ≡ packet_jobs workers macs i packets
packets_aimed workers false macs told i packets e = all_aimed workers macs told i packets
packets_aimed workers true macs told i packets e = absurd (cc e)

pub jobs_are_aimed : JobsAreAimed
jobs_are_aimed s records told first next place number e =
    ap (λ (w : List Job). record { first = before_jobs s.commands first number; later = during_jobs s.commands first number ++ w })
    (packets_aimed s.workers s.local (macs_of s.policy) told place (packets_between records first next) e)
