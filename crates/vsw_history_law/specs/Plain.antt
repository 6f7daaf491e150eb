-- What becomes of packets in runs without stateful rules and "during" commands.
use Rattle.std.specs.Prelude.{◌≡◌, ℕ, List, [], ◌∷◌, ◌++◌, length, map}
use Rattle.std.specs.List.{flat_map}
use Rattle.vsw_pcap.specs.declared.capture.Record.{Record}
use Rattle.vsw_promise.specs.Ports.{PortSeen}
use Rattle.vsw_promise.specs.Alone.{deed_at}
use Rattle.vsw_promise.specs.Rounds.{opening_of, end_before}
use Rattle.vsw_history_law.specs.Law.{all_jobs}
use Rattle.vsw_base.specs.declared.fate.Fate.{Fate}
use Rattle.vsw_policy.specs.Layer.{LayerSeen}
use Rattle.vsw_policy.specs.Obey.{obey, rules_given}
use Rattle.vsw_policy.specs.Sound.{Each}
use Rattle.vsw_port.specs.declared.event.Event.{Event}
use Rattle.vsw_port.specs.declared.event.Event.TheVariants as event
use Rattle.vsw_port.specs.Calls.{Job, Carry, Ask, Deed, Carried, Asked, Call, job_of, Legal}
use Rattle.vsw_port.specs.History.{left_by}
use Rattle.vsw_promise.specs.Jobs.{Setting, jobs_of}
use Rattle.vsw_promise.specs.Agree.{IsPlainRule}
use Rattle.vsw_report.specs.declared.round.Round.{Round}

-- an entry that gives no stateful rule
abbrev pub IsPlainEvent : Event → Type 0
IsPlainEvent (event.Command controller line command reply) = Each IsPlainRule (rules_given command)
IsPlainEvent (event.Crossing x fate) = Unit {0}

-- the job is to carry a packet, or to ask a command
abbrev pub IsCarry : Job → Type 0
IsCarry (Carry x p) = Unit {0}
IsCarry (Ask l) = ⊥

abbrev pub IsAsk : Job → Type 0
IsAsk (Carry x p) = ⊥
IsAsk (Ask l) = Unit {0}

-- the layers after these commands, all obeyed or refused by the policy
abbrev pub layers_by : List ℕ → List LayerSeen → List Job → List LayerSeen
layers_by cs ls [] = ls
layers_by cs ls (Ask l ∷ js) = layers_by cs (left_by ls (obey cs ls l.controller l.command)) js
layers_by cs ls (Carry x p ∷ js) = layers_by cs ls js

-- a packet's number, fate and bytes: all but who brought it
abbrev pub what_became : Deed → List (ℕ × Fate × List ℕ)
what_became (Carried x p fate bytes) = (x.packet, fate, bytes) ∷ []
what_became (Asked l reply) = []

-- what becomes of the packets of these rounds, which begin at these cuts, at a port, from these layers on: commands alone change them
abbrev pub fates_from : List ℕ → Setting → List Record → ℕ → ℕ → List LayerSeen → List ℕ → List Round → List (ℕ × Fate × List ℕ)
fates_from cs s records place number ls (cut ∷ cuts) (r ∷ rounds) =
    flat_map (λ j. what_became (deed_at cs (layers_by cs ls (jobs_of s records r.ports cut (end_before cuts (length records)) place number).first) j)) (jobs_of s records r.ports cut (end_before cuts (length records)) place number).later
    ++ fates_from cs s records place number (layers_by cs ls (jobs_of s records r.ports cut (end_before cuts (length records)) place number).first) cuts rounds
fates_from cs s records place number ls _ _ = []

-- a port's calls in a run, and what became of its packets, in packet order
pub record FatesAre (s : Setting) (records : List Record) (cuts : List ℕ) (rounds : List Round) (place : ℕ) (p : PortSeen) (h : List Event) : Type 0 where
  pub calls : List Call
  pub legal : Legal (opening_of p) h calls
  pub jobs : map (λ c. job_of c.deed) calls ≡ all_jobs s records cuts rounds place p.number
  pub became : flat_map (λ c. what_became c.deed) calls ≡ fates_from p.controllers s records place p.number p.layers cuts rounds
