-- The report of one worker where memory suffices and no packet is handed on, worked out from the policy, the commands and the records.
use Rattle.std.specs.Prelude.{ℕ, ◌-◌, suc, List, [], ◌∷◌, ◌++◌, length, map, Bool, true}
use Rattle.vsw_base.specs.declared.fate.Fate.{Fate}
use Rattle.vsw_base.specs.declared.fate.Fate.TheVariants.{Pass, Drop}
use Rattle.vsw_base.specs.declared.flow.Crossing.{Crossing}
use Rattle.vsw_base.specs.Frame.{Parts}
use Rattle.vsw_port.specs.Cross.{cross_of}
use Rattle.vsw_walk.specs.Walk.{walk_of}
use Rattle.vsw_frame.specs.Bytes.{outgoing}
use Rattle.vsw_policy.specs.Layer.{LayerSeen}
use Rattle.vsw_pcap.specs.declared.capture.Record.{Record}
use Rattle.vsw_policy.specs.Obey.{obey}
use Rattle.vsw_promise.specs.Ports.{PortSeen, ports_of}
use Rattle.vsw_port.specs.declared.event.Event.{Event}
use Rattle.vsw_report.specs.declared.round.PortRound.{PortRound}
use Rattle.vsw_report.specs.declared.round.Round.{Round}
use Rattle.vsw_port.specs.Calls.{Job, Carry, Ask, Deed, Carried, Asked, Call, entries_of}
use Rattle.vsw_port.specs.History.{Opening, replay, reply_in}
use Rattle.vsw_port.specs.Fate.{fate_at}
use Rattle.vsw_promise.specs.Jobs.{Setting, Jobs, jobs_of, loose_among, macs_of, packets_between}
use Rattle.vsw_promise.specs.Rounds.{opening_of, end_before}
use Rattle.vsw_promise.specs.Told.{lines_of}

-- the bytes of a packet with this fate
abbrev pub shown : List LayerSeen → Crossing → Parts → Fate → List ℕ
shown ls x p (Pass len) = outgoing p (walk_of ls x).stack (walk_of ls x).kept
shown ls x p (Drop cause) = []

-- how a job is done at these layers, and whether it is an entry
abbrev pub deed_at : List ℕ → List LayerSeen → Job → Deed
deed_at cs ls (Carry x p) = Carried x p (fate_at ls x) (shown ls x p (fate_at ls x))
deed_at cs ls (Ask l) = Asked l (reply_in (obey cs ls l.controller l.command))

abbrev pub enters_at : List ℕ → List LayerSeen → Job → Bool
enters_at cs ls (Carry x p) = (cross_of ls x).changed
enters_at cs ls (Ask l) = true

-- the call of a job at the end of a history, and the history after it
abbrev pub call_at : Opening → List Event → Job → Call
call_at o h j = record { deed = deed_at o.controllers (replay o h) j; entry = enters_at o.controllers (replay o h) j; count = length h }

abbrev pub next_history : Opening → List Event → Job → List Event
next_history o h j = h ++ entries_of (call_at o h j ∷ [])

-- jobs done one after the other
abbrev pub calls_from : Opening → List Event → List Job → List Call
calls_from o h [] = []
calls_from o h (j ∷ js) = call_at o h j ∷ calls_from o (next_history o h j) js

abbrev pub history_from : Opening → List Event → List Job → List Event
history_from o h js = h ++ entries_of (calls_from o h js)

-- a port's round after a history
abbrev pub port_round_from : PortSeen → List Event → List Job → PortRound
port_round_from p h js = record {
  port = p.number;
  before = length h;
  after = length (history_from (opening_of p) h js);
  lines = lines_of p.controllers (calls_from (opening_of p) h js) (length h) (length (history_from (opening_of p) h js) - length h);
}

abbrev pub all_of : Jobs → List Job
all_of jobs = jobs.first ++ jobs.later

-- the rounds of several ports after their histories, from the one at this place on, and the histories after these. No packet is handed on, so
-- jobs are the same whatever the round tells
abbrev pub port_rounds_from : Setting → List Record → ℕ → ℕ → ℕ → List PortSeen → List (List Event) → List PortRound
port_rounds_from s records first next place (p ∷ ps) (h ∷ hs) = port_round_from p h (all_of (jobs_of s records [] first next place p.number)) ∷ port_rounds_from s records first next (suc place) ps hs
port_rounds_from s records first next place _ _ = []

abbrev pub histories_from : Setting → List Record → ℕ → ℕ → ℕ → List PortSeen → List (List Event) → List (List Event)
histories_from s records first next place (p ∷ ps) (h ∷ hs) = history_from (opening_of p) h (all_of (jobs_of s records [] first next place p.number)) ∷ histories_from s records first next (suc place) ps hs
histories_from s records first next place _ _ = []

-- the rounds at these cuts, after these histories
abbrev pub rounds_from : Setting → List Record → List (List Event) → List ℕ → List Round
rounds_from s records hs [] = []
rounds_from s records hs (cut ∷ cuts) = record {
  first = cut;
  ports = port_rounds_from s records cut (end_before cuts (length records)) 0 (ports_of s.policy) hs;
  loose = loose_among (macs_of s.policy) (packets_between records cut (end_before cuts (length records)));
} ∷ rounds_from s records (histories_from s records cut (end_before cuts (length records)) 0 (ports_of s.policy) hs) cuts

-- all rounds, from no entries on
abbrev pub rounds_alone : Setting → List Record → List ℕ → List Round
rounds_alone s records cuts = rounds_from s records (map (λ p. []) (ports_of s.policy)) cuts
