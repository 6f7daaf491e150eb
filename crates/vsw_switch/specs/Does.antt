-- What the ports of a switch do: calls, one after the other. Each is the next on its port's history.
use Rattle.std.specs.Prelude.{◌≡◌, ◌<◌, ℕ, zero, suc, List, [], ◌∷◌, ◌++◌, filter, length, map, not, true, ◌==◌, Result}
use Rattle.vsw_answer.specs.Transit.{bytes_in}
use Rattle.vsw_base.specs.declared.flow.Crossing.{Crossing}
use Rattle.vsw_base.specs.declared.flow.Place.{Place}
use Rattle.vsw_base.specs.Frame.{Parts}
use Rattle.vsw_commandfile.specs.declared.line.Line.{Line}
use Rattle.vsw_hairpin.specs.Handing.{HasHanded, with_hops}
use Rattle.vsw_port.specs.Calls.{Call, Carried, Job, Carry, Ask, job_of, entries_of}
use Rattle.vsw_port.specs.Next.{IsNext}
use Rattle.vsw_port.specs.Order.{ascending}
use Rattle.vsw_port.specs.declared.crossing.Outcome.{Outcome}
use Rattle.vsw_report.specs.Line.{TextLine, text_of}
use Rattle.vsw_pcap.specs.declared.capture.Record.{Record}
use Rattle.vsw_policy.specs.Layers.{place_of}
use Rattle.vsw_policy.specs.Obey.{is_memory}
use Rattle.vsw_policy.specs.Refusals.{reply_of}
use Rattle.vsw_policy.specs.Sound.{is_listed}
use Rattle.vsw_policy.specs.declared.refusal.Refusal.{Refusal}
use Rattle.vsw_promise.specs.Jobs.{Placed, aim_of, crossing_by, handed_on, loose_after, placed_packet, second_job, worker_of}
use Rattle.vsw_promise.specs.Told.{by_of, line_of, what_of}
use Rattle.vsw_report.specs.declared.round.Loose.{Loose}
use Rattle.vsw_report.specs.declared.told.By.{By}
use Rattle.vsw_report.specs.declared.told.By.TheVariants.{Worker, Controller}
use Rattle.vsw_report.specs.declared.told.ToldLine.{ToldLine}
use Rattle.vsw_report.specs.declared.told.What.{What}
use Rattle.vsw_report.specs.declared.told.What.TheVariants as what
use Rattle.vsw_switch.specs.Switch.{PortNow, SwitchNow}
use Rattle.vsw_switch.specs.Tally.{counted_in}

-- ---- one port

-- a line behind those of the caller at a place
abbrev pub told_at : ℕ → TextLine → List (List TextLine) → List (List TextLine)
told_at n line [] = []
told_at zero line (ls ∷ callers) = (ls ++ line ∷ []) ∷ callers
told_at (suc n) line (ls ∷ callers) = ls ∷ told_at n line callers

-- what is told by the workers, and by the controllers, after a line of one of them
abbrev pub told_workers : By → TextLine → List (List TextLine) → List (List TextLine)
told_workers (Worker n) line workers = told_at n line workers
told_workers (Controller c) line workers = workers

abbrev pub told_controllers : List ℕ → By → TextLine → List (List TextLine) → List (List TextLine)
told_controllers cs (Worker n) line controllers = controllers
told_controllers cs (Controller c) line controllers = told_at (place_of c (ascending cs)) line controllers

-- what is told of a packet with this outcome: its bytes are its frame's own, or those at the front of a room
abbrev pub fate_told : Outcome → Parts → List ℕ → What
fate_told o p out = what.Fate o.fate (bytes_in o.own p o.fate out)

-- the line in which its worker tells it, and the one in which a controller tells the answer to its command
abbrev pub packet_line : Crossing → Parts → Outcome → List ℕ → ℕ → ToldLine
packet_line x p o out count = record { by = Worker x.caller; item = x.packet; entry = o.entry; count = count; what = fate_told o p out }

abbrev pub reply_line : Line → Result (Unit {0}) Refusal → ℕ → ToldLine
reply_line l answer count = record { by = Controller l.controller; item = l.number; entry = not (is_memory answer); count = count; what = what.Reply (reply_of answer) }

-- the call of a packet with this outcome
abbrev pub packet_call : Crossing → Parts → Outcome → List ℕ → ℕ → Call
packet_call x p o out count = record { deed = Carried x p o.fate (bytes_in o.own p o.fate out); entry = o.entry; count = count }

-- a port after a call: its history has the entry, if it is one, its caller the line, and its tally what became of the packet
abbrev pub with_call : Call → PortNow → PortNow
with_call c p = record {
  number = p.number;
  mac = p.mac;
  opening = p.opening;
  journal = p.journal ++ entries_of (c ∷ []);
  before = p.before;
  workers = told_workers (by_of c.deed) (text_of (line_of c)) p.workers;
  controllers = told_controllers p.opening.controllers (by_of c.deed) (text_of (line_of c)) p.controllers;
  tally = counted_in (what_of c.deed) p.tally;
  last = p.last;
}

-- the job is one of the port's workers' or controllers'
abbrev pub HasCaller : PortNow → Job → Type 0
HasCaller p (Carry x parts) = x.caller < length p.workers
HasCaller p (Ask l) = is_listed p.opening.controllers l.controller ≡ true

-- a port makes a call: it is the next on its history
pub record Makes (p : PortNow) (c : Call) (q : PortNow) : Type 0 where
  pub caller : HasCaller p (job_of c.deed)
  pub next : IsNext p.opening p.journal c
  pub is : q ≡ with_call c p

-- a port does a job: by a call
pub record Does (p : PortNow) (j : Job) (q : PortNow) : Type 0 where
  pub call : Call
  pub job : job_of call.deed ≡ j
  pub makes : Makes p call q

-- ---- all ports

-- a call, with the place of its port
abbrev pub CallAt : Type 0
CallAt = ℕ × Call

-- the job that it did, and the calls of the port at a place among these
abbrev pub job_at : CallAt → Placed
job_at c = (c.0, job_of c.1.deed)

abbrev pub calls_at : ℕ → List CallAt → List Call
calls_at i cs = map (λ c. c.1) (filter (λ c. c.0 == i) cs)

-- the port at a place makes a call, and the others stay as they are
abbrev pub MakesAt : ℕ → Call → List PortNow → List PortNow → Type 0
MakesAt zero c (p ∷ ps) (q ∷ qs) = Makes p c q × (qs ≡ ps)
MakesAt (suc n) c (p ∷ ps) (q ∷ qs) = (q ≡ p) × MakesAt n c ps qs
MakesAt n c _ _ = ⊥

-- the port at a place carries a packet with this outcome, at whichever count
abbrev pub CarriesAt : ℕ → Crossing → Parts → Outcome → List ℕ → List PortNow → List PortNow → Type 0
CarriesAt n x p o out ps qs = (count : ℕ) × MakesAt n (packet_call x p o out count) ps qs

-- calls, one after the other
abbrev pub MakesAll : List CallAt → List PortNow → List PortNow → Type 0
MakesAll [] ps qs = qs ≡ ps
MakesAll (c ∷ cs) ps qs = (mid : List PortNow) × MakesAt c.0 c.1 ps mid × MakesAll cs mid qs

-- jobs, one after the other
pub record DoesAll (jobs : List Placed) (ps qs : List PortNow) : Type 0 where
  pub calls : List CallAt
  pub jobs_are : map job_at calls ≡ jobs
  pub make : MakesAll calls ps qs

-- among these calls each of these jobs was done, and handed this on to ports of these addresses
abbrev pub AreHanded : List ℕ → List CallAt → List Placed → List (List Placed) → Type 0
AreHanded macs cs [] [] = Unit {0}
AreHanded macs cs (j ∷ js) (h ∷ hops) = HasHanded macs (calls_at j.0 cs) j h × AreHanded macs cs js hops
AreHanded macs cs _ _ = ⊥

-- jobs, one after the other, and after each at once those that its call hands on to ports of these addresses
pub record HandsOn (macs : List ℕ) (jobs : List Placed) (ps qs : List PortNow) : Type 0 where
  pub hops : List (List Placed)
  pub does : DoesAll (with_hops jobs hops) ps qs
  pub handed : AreHanded macs does.calls jobs hops

-- the job that packet n, with a frame of these parts, is at its place to the one of so many workers whose it is
abbrev pub carried_job : ℕ → ℕ → Place → ℕ → Parts → Placed
carried_job workers n place moment p = (place.port, Carry (crossing_by (worker_of workers p) n place moment p) p)

-- the jobs of a packet, of which this is told at the port at a place, for what it is handed on as from there
abbrev pub second_jobs : List ℕ → Crossing → ℕ → What → List Placed
second_jobs macs x from w = map (second_job x.caller x.packet x.moment) (handed_on macs (record { port = from; dir = x.id.dir }) w)

-- the addresses and the numbers of the ports
abbrev pub macs_in : SwitchNow → List ℕ
macs_in s = map (λ p. p.mac) s.ports

abbrev pub numbers_in : SwitchNow → List ℕ
numbers_in s = map (λ p. p.number) s.ports

-- a switch before and after these jobs
pub record Works (s : SwitchNow) (jobs : List Placed) (t : SwitchNow) : Type 0 where
  pub workers : t.workers ≡ s.workers
  pub locals : t.locals ≡ s.locals
  pub ports : DoesAll jobs s.ports t.ports
  pub loose_are : t.loose ≡ s.loose

-- a switch before and after these jobs, each with what it handed on, and loose packets
pub record Hands (s : SwitchNow) (jobs : List Placed) (loose : List Loose) (t : SwitchNow) : Type 0 where
  pub workers : t.workers ≡ s.workers
  pub locals : t.locals ≡ s.locals
  pub ports : HandsOn s.locals jobs s.ports t.ports
  pub loose_are : t.loose ≡ s.loose ++ loose

-- a command, with the place of the port that it is for
abbrev pub placed_line : List ℕ → Line → Placed
placed_line numbers l = (place_of l.port numbers, Ask l)

-- a command was asked of its port
abbrev pub Asks : SwitchNow → Line → SwitchNow → Type 0
Asks s l t = Works s (placed_line (numbers_in s) l ∷ []) t

-- packet n went to its port, and on to another if it was handed on, or it is loose
abbrev pub Forwards : SwitchNow → ℕ → Record → SwitchNow → Type 0
Forwards s n r t = Hands s (placed_packet s.workers n r.moment [] (aim_of (macs_in s) r)) (loose_after n (aim_of (macs_in s) r)) t
