-- The jobs of a round are of numbers in the ranges of their types, and their frames are bytes.
use Rattle.std.proofs.Common.{◌≡◌, ◌≤◌, ◌<◌, ◌-◌, ◌^◌, ◌==◌, ◌&&◌, ◌||◌, not, ℕ, zero, suc, Bool, true, false, true≢false, if◌then◌else◌, List, [], ◌∷◌, ◌++◌, length, map, filter, take, Option, Some, None, Result, Ok, Err, nat_lt, refl, sym, ap, subst, ◌∙◌, arith, eq-eqb}
use Rattle.std.specs.Prelude.{option_and_then, option_map, option_to_list}
use Rattle.std.specs.List.{flat_map, slice_get}
use Rattle.std.proofs.lemmas.Nat.{mod_below}
use Rattle.hex.specs.Hex.{IsBytes}
use Rattle.vsw_base.specs.declared.fate.Fate.{Fate}
use Rattle.vsw_base.specs.declared.fate.Fate.TheVariants as fate
use Rattle.vsw_base.specs.declared.fault.BadFrame.{BadFrame}
use Rattle.vsw_base.specs.declared.flow.Place.{Place}
use Rattle.vsw_base.specs.declared.packet.Dir.{Dir}
use Rattle.vsw_base.specs.declared.packet.Dir.TheVariants.{Out, In}
use Rattle.vsw_base.specs.Frame.{Parts, frame_of}
use Rattle.vsw_commandfile.specs.declared.line.Line.{Line}
use Rattle.vsw_header.specs.FlowSum.{flow_sum_of}
use Rattle.vsw_header.specs.PortChoice.{choose, in_of}
use Rattle.vsw_history_law.proofs.Agrees.{between_are}
use Rattle.vsw_history_law.proofs.Callers.{eqb_is}
use Rattle.vsw_history_law.proofs.Reports.{each_filter, each_map, each_told, map_each, round_jobs}
use Rattle.vsw_pcap.specs.declared.capture.Record.{Record}
use Rattle.vsw_policy.specs.Sound.{Each, is_listed}
use Rattle.vsw_port.proofs.Calls.{call_later, each_append, each_of_all}
use Rattle.vsw_port.proofs.Fronts.{take_prefix}
use Rattle.vsw_port.specs.Calls.{Ask, Asked, Call, Carried, Carry, Deed, HasBytes, IsCall, Job, job_of}
use Rattle.vsw_port.specs.History.{Opening}
use Rattle.vsw_port.specs.declared.event.Event.{Event}
use Rattle.vsw_promise.specs.Jobs.{Hop, Jobs, Placed, Setting, aim_of, at_place, crossing_by, during_jobs, fates_told, handed_on, hop_of, hops_of, if_other, jobs_of, local_to, macs_of, packets_between, placed_packet, placed_packets, second_job, worker_of}
use Rattle.vsw_promise.specs.Ports.{PortSeen}
use Rattle.vsw_promise.specs.Rounds.{IsPortRound, opening_of}
use Rattle.vsw_promise.specs.Told.{fates_in, in_told_order, is_packet, is_worker, line_of}
use Rattle.vsw_report.specs.Proper.{IsProperFate}
use Rattle.vsw_report.specs.declared.round.LooseCause.{LooseCause}
use Rattle.vsw_report.specs.declared.round.LooseCause.TheVariants.{Snapped, Malformed, NoPort}
use Rattle.vsw_report.specs.declared.round.PortRound.{PortRound}
use Rattle.vsw_report.specs.declared.told.ToldLine.{ToldLine}
use Rattle.vsw_report.specs.declared.told.What.{What}
use Rattle.vsw_report.specs.declared.told.What.TheVariants as what
use Rattle.vsw_report_law.proofs.Causes.{OfSome, each_get}
use Rattle.vsw_report_law.proofs.Fates.{FitsHistory, FitsJob, IsFramed, carried_proper}
use Rattle.vsw_report_law.proofs.Outgoing.{no_bytes}
use Rattle.vsw_report_law.specs.Fits.{FitsLine}
use Rattle.vsw_report_law.specs.Given.{AreGiven}

-- ---- the packets of a round

-- a packet of the trace, with its number
pub record IsPacket (records : List Record) (p : ℕ × Record) : Type 0 where
  pub number : p.0 < 2 ^ 32
  pub is : slice_get records p.0 ≡ Some p.1
  pub bytes : IsBytes p.1.bytes

each_as : {A : Type 0} (P Q : A → Type 0) → ((x : A) → P x → Q x) → (xs : List A) → Each P xs → Each Q xs
each_as P Q f [] h = tt
each_as P Q f (x ∷ xs) h = (f x h.0, each_as P Q f xs h.1)

get_below : (rs : List Record) (n : ℕ) (r : Record) → slice_get rs n ≡ Some r → n < length rs
get_below [] n r e = absurd (cc e)
get_below (x ∷ rs) zero r e = omega arith
get_below (x ∷ rs) (suc n) r e = omega (arith, get_below rs n r e)

pub packets_known : (s : Setting) (records : List Record) (first next : ℕ) → AreGiven s records → Each (IsPacket records) (packets_between records first next)
packets_known s records first next given =
    each_as (λ p. slice_get records p.0 ≡ Some p.1) (IsPacket records)
    (λ p e. record {
      number = omega (arith, get_below records p.0 p.1 e, given.packets);
      is = e;
      bytes = subst (OfSome (λ (r : Record). IsBytes r.bytes)) e (each_get (λ (r : Record). IsBytes r.bytes) records p.0 given.bytes);
    })
    (packets_between records first next) (between_are records first next)

-- a packet that goes to a port is a frame
aim_frame : (macs : List ℕ) (r : Record) (a : Place × Parts) → aim_of macs r ≡ Ok a → frame_of r.bytes ≡ Ok a.1
aim_frame macs r a = by (nat_lt (length r.bytes) r.original) (frame_of r.bytes)
  where
    placed : (o : Option Place) (parts : Parts) → ◌≡◌ {A = Result (Place × Parts) LooseCause} (elim o [ None ↦ Err NoPort | Some place ↦ Ok (place, parts) ]) (Ok a) → parts ≡ a.1
    placed None parts e = absurd (cc e)
    placed (Some place) parts e = let same : (place, parts) ≡ a = cc e in ap (λ (t : Place × Parts). t.1) same

    by : (b : Bool) (o : Result Parts BadFrame)
        → ◌≡◌ {A = Result (Place × Parts) LooseCause} (if b then Err Snapped else elim o [ Err fault ↦ Err (Malformed fault) | Ok parts ↦ elim (choose macs parts.stack) [ None ↦ Err NoPort | Some place ↦ Ok (place, parts) ] ]) (Ok a) → ◌≡◌ {A = Result Parts BadFrame} o (Ok a.1)
    by true o e = absurd (cc e)
    by false (Err f) e = absurd (cc e)
    by false (Ok parts) e = ap Ok (placed (choose macs parts.stack) parts e)

framed : (worker n : ℕ) (place : Place) (moment : ℕ) (p : Parts) (bytes : List ℕ) → frame_of bytes ≡ Ok p → IsBytes bytes → IsFramed (crossing_by worker n place moment p) p
framed worker n place moment p bytes e h = record { bytes = bytes; frame = e; are = h; stack = refl; sizes = refl }

-- ---- what a packet is handed on as goes elsewhere

abbrev IsElsewhere : ℕ → Hop → Type 0
IsElsewhere port h = (h.port == port) ≡ false

hop_elsewhere : (macs : List ℕ) (from : ℕ) (bytes : List ℕ) → Each (IsElsewhere from) (option_to_list (hop_of macs from bytes))
hop_elsewhere macs from bytes = by (frame_of bytes)
  where
    test : (parts : Parts) (port : ℕ) (b : Bool) → (port == from) ≡ b → Each (IsElsewhere from) (option_to_list (option_map (λ port. record { port = port; parts = parts }) (if b then None else Some port)))
    test parts port true e = tt
    test parts port false e = (e, tt)

    at : (parts : Parts) (o : Option ℕ) → Each (IsElsewhere from) (option_to_list (option_map (λ port. record { port = port; parts = parts }) (option_and_then (if_other from) o)))
    at parts None = tt
    at parts (Some port) = test parts port (port == from) refl

    by : (o : Result Parts BadFrame) → Each (IsElsewhere from) (option_to_list (elim o [ Err fault ↦ None | Ok parts ↦ option_map (λ port. record { port = port; parts = parts }) (option_and_then (if_other from) (in_of macs parts.stack)) ]))
    by (Err fault) = tt
    by (Ok parts) = at parts (in_of macs parts.stack)

handed_elsewhere : (macs : List ℕ) (place : Place) (w : What) → Each (IsElsewhere place.port) (handed_on macs place w)
handed_elsewhere macs place (what.Reply reply) = tt
handed_elsewhere macs place (what.Fate (fate.Drop cause) bytes) = tt
handed_elsewhere macs place (what.Fate (fate.Pass len) bytes) = by place.dir
  where
    by : (d : Dir) → Each (IsElsewhere place.port) (elim d [ In ↦ [] | Out ↦ option_to_list (hop_of macs place.port bytes) ])
    by In = tt
    by Out = hop_elsewhere macs place.port bytes

flat_each : {A B : Type 0} (P : B → Type 0) (Q : A → Type 0) (f : A → List B) (xs : List A) → ((x : A) → Q x → Each P (f x)) → Each Q xs → Each P (flat_map f xs)
flat_each P Q f [] each h = tt
flat_each P Q f (x ∷ xs) each h = each_append P (f x) (flat_map f xs) (each x h.0) (flat_each P Q f xs each h.1)

each_any : {A : Type 0} (xs : List A) → Each (λ x. Unit {0}) xs
each_any [] = tt
each_any (x ∷ xs) = (tt, each_any xs)

hops_elsewhere : (local : Bool) (macs : List ℕ) (told : List PortRound) (n : ℕ) (a : Place × Parts) → Each (IsElsewhere a.0.port) (hops_of local macs told n (Ok a))
hops_elsewhere false macs told n a = tt
hops_elsewhere true macs told n a = flat_each (IsElsewhere a.0.port) (λ w. Unit {0}) (handed_on macs a.0) (fates_told told a.0.port n) (λ w u. handed_elsewhere macs a.0 w) (each_any (fates_told told a.0.port n))

-- ---- where a packet goes first, its frame is that of its record

abbrev OwnAt : List ℕ → List Record → ℕ → Job → Type 0
OwnAt macs records i (Carry x p) = (r : Record) (a : Place × Parts) → slice_get records x.packet ≡ Some r → aim_of macs r ≡ Ok a → (a.0.port == i) ≡ true → IsFramed x p
OwnAt macs records i (Ask l) = Unit {0}

abbrev OwnIf : List ℕ → List Record → ℕ → Placed → Type 0
OwnIf macs records i t = (t.0 == i) ≡ true → OwnAt macs records i t.1

each_at : (P : Job → Type 0) (i : ℕ) (js : List Placed) → Each (λ t. (t.0 == i) ≡ true → P t.1) js → Each P (at_place i js)
each_at P i [] e = tt
each_at P i (t ∷ js) e = by (t.0 == i) refl (each_at P i js e.1)
  where
    by : (b : Bool) → (t.0 == i) ≡ b → Each P (at_place i js) → Each P (map (λ (t : Placed). t.1) (if b then t ∷ filter (λ (t : Placed). t.0 == i) js else filter (λ (t : Placed). t.0 == i) js))
    by true q rest = (e.0 q, rest)
    by false q rest = rest

same_aim : (macs : List ℕ) (records : List Record) (n : ℕ) (r w : Record) (a b : Place × Parts) → slice_get records n ≡ Some w → slice_get records n ≡ Some r → aim_of macs w ≡ Ok a → aim_of macs r ≡ Ok b → a ≡ b
same_aim macs records n r w a b f g e h =
    let same : Some w ≡ Some r = sym f ∙ g in
    let rs : w ≡ r = cc same in
    let both : Ok a ≡ Ok b = sym e ∙ (ap (aim_of macs) rs ∙ h) in
    cc both

packet_own : (workers : ℕ) (macs : List ℕ) (records : List Record) (i : ℕ) (p : ℕ × Record) (aim : Result (Place × Parts) LooseCause) (hops : List Hop) → IsPacket records p → aim_of macs p.1 ≡ aim → ((a : Place × Parts) → aim ≡ Ok a → Each (IsElsewhere a.0.port) hops)
    → Each (OwnIf macs records i) (placed_packet workers p.0 p.1.moment hops aim)
packet_own workers macs records i p (Err why) hops known e away = tt
packet_own workers macs records i p (Ok a) hops known e away = (
  (λ here r b g h k. framed (worker_of workers a.1) p.0 a.0 p.1.moment a.1 p.1.bytes (aim_frame macs p.1 a e) known.bytes),
  seconds hops (away a refl),
)
  where
    seconds : (hs : List Hop) → Each (IsElsewhere a.0.port) hs → Each (OwnIf macs records i) (map (second_job (worker_of workers a.1) p.0 p.1.moment) hs)
    seconds [] w = tt
    seconds (h ∷ hs) w = (
      (λ here r b g f k. absurd (
          let same : a ≡ b = same_aim macs records p.0 r p.1 a b known.is g e f in
          let at : h.port ≡ a.0.port = eqb_is h.port i here ∙ (sym (eqb_is b.0.port i k) ∙ ap (λ (t : Place × Parts). t.0.port) (sym same)) in
          true≢false (sym (eq-eqb h.port a.0.port at) ∙ w.0)
          )),
      seconds hs w.1,
    )

packets_own : (workers : ℕ) (local : Bool) (macs : List ℕ) (told : List PortRound) (records : List Record) (i : ℕ) (packets : List (ℕ × Record)) → Each (IsPacket records) packets → Each (OwnIf macs records i) (placed_packets workers local macs told packets)
packets_own workers local macs told records i packets known =
    flat_each (OwnIf macs records i) (IsPacket records) (λ p. placed_packet workers p.0 p.1.moment (hops_of local macs told p.0 (aim_of macs p.1)) (aim_of macs p.1)) packets
    (λ p k. packet_own workers macs records i p (aim_of macs p.1) (hops_of local macs told p.0 (aim_of macs p.1)) k refl (λ a e. subst (λ w. Each (IsElsewhere a.0.port) (hops_of local macs told p.0 w)) (sym e) (hops_elsewhere local macs told p.0 a)))
    known

asks_own : (macs : List ℕ) (records : List Record) (i : ℕ) (ls : List Line) → Each (OwnAt macs records i) (map Ask ls)
asks_own macs records i [] = tt
asks_own macs records i (l ∷ ls) = (tt, asks_own macs records i ls)

jobs_own : (s : Setting) (records : List Record) (told : List PortRound) (first next i number : ℕ) → AreGiven s records → Each (OwnAt (macs_of s.policy) records i) ((jobs_of s records told first next i number).first ++ (jobs_of s records told first next i number).later)
jobs_own s records told first next i number given =
    let jobs = jobs_of s records told first next i number in
    let macs = macs_of s.policy in
    let packets = packets_between records first next in
    each_append (OwnAt macs records i) jobs.first jobs.later (asks_own macs records i (filter (λ l. (l.at == first) && (l.port == number) && not l.during) s.commands))
    (each_append (OwnAt macs records i) (during_jobs s.commands first number) (at_place i (placed_packets s.workers s.local macs told packets))
    (asks_own macs records i (filter (λ l. (l.at == first) && (l.port == number) && l.during) s.commands))
    (each_at (OwnAt macs records i) i (placed_packets s.workers s.local macs told packets) (packets_own s.workers s.local macs told records i packets (packets_known s records first next given))))

-- ---- so what is told of it there are bytes

abbrev BytesIn : What → Type 0
BytesIn (what.Fate f bytes) = IsBytes bytes
BytesIn (what.Reply r) = Unit {0}

abbrev pub ToldAt : List ℕ → List Record → ℕ → ToldLine → Type 0
ToldAt macs records i l = is_worker l.by ≡ true → (r : Record) (a : Place × Parts) → slice_get records l.item ≡ Some r → aim_of macs r ≡ Ok a → (a.0.port == i) ≡ true → BytesIn l.what

proper_bytes : (f : Fate) (bytes : List ℕ) → IsProperFate f bytes → IsBytes bytes
proper_bytes (fate.Pass len) bytes p = p.2
proper_bytes (fate.Drop cause) bytes p = subst IsBytes (sym p.0) no_bytes

deed_own : (macs : List ℕ) (records : List Record) (i : ℕ) (o : Opening) (h : List Event) (d : Deed) (entry : Bool) (n : ℕ) → FitsHistory o h → OwnAt macs records i (job_of d) → HasBytes o h (record { deed = d; entry = entry; count = n }) → IsCall o h (record { deed = d; entry = entry; count = n })
    → ToldAt macs records i (line_of (record { deed = d; entry = entry; count = n }))
deed_own macs records i o h (Carried x p f bytes) entry n fit own b c = λ t r a g e k. proper_bytes f bytes (carried_proper o h x p f bytes entry n fit (own r a g e k) b c)
deed_own macs records i o h (Asked l reply) entry n fit own b c = λ t r a g e k. tt

-- what holds of a round's calls and their jobs, and so of each call
pub record CallFits (o : Opening) (h : List Event) (P : Job → Type 0) (c : Call) : Type 0 where
  pub call : IsCall o h c
  pub bytes : HasBytes o h c
  pub job : P (job_of c.deed)

pub calls_fit : (workers : ℕ) (p : PortSeen) (h : List Event) (jobs : Jobs) (r : PortRound) (P : Job → Type 0) (i : IsPortRound workers p h jobs r) → Each P (jobs.first ++ jobs.later) → Each (CallFits (opening_of p) h P) (i.first ++ i.later)
calls_fit workers p h jobs r P i each =
    let o : Opening = opening_of p in
    let cs : List Call = i.first ++ i.later in
    let calls : Each (IsCall o (take r.after h)) cs = each_of_all (IsCall o (take r.after h)) p.controllers cs (λ k. (i.shares k).each) in
    all cs calls i.bytes (map_each P (λ c. job_of c.deed) cs (subst (Each P) (sym (round_jobs workers p h jobs r i)) each))
  where
    all : (cs : List Call) → Each (IsCall (opening_of p) (take r.after h)) cs → Each (HasBytes (opening_of p) h) cs → Each (λ c. P (job_of c.deed)) cs → Each (CallFits (opening_of p) h P) cs
    all [] a b c = tt
    all (x ∷ xs) a b c = (record { call = call_later (opening_of p) (take r.after h) h x (take_prefix r.after h) a.0; bytes = b.0; job = c.0 }, all xs a.1 b.1 c.1)

-- so it is of each line
pub lines_fit : (workers : ℕ) (p : PortSeen) (h : List Event) (jobs : Jobs) (r : PortRound) (P : Job → Type 0) (Q : ToldLine → Type 0) (i : IsPortRound workers p h jobs r) → Each P (jobs.first ++ jobs.later) → ((c : Call) → CallFits (opening_of p) h P c → Q (line_of c)) → Each Q r.lines
lines_fit workers p h jobs r P Q i each f =
    let cs : List Call = i.first ++ i.later in
    let more : ℕ = r.after - r.before in
    subst (Each Q) (sym i.lines) (each_map Q line_of (in_told_order p.controllers cs r.before more) (each_told (λ c. Q (line_of c)) p.controllers cs r.before more (each_as (CallFits (opening_of p) h P) (λ c. Q (line_of c)) f cs (calls_fit workers p h jobs r P i each))))

pub lines_own : (s : Setting) (records : List Record) (told : List PortRound) (first next i : ℕ) (p : PortSeen) (h : List Event) (r : PortRound) → AreGiven s records → FitsHistory (opening_of p) h → IsPortRound s.workers p h (jobs_of s records told first next i p.number) r
    → Each (ToldAt (macs_of s.policy) records i) r.lines
lines_own s records told first next i p h r given fit is =
    lines_fit s.workers p h (jobs_of s records told first next i p.number) r (OwnAt (macs_of s.policy) records i) (ToldAt (macs_of s.policy) records i) is (jobs_own s records told first next i p.number given)
    (λ c k. deed_own (macs_of s.policy) records i (opening_of p) h c.deed c.entry c.count fit k.job k.bytes k.call)

-- ---- all jobs

-- at each place the lines are such
abbrev pub AllTold : List ℕ → List Record → List PortRound → Type 0
AllTold macs records told = (i : ℕ) (q : PortRound) → slice_get told i ≡ Some q → Each (ToldAt macs records i) q.lines

and_true : (a b : Bool) → (a && b) ≡ true → (a ≡ true) × (b ≡ true)
and_true true b e = (refl, e)
and_true false b e = absurd (true≢false (sym e))

fates_bytes : (macs : List ℕ) (records : List Record) (i n : ℕ) (r : Record) (a : Place × Parts) (ls : List ToldLine) → Each (ToldAt macs records i) ls → slice_get records n ≡ Some r → aim_of macs r ≡ Ok a → (a.0.port == i) ≡ true → Each BytesIn (fates_in n ls)
fates_bytes macs records i n r a [] t g e k = tt
fates_bytes macs records i n r a (l ∷ ls) t g e k = by (is_packet n l) refl (fates_bytes macs records i n r a ls t.1 g e k)
  where
    by : (b : Bool) → is_packet n l ≡ b → Each BytesIn (fates_in n ls) → Each BytesIn (map (λ (l : ToldLine). l.what) (if b then l ∷ filter (is_packet n) ls else filter (is_packet n) ls))
    by true q ih = let u = and_true (is_worker l.by) (l.item == n) q in (t.0 u.0 r a (ap (slice_get records) (eqb_is l.item n u.1) ∙ g) e k, ih)
    by false q ih = ih

told_bytes : (macs : List ℕ) (records : List Record) (told : List PortRound) (n : ℕ) (r : Record) (a : Place × Parts) → AllTold macs records told → slice_get records n ≡ Some r → aim_of macs r ≡ Ok a → Each BytesIn (fates_told told a.0.port n)
told_bytes macs records told n r a all g e = by (slice_get told a.0.port) refl
  where
    by : (o : Option PortRound) → slice_get told a.0.port ≡ o → Each BytesIn (flat_map (λ (q : PortRound). fates_in n q.lines) (option_to_list o))
    by None t = tt
    by (Some q) t = each_append BytesIn (fates_in n q.lines) [] (fates_bytes macs records a.0.port n r a q.lines (all a.0.port q t) g e (eq-eqb a.0.port a.0.port refl)) tt

-- what a packet is handed on as is a frame of bytes
record IsHop (h : Hop) : Type 0 where
  bytes : List ℕ
  frame : frame_of bytes ≡ Ok h.parts
  are : IsBytes bytes

hop_is : (macs : List ℕ) (from : ℕ) (bytes : List ℕ) → IsBytes bytes → Each IsHop (option_to_list (hop_of macs from bytes))
hop_is macs from bytes h = by (frame_of bytes) refl
  where
    at : (parts : Parts) (o : Option ℕ) → frame_of bytes ≡ Ok parts → Each IsHop (option_to_list (option_map (λ port. record { port = port; parts = parts }) o))
    at parts None e = tt
    at parts (Some port) e = (record { bytes = bytes; frame = e; are = h }, tt)

    by : (o : Result Parts BadFrame) → frame_of bytes ≡ o → Each IsHop (option_to_list (elim o [ Err fault ↦ None | Ok parts ↦ option_map (λ port. record { port = port; parts = parts }) (local_to macs from parts) ]))
    by (Err fault) e = tt
    by (Ok parts) e = at parts (local_to macs from parts) e

handed_is : (macs : List ℕ) (place : Place) (w : What) → BytesIn w → Each IsHop (handed_on macs place w)
handed_is macs place (what.Reply reply) h = tt
handed_is macs place (what.Fate (fate.Drop cause) bytes) h = tt
handed_is macs place (what.Fate (fate.Pass len) bytes) h = by place.dir
  where
    by : (d : Dir) → Each IsHop (elim d [ In ↦ [] | Out ↦ option_to_list (hop_of macs place.port bytes) ])
    by In = tt
    by Out = hop_is macs place.port bytes h

hops_are : (local : Bool) (macs : List ℕ) (records : List Record) (told : List PortRound) (n : ℕ) (r : Record) (a : Place × Parts) → AllTold macs records told → slice_get records n ≡ Some r → aim_of macs r ≡ Ok a → Each IsHop (hops_of local macs told n (Ok a))
hops_are false macs records told n r a all g e = tt
hops_are true macs records told n r a all g e = flat_each IsHop BytesIn (handed_on macs a.0) (fates_told told a.0.port n) (λ w h. handed_is macs a.0 w h) (told_bytes macs records told n r a all g e)

packet_fits : (workers : ℕ) (macs : List ℕ) (records : List Record) (p : ℕ × Record) (aim : Result (Place × Parts) LooseCause) (hops : List Hop) → 0 < workers → workers ≤ 16 → IsPacket records p → aim_of macs p.1 ≡ aim → ((a : Place × Parts) → aim ≡ Ok a → Each IsHop hops)
    → Each (λ t. FitsJob t.1) (placed_packet workers p.0 p.1.moment hops aim)
packet_fits workers macs records p (Err why) hops least most known e are = tt
packet_fits workers macs records p (Ok a) hops least most known e are = (
  (few, known.number, framed (worker_of workers a.1) p.0 a.0 p.1.moment a.1 p.1.bytes (aim_frame macs p.1 a e) known.bytes),
  seconds hops (are a refl),
)
  where
    few : worker_of workers a.1 < 2 ^ 32
    few = omega (arith, mod_below (flow_sum_of a.1.stack) workers least, most)

    seconds : (hs : List Hop) → Each IsHop hs → Each (λ (t : Placed). FitsJob t.1) (map (second_job (worker_of workers a.1) p.0 p.1.moment) hs)
    seconds [] w = tt
    seconds (h ∷ hs) w = ((few, known.number, framed (worker_of workers a.1) p.0 (record { port = h.port; dir = In }) p.1.moment h.parts w.0.bytes w.0.frame w.0.are), seconds hs w.1)

packets_fit : (s : Setting) (records : List Record) (told : List PortRound) (packets : List (ℕ × Record)) → AreGiven s records → AllTold (macs_of s.policy) records told → Each (IsPacket records) packets
    → Each (λ t. FitsJob t.1) (placed_packets s.workers s.local (macs_of s.policy) told packets)
packets_fit s records told packets given all known =
    let macs = macs_of s.policy in
    flat_each (λ t. FitsJob t.1) (IsPacket records) (λ p. placed_packet s.workers p.0 p.1.moment (hops_of s.local macs told p.0 (aim_of macs p.1)) (aim_of macs p.1)) packets
    (λ p k. packet_fits s.workers macs records p (aim_of macs p.1) (hops_of s.local macs told p.0 (aim_of macs p.1)) given.served.least given.served.most k refl
    (λ a e. subst (λ w. Each IsHop (hops_of s.local macs told p.0 w)) (sym e) (hops_are s.local macs records told p.0 p.1 a all k.is e)))
    known

-- a controller that is listed has 16 bits
listed_small : (cs : List ℕ) (c : ℕ) → Each (λ d. d < 2 ^ 16) cs → is_listed cs c ≡ true → c < 2 ^ 16
listed_small [] c e t = absurd (true≢false (sym t))
listed_small (d ∷ ds) c e t = by (c == d) refl (listed_small ds c e.1) t
  where
    by : (b : Bool) → (c == d) ≡ b → (is_listed ds c ≡ true → c < 2 ^ 16) → (b || is_listed ds c) ≡ true → c < 2 ^ 16
    by true q ih t = subst (λ n. n < 2 ^ 16) (sym (eqb_is c d q)) e.0
    by false q ih t = ih t

lines_given : (cs : List ℕ) (ls : List Line) → Each (λ d. d < 2 ^ 16) cs → Each FitsLine ls → Each (λ l. is_listed cs l.controller ≡ true) ls → Each (λ l. FitsLine l × (l.controller < 2 ^ 16)) ls
lines_given cs [] e f a = tt
lines_given cs (l ∷ ls) e f a = ((f.0, listed_small cs l.controller e a.0), lines_given cs ls e f.1 a.1)

pub asks_fit : (s : Setting) (records : List Record) (p : Line → Bool) → AreGiven s records → Each FitsJob (map Ask (filter p s.commands))
asks_fit s records p given = each_map FitsJob Ask (filter p s.commands) (each_filter (λ l. FitsLine l × (l.controller < 2 ^ 16)) p s.commands (lines_given s.policy.controllers s.commands given.policy.0 given.commands given.served.asked))

pub jobs_fit : (s : Setting) (records : List Record) (told : List PortRound) (first next i number : ℕ) → AreGiven s records → AllTold (macs_of s.policy) records told → Each FitsJob ((jobs_of s records told first next i number).first ++ (jobs_of s records told first next i number).later)
jobs_fit s records told first next i number given all =
    let jobs = jobs_of s records told first next i number in
    let packets = packets_between records first next in
    each_append FitsJob jobs.first jobs.later (asks_fit s records (λ l. (l.at == first) && (l.port == number) && not l.during) given)
    (each_append FitsJob (during_jobs s.commands first number) (at_place i (placed_packets s.workers s.local (macs_of s.policy) told packets))
    (asks_fit s records (λ l. (l.at == first) && (l.port == number) && l.during) given)
    (each_at FitsJob i (placed_packets s.workers s.local (macs_of s.policy) told packets)
    (each_as (λ t. FitsJob t.1) (λ t. (t.0 == i) ≡ true → FitsJob t.1) (λ t h e. h) (placed_packets s.workers s.local (macs_of s.policy) told packets) (packets_fit s records told packets given all (packets_known s records first next given)))))
