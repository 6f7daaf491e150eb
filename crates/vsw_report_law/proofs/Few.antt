-- A run has no more jobs at a port than commands and twice the records, where packets are handed on too.
use Rattle.std.proofs.Common.{◌≡◌, ◌≢◌, ◌≤◌, inl, inr, ℕ, suc, ◌+◌, ◌*◌, ◌==◌, ◌&&◌, not, Bool, true, false, if◌then◌else◌, List, [], ◌∷◌, ◌++◌, length, map, filter, Option, Some, None, Result, Ok, Err, nat_lt, refl, ap, sym, ◌∙◌, subst, arith, eq-eqb, ne_eqb, length-append}
use Rattle.std.specs.Prelude.{option_to_list}
use Rattle.std.specs.List.{flat_map, slice_get}
use Rattle.vsw_base.specs.declared.fate.Fate.TheVariants as fate
use Rattle.vsw_base.specs.declared.flow.Place.{Place}
use Rattle.vsw_base.specs.declared.packet.Dir.{Dir}
use Rattle.vsw_base.specs.declared.packet.Dir.TheVariants.{Out, In}
use Rattle.vsw_base.specs.Frame.{Parts}
use Rattle.vsw_commandfile.specs.declared.line.Line.{Line}
use Rattle.vsw_history_law.proofs.Agrees.{AreNumbered, between_are}
use Rattle.vsw_history_law.proofs.Covers.{commands_are_covered, numbered_length, packets_are_covered}
use Rattle.vsw_history_law.proofs.OneLine.{count, count_append, count_no, count_none, count_yes, each_has_its_line, flat_few}
use Rattle.vsw_history_law.proofs.PlainRuns.{fates_append}
use Rattle.vsw_history_law.proofs.Short.{entries_are_jobs}
use Rattle.vsw_history_law.specs.Cover.{AreCovered, stretches}
use Rattle.vsw_history_law.specs.Law.{AreServed, all_jobs}
use Rattle.vsw_history_law.specs.OneLine.{times_at}
use Rattle.vsw_history_law.specs.Short.{AreCuts}
use Rattle.vsw_pcap.specs.declared.capture.Record.{Record}
use Rattle.vsw_policy.specs.Sound.{Each}
use Rattle.vsw_port.specs.Calls.{Ask}
use Rattle.vsw_port.specs.Order.{StandsOnce}
use Rattle.vsw_port.specs.declared.event.Event.{Event}
use Rattle.vsw_promise.specs.Agree.{lines_at}
use Rattle.vsw_promise.specs.Jobs.{Hop, Placed, Setting, aim_of, at_place, before_jobs, cuts, cuts_within, during_jobs, fates_told, handed_on, hop_of, hops_of, macs_of, packets_between, placed_packet, placed_packets, second_job, worker_of}
use Rattle.vsw_promise.specs.Ports.{PortSeen, ports_of}
use Rattle.vsw_promise.specs.Rounds.{AreRounds, end_before}
use Rattle.vsw_promise.specs.Told.{fates_in}
use Rattle.vsw_report.specs.declared.round.LooseCause.{LooseCause}
use Rattle.vsw_report.specs.declared.round.PortRound.{PortRound}
use Rattle.vsw_report.specs.declared.round.Round.{Round}
use Rattle.vsw_report.specs.declared.told.What.{What}
use Rattle.vsw_report.specs.declared.told.What.TheVariants as what

-- ---- commands: each names one cut

-- the commands that name these cuts, cut by cut
abbrev naming : List ℕ → List Line → ℕ
naming [] ls = 0
naming (cut ∷ cs) ls = count (λ (l : Line). l.at == cut) ls + naming cs ls

naming_none : (cs : List ℕ) → naming cs [] ≡ 0
naming_none [] = refl
naming_none (cut ∷ cs) = omega (arith, naming_none cs)

naming_more : (cs : List ℕ) (l : Line) (ls : List Line) → naming cs (l ∷ ls) ≡ count (λ c. l.at == c) cs + naming cs ls
naming_more [] l ls = refl
naming_more (cut ∷ cs) l ls = by (l.at == cut) refl (naming_more cs l ls)
  where
    by : (b : Bool) → (l.at == cut) ≡ b → naming cs (l ∷ ls) ≡ count (λ c. l.at == c) cs + naming cs ls → naming (cut ∷ cs) (l ∷ ls) ≡ count (λ c. l.at == c) (cut ∷ cs) + naming (cut ∷ cs) ls
    by true e ih = omega (arith, count_yes (λ (l : Line). l.at == cut) l ls e, count_yes (λ c. l.at == c) cut cs e, ih)
    by false e ih = omega (arith, count_no (λ (l : Line). l.at == cut) l ls e, count_no (λ c. l.at == c) cut cs e, ih)

naming_few : (cs : List ℕ) (ls : List Line) → Each (λ l. count (λ c. l.at == c) cs ≤ 1) ls → naming cs ls ≤ length ls
naming_few cs [] e = omega (arith, naming_none cs)
naming_few cs (l ∷ ls) e = omega (arith, naming_more cs l ls, e.0, naming_few cs ls e.1)

others_none : (n : ℕ) (ms : List ℕ) → Each (λ m. m ≢ n) ms → Each (λ m. (n == m) ≡ false) ms
others_none n [] e = tt
others_none n (m ∷ ms) e = (ne_eqb n m (λ f. e.0 (sym f)), others_none n ms e.1)

once_is : (n : ℕ) (cs : List ℕ) → StandsOnce n cs → count (λ c. n == c) cs ≡ 1
once_is n cs o =
    let front = count_none (λ c. n == c) o.front (others_none n o.front o.not_front) in
    let back = count_none (λ c. n == c) o.back (others_none n o.back o.not_back) in
    ap (count (λ c. n == c)) o.is ∙ omega (arith, count_append (λ c. n == c) o.front (n ∷ o.back), front, count_yes (λ c. n == c) n o.back (eq-eqb n n refl), back)

count_filter : {A : Type 0} (p q : A → Bool) (xs : List A) → count p (filter q xs) ≤ count p xs
count_filter p q [] = omega arith
count_filter p q (x ∷ xs) = by (q x) refl (p x) refl (count_filter p q xs)
  where
    kept : q x ≡ true → filter q (x ∷ xs) ≡ x ∷ filter q xs
    kept e = rw e refl

    gone : q x ≡ false → filter q (x ∷ xs) ≡ filter q xs
    gone e = rw e refl

    by : (b : Bool) → q x ≡ b → (c : Bool) → p x ≡ c → count p (filter q xs) ≤ count p xs → count p (filter q (x ∷ xs)) ≤ count p (x ∷ xs)
    by true e true f ih = omega (arith, ap (count p) (kept e), count_yes p x (filter q xs) f, count_yes p x xs f, ih)
    by true e false f ih = omega (arith, ap (count p) (kept e), count_no p x (filter q xs) f, count_no p x xs f, ih)
    by false e true f ih = omega (arith, ap (count p) (gone e), count_yes p x xs f, ih)
    by false e false f ih = omega (arith, ap (count p) (gone e), count_no p x xs f, ih)

once_each : (cs : List ℕ) (ls : List Line) → Each (λ l. StandsOnce l.at cs) ls → Each (λ l. count (λ c. l.at == c) cs ≤ 1) ls
once_each cs [] e = tt
once_each cs (l ∷ ls) e = (omega (arith, once_is l.at cs e.0), once_each cs ls e.1)

within_each : (q : ℕ → Bool) (cs : List ℕ) (ls : List Line) → Each (λ l. count (λ c. l.at == c) cs ≤ 1) ls → Each (λ l. count (λ c. l.at == c) (filter q cs) ≤ 1) ls
within_each q cs [] e = tt
within_each q cs (l ∷ ls) e = (omega (arith, count_filter (λ c. l.at == c) q cs, e.0), within_each q cs ls e.1)

-- what holds of the cuts, and of those at which a record begins, holds of the cuts of a run
pub either_cuts : (s : Setting) (records : List Record) (P : List ℕ → Type 0) (cs : List ℕ) → P (cuts s.commands (length records)) → P (cuts_within s.commands (length records)) → AreCuts s.commands (length records) cs → P cs
either_cuts s records P cs all within (inl e) = subst P (sym e) all
either_cuts s records P cs all within (inr e) = subst P (sym e) within

named_once : (s : Setting) (records : List Record) (cs : List ℕ) → AreCuts s.commands (length records) cs → Each (λ l. count (λ c. l.at == c) cs ≤ 1) s.commands
named_once s records cs are =
    let total = length records in
    let all = once_each (cuts s.commands total) s.commands (commands_are_covered s.commands total).0 in
    either_cuts s records (λ w. Each (λ l. count (λ c. l.at == c) w ≤ 1) s.commands) cs all (within_each (λ n. nat_lt n total) (cuts s.commands total) s.commands all) are

cuts_cover : (s : Setting) (records : List Record) (cs : List ℕ) → AreCuts s.commands (length records) cs → AreCovered cs records
cuts_cover s records cs are = let c = packets_are_covered s.commands records in either_cuts s records (λ w. AreCovered w records) cs c.0 c.1 are

-- the commands of a port in a round name its cut
asks_few : (first number : ℕ) (ls : List Line) → length (before_jobs ls first number) + length (during_jobs ls first number) ≤ count (λ (l : Line). l.at == first) ls
asks_few first number [] = omega arith
asks_few first number (l ∷ ls) = by (l.at == first) (l.port == number) l.during (asks_few first number ls)
  where
    before : Line → Bool
    before l = (l.at == first) && (l.port == number) && not l.during

    during : Line → Bool
    during l = (l.at == first) && (l.port == number) && l.during

    by : (a b c : Bool) → length (map Ask (filter before ls)) + length (map Ask (filter during ls)) ≤ count (λ (l : Line). l.at == first) ls
        → length (map Ask (if a && b && not c then l ∷ filter before ls else filter before ls)) + length (map Ask (if a && b && c then l ∷ filter during ls else filter during ls)) ≤ length (if a then l ∷ filter (λ (l : Line). l.at == first) ls else filter (λ (l : Line). l.at == first) ls)
    by true true true ih = omega (arith, ih)
    by true true false ih = omega (arith, ih)
    by true false true ih = omega (arith, ih)
    by true false false ih = omega (arith, ih)
    by false true true ih = ih
    by false true false ih = ih
    by false false true ih = ih
    by false false false ih = ih

-- ---- packets: each is at most two jobs

option_few : {A : Type 0} (o : Option A) → length (option_to_list o) ≤ 1
option_few None = omega arith
option_few (Some x) = omega arith

handed_few : (macs : List ℕ) (place : Place) (w : What) → length (handed_on macs place w) ≤ 1
handed_few macs place (what.Reply reply) = omega arith
handed_few macs place (what.Fate (fate.Drop cause) bytes) = omega arith
handed_few macs place (what.Fate (fate.Pass len) bytes) = by place.dir
  where
    by : (d : Dir) → length {A = Hop} (elim d [ In ↦ [] | Out ↦ option_to_list (hop_of macs place.port bytes) ]) ≤ 1
    by In = omega arith
    by Out = option_few (hop_of macs place.port bytes)

hops_few : (local : Bool) (macs : List ℕ) (told : List PortRound) (n : ℕ) (a : Place × Parts) → length (hops_of local macs told n (Ok a)) ≤ length (fates_told told a.0.port n)
hops_few false macs told n a = omega arith
hops_few true macs told n a = flat_few (handed_on macs a.0) (fates_told told a.0.port n) (handed_few macs a.0)

map_size : {A B : Type 0} (f : A → B) (xs : List A) → length (map f xs) ≡ length xs
map_size f [] = refl
map_size f (x ∷ xs) = ap suc (map_size f xs)

filter_size : {A : Type 0} (p : A → Bool) (xs : List A) → length (filter p xs) ≤ length xs
filter_size p [] = omega arith
filter_size p (x ∷ xs) = by (p x) (filter_size p xs)
  where
    by : (b : Bool) → length (filter p xs) ≤ length xs → length (if b then x ∷ filter p xs else filter p xs) ≤ suc (length xs)
    by true ih = omega (arith, ih)
    by false ih = omega (arith, ih)

packet_few : (workers n moment : ℕ) (hops : List Hop) (aim : Result (Place × Parts) LooseCause) → ((a : Place × Parts) → aim ≡ Ok a → length hops ≤ 1) → length (placed_packet workers n moment hops aim) ≤ 2
packet_few workers n moment hops (Err why) few = omega arith
packet_few workers n moment hops (Ok a) few = omega (arith, few a refl, map_size (second_job (worker_of workers a.1) n moment) hops)

-- no packet has more than one line at a place
abbrev ToldOnce : List Record → List PortRound → Type 0
ToldOnce records told = (place n : ℕ) (r : Record) → slice_get records n ≡ Some r → length (fates_told told place n) ≤ 1

packets_few : (s : Setting) (records : List Record) (told : List PortRound) (packets : List (ℕ × Record)) → ToldOnce records told → AreNumbered records packets → length (placed_packets s.workers s.local (macs_of s.policy) told packets) ≤ 2 * length packets
packets_few s records told [] once are = omega arith
packets_few s records told (p ∷ ps) once are =
    let macs = macs_of s.policy in
    let hops = hops_of s.local macs told p.0 (aim_of macs p.1) in
    let own = placed_packet s.workers p.0 p.1.moment hops (aim_of macs p.1) in
    let few = packet_few s.workers p.0 p.1.moment hops (aim_of macs p.1) (λ a e. hops_one s.local macs told p.0 p.1 a e (once a.0.port p.0 p.1 are.0)) in
    omega (arith, length-append own (placed_packets s.workers s.local macs told ps), few, packets_few s records told ps once are.1)
  where
    hops_one : (local : Bool) (macs : List ℕ) (told : List PortRound) (n : ℕ) (r : Record) (a : Place × Parts) → aim_of macs r ≡ Ok a → length (fates_told told a.0.port n) ≤ 1 → length (hops_of local macs told n (aim_of macs r)) ≤ 1
    hops_one local macs told n r a e few = omega (arith, ap (λ w. length (hops_of local macs told n w)) e, hops_few local macs told n a, few)

-- ---- what a round tells is told by the run

fates_at : (place n : ℕ) (told : List PortRound) → length (fates_told told place n) ≡ length (fates_in n (flat_map (λ (p : PortRound). p.lines) (option_to_list (slice_get told place))))
fates_at place n told = by (slice_get told place)
  where
    by : (o : Option PortRound) → length (flat_map (λ (q : PortRound). fates_in n q.lines) (option_to_list o)) ≡ length (fates_in n (flat_map (λ (p : PortRound). p.lines) (option_to_list o)))
    by None = refl
    by (Some q) = ap length (sym (fates_append n q.lines []))

times_split : (place n : ℕ) (r : Round) (rs : List Round) → times_at place n (r ∷ rs) ≡ length (fates_told r.ports place n) + times_at place n rs
times_split place n r rs =
    let here = flat_map (λ (p : PortRound). p.lines) (option_to_list (slice_get r.ports place)) in
    omega (arith, ap length (fates_append n here (lines_at place rs)), length-append (fates_in n here) (fates_in n (lines_at place rs)), fates_at place n r.ports)

abbrev OnceIn : List Record → List Round → Type 0
OnceIn records rounds = (place n : ℕ) (r : Record) → slice_get records n ≡ Some r → times_at place n rounds ≤ 1

-- the packets of the rounds at these cuts
abbrev covered_by : List Record → List ℕ → List (ℕ × Record)
covered_by records cs = flat_map (λ t. packets_between records t.0 t.1) (stretches cs (length records))

jobs_few : (s : Setting) (records : List Record) (place number : ℕ) (cs : List ℕ) (rounds : List Round) → OnceIn records rounds → length (all_jobs s records cs rounds place number) ≤ naming cs s.commands + 2 * length (covered_by records cs)
jobs_few s records place number [] rounds once = omega arith
jobs_few s records place number (cut ∷ cs) [] once = omega arith
jobs_few s records place number (cut ∷ cs) (r ∷ rounds) once =
    let next = end_before cs (length records) in
    let packets = packets_between records cut next in
    let before = before_jobs s.commands cut number in
    let during = during_jobs s.commands cut number in
    let jobs = placed_packets s.workers s.local (macs_of s.policy) r.ports packets in
    let at = at_place place jobs in
    let rest = all_jobs s records cs rounds place number in
    omega (
      arith,
      length-append before (during ++ at),
      length-append during at,
      length-append (before ++ (during ++ at)) rest,
      length-append packets (covered_by records cs),
      asks_few cut number s.commands,
      map_size (λ (t : Placed). t.1) (filter (λ (t : Placed). t.0 == place) jobs),
      filter_size (λ (t : Placed). t.0 == place) jobs,
      packets_few s records r.ports packets (λ i n w e. omega (arith, times_split i n r rounds, once i n w e)) (between_are records cut next),
      jobs_few s records place number cs rounds (λ i n w e. omega (arith, times_split i n r rounds, once i n w e)),
    )

pub histories_few : (s : Setting) (records : List Record) (cs : List ℕ) (rounds : List Round) (run : AreRounds s records cs rounds) (place : ℕ) (p : PortSeen) (h : List Event) → AreServed s → AreCuts s.commands (length records) cs
    → slice_get (ports_of s.policy) place ≡ Some p → slice_get run.histories place ≡ Some h → length h ≤ length s.commands + 2 * length records
histories_few s records cs rounds run place p h served are e f =
    omega (
      arith,
      entries_are_jobs s records cs rounds run place p h e f,
      jobs_few s records place p.number cs rounds (λ i n w g. (each_has_its_line s records cs rounds n w served (cuts_cover s records cs are) run g).most i),
      naming_few cs s.commands (named_once s records cs are),
      ap length (cuts_cover s records cs are),
      numbered_length 0 records,
    )
