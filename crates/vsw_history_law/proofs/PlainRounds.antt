-- Rounds without stateful rules and "during" commands: what becomes of packets doesn't hang on the workers.
use Rattle.std.proofs.Common.{◌≡◌, ◌≤◌, ℕ, zero, suc, ◌+◌, ◌==◌, Bool, true, false, if◌then◌else◌, List, [], ◌∷◌, ◌++◌, length, map, take, Some, Result, Ok, Err, slice_get, refl, ap, sym, ◌∙◌, subst, arith, append_assoc}
use Rattle.std.specs.List.{flat_map}
use mathlib.Core.List.{IsPrefix}
use Rattle.vsw_base.specs.declared.fate.Fate.{Fate}
use Rattle.vsw_base.specs.declared.flow.Crossing.{Crossing}
use Rattle.vsw_base.specs.declared.flow.Place.{Place}
use Rattle.vsw_base.specs.Frame.{Parts}
use Rattle.vsw_walk.specs.Walk.{walk_of}
use Rattle.vsw_policy.specs.Layer.{LayerSeen}
use Rattle.vsw_pcap.specs.declared.capture.Record.{Record}
use Rattle.vsw_policy.specs.Obey.{obey}
use Rattle.vsw_policy.specs.Sound.{Each}
use Rattle.vsw_promise.specs.Ports.{PortSeen}
use Rattle.vsw_report.specs.declared.round.LooseCause.{LooseCause}
use Rattle.vsw_port.specs.declared.event.Event.{Event}
use Rattle.vsw_port.specs.declared.event.Event.TheVariants as event
use Rattle.vsw_report.specs.declared.round.PortRound.{PortRound}
use Rattle.vsw_promise.specs.Alone.{shown, deed_at}
use Rattle.vsw_port.specs.Calls.{Job, Carry, Deed, Carried, Asked, Call, job_of, event_of, entries_of, Reads, Wants, ShowsAt, HasBytes, IsCall, Entry, Read, Short}
use Rattle.vsw_port.specs.History.{Opening, replay, after, after_all, left_by, IsRight, AreRight, AllRight}
use Rattle.vsw_port.specs.Fate.{fate_at}
use Rattle.vsw_promise.specs.Forwarded.{aimed_at, packet_jobs}
use Rattle.vsw_promise.specs.Jobs.{aim_of, Jobs, crossing_by, worker_of}
use Rattle.vsw_promise.specs.Rounds.{opening_of, IsPortRound}
use Rattle.vsw_promise.specs.Told.{what_of}
use Rattle.vsw_report.specs.Short.{tells_short}
use Rattle.vsw_history_law.proofs.Ones.{shown_is}
use Rattle.vsw_history_law.proofs.Values.{right_front}
use Rattle.vsw_history_law.proofs.Reports.{map_each}
use Rattle.vsw_port.proofs.Calls.{each_of_all, entries_append}
use Rattle.vsw_port.proofs.Fronts.{append_end, prefix_take, take_prefix}
use Rattle.vsw_port.proofs.Next.{count_within}
use Rattle.vsw_promise.proofs.PortRounds.{take_length}
use Rattle.vsw_promise.specs.Agree.{ArePlain}
use Rattle.vsw_history_law.specs.Plain.{IsPlainEvent, IsCarry, IsAsk, layers_by, what_became}
use Rattle.vsw_history_law.proofs.Same.{added_length}
use Rattle.vsw_history_law.proofs.Plain.{plain_still, plain_suffices, history_plain}

-- ---- histories

-- an entry is right at the layers that those before it leave
right_at : (cs : List ℕ) (ls : List LayerSeen) (h : List Event) (n : ℕ) (e : Event) → AreRight cs ls h → slice_get h n ≡ Some e → IsRight cs (after_all cs ls (take n h)) e
right_at cs ls [] n e r g = absurd cc
right_at cs ls (x ∷ h) zero e r g = let same : x ≡ e = cc g in subst (IsRight cs ls) same r.0
right_at cs ls (x ∷ h) (suc n) e r g = right_at cs (after cs ls x) h n e r.1 g

all_append : (cs : List ℕ) (ls : List LayerSeen) (g k : List Event) → after_all cs ls (g ++ k) ≡ after_all cs (after_all cs ls g) k
all_append cs ls [] k = refl
all_append cs ls (e ∷ g) k = all_append cs (after cs ls e) g k

each_front : {A : Type 0} (P : A → Type 0) (xs ys : List A) → IsPrefix xs ys → Each P ys → Each P xs
each_front {A = A} P xs ys p e = front xs p.0 (subst (Each P) (sym p.1) e)
  where
    front : (xs zs : List A) → Each P (xs ++ zs) → Each P xs
    front [] zs e = tt
    front (x ∷ xs) zs e = (e.0, front xs zs e.1)

-- ---- calls at plain histories

-- a history and the layers that its beginnings leave
record IsPlainHistory (o : Opening) (h : List Event) : Type 0 where
  right : AllRight o h
  layers : ArePlain o.layers
  events : Each IsPlainEvent h

plain_at : (o : Opening) (h : List Event) (n : ℕ) → IsPlainHistory o h → ArePlain (replay o (take n h))
plain_at o h n p = history_plain o.controllers o.layers (take n h) (each_front IsPlainEvent (take n h) h (take_prefix n h) p.events) p.layers

-- a packet is a read, and has the fate of its count's layers
carried_read : (o : Opening) (h : List Event) (n : ℕ) (b : Bool) (x : Crossing) (p : Parts) (fate : Fate) (bytes : List ℕ) → IsPlainHistory o h → IsCall o h (record { deed = Carried x p fate bytes; entry = b; count = n }) → (b ≡ false) × (fate ≡ fate_at (replay o (take n h)) x)
carried_read o h n b x p fate bytes plain (Entry i) =
    let right = right_at o.controllers o.layers h n (event.Crossing x fate) plain.right i.stands in
    absurd (let f = plain_still (replay o (take n h)) x (plain_at o h n plain) in let t = right.1 in cc (t, f))
carried_read o h n b x p fate bytes plain (Read r) = (r.marked, r.reads.0)
carried_read o h n b x p fate bytes plain (Short s) = absurd (let f = plain_suffices (replay o (take n h)) x (plain_at o h n plain) in let t = s.wants.1 in cc (t, f))

carries : (o : Opening) (h : List Event) (c : Call) (d : Deed) (j : Job) → c.deed ≡ d → job_of c.deed ≡ j → IsCarry j → IsPlainHistory o h → IsCall o h c → ShowsAt (replay o (take c.count h)) c.deed → (c.entry ≡ false) × (c.deed ≡ deed_at o.controllers (replay o (take c.count h)) j)
carries o h c (Carried x p fate bytes) j e is carry plain call shows =
    let same : c ≡ record { deed = Carried x p fate bytes; entry = c.entry; count = c.count } = λ i. record { deed = e i; entry = c.entry; count = c.count } in
    let read = carried_read o h c.count c.entry x p fate bytes plain (subst (IsCall o h) same call) in
    let ls = replay o (take c.count h) in
    let bytes_are : bytes ≡ shown ls x p fate = shown_is ls x p fate bytes (subst (ShowsAt ls) e shows) in
    let job : Carry x p ≡ j = sym (ap job_of e) ∙ is in
    (read.0, e ∙ (ap (λ w. Carried x p fate w) bytes_are ∙ (ap (λ f. Carried x p f (shown ls x p f)) read.1 ∙ ap (deed_at o.controllers ls) job)))
carries o h c (Asked l reply) j e is carry plain call shows = absurd (subst IsCarry (sym (sym (ap job_of e) ∙ is)) carry)

-- a command is an entry, unless memory was wanting
asks : (o : Opening) (h : List Event) (c : Call) (d : Deed) → c.deed ≡ d → IsAsk (job_of c.deed) → tells_short (what_of c.deed) ≡ false → IsCall o h c → c.entry ≡ true
asks o h c d e ask long (Entry i) = i.marked
asks o h c (Carried x p fate bytes) e ask long (Read r) = absurd (subst (λ w. IsAsk (job_of w)) e ask)
asks o h c (Asked l reply) e ask long (Read r) = absurd (subst (Reads (replay o (take c.count h))) e r.reads)
asks o h c (Carried x p fate bytes) e ask long (Short s) = absurd (subst (λ w. IsAsk (job_of w)) e ask)
asks o h c (Asked l reply) e ask long (Short s) =
    let wants : Wants (replay o (take c.count h)) (Asked l reply) = subst (Wants (replay o (take c.count h))) e s.wants in
    let short : tells_short (what_of (Asked l reply)) ≡ true = rw wants refl in
    absurd (let f = long in let t = ap (λ w. tells_short (what_of w)) e in cc (f, t, short))

-- ---- the calls of a round

no_entries : (cs : List Call) → Each (λ c. c.entry ≡ false) cs → entries_of cs ≡ []
no_entries [] e = refl
no_entries (c ∷ cs) e = rw e.0 (no_entries cs e.1)

-- what commands leave of the layers
entries_leave : (cs : List ℕ) (ls : List LayerSeen) (calls : List Call) → Each (λ c. c.entry ≡ true) calls → Each (λ c. IsAsk (job_of c.deed)) calls → after_all cs ls (entries_of calls) ≡ layers_by cs ls (map (λ c. job_of c.deed) calls)
entries_leave cs ls [] e a = refl
entries_leave cs ls (c ∷ calls) e a = (rw e.0 refl) ∙ by c.deed a.0 (λ ms. entries_leave cs ms calls e.1 a.1)
  where
    by : (d : Deed) → IsAsk (job_of d) → ((ms : List LayerSeen) → after_all cs ms (entries_of calls) ≡ layers_by cs ms (map (λ c. job_of c.deed) calls)) → after_all cs ls (event_of d ∷ entries_of calls) ≡ layers_by cs ls (job_of d ∷ map (λ c. job_of c.deed) calls)
    by (Carried x p fate bytes) k ih = absurd k
    by (Asked l reply) k ih = ih (left_by ls (obey cs ls l.controller l.command))

asks_all : (o : Opening) (h : List Event) (cs : List Call) → Each (λ c. IsAsk (job_of c.deed)) cs → Each (λ c. tells_short (what_of c.deed) ≡ false) cs → Each (IsCall o h) cs → Each (λ c. c.entry ≡ true) cs
asks_all o h [] a s e = tt
asks_all o h (c ∷ cs) a s e = (asks o h c c.deed refl a.0 s.0 e.0, asks_all o h cs a.1 s.1 e.1)

carries_none : (o : Opening) (h : List Event) (cs : List Call) → Each (λ c. IsCarry (job_of c.deed)) cs → IsPlainHistory o h → Each (IsCall o h) cs → Each (HasBytes o h) cs → Each (λ c. c.entry ≡ false) cs
carries_none o h [] a p e b = tt
carries_none o h (c ∷ cs) a p e b = ((carries o h c c.deed (job_of c.deed) refl refl a.0 p e.0 b.0).0, carries_none o h cs a.1 p e.1 b.1)

take_all : {A : Type 0} (n : ℕ) (xs : List A) → n ≡ length xs → take n xs ≡ xs
take_all zero [] e = refl
take_all zero (x ∷ xs) e = absurd (omega (arith, e))
take_all (suc n) [] e = refl
take_all (suc n) (x ∷ xs) e = ap (λ w. x ∷ w) (take_all n xs (omega (arith, e)))

carries_all : (o : Opening) (h : List Event) (cs : List Call) → Each (λ c. IsCarry (job_of c.deed)) cs → IsPlainHistory o h → Each (IsCall o h) cs → Each (HasBytes o h) cs → Each (λ c. length h ≤ c.count) cs → map (λ c. c.deed) cs ≡ map (deed_at o.controllers (replay o h)) (map (λ c. job_of c.deed) cs)
carries_all o h [] a p e b low = refl
carries_all o h (c ∷ cs) a p e b low =
    let whole : take c.count h ≡ h = take_all c.count h (omega (arith, low.0, count_within o h c e.0)) in
    let one : c.deed ≡ deed_at o.controllers (replay o h) (job_of c.deed) = (carries o h c c.deed (job_of c.deed) refl refl a.0 p e.0 b.0).1 ∙ ap (λ w. deed_at o.controllers (replay o w) (job_of c.deed)) whole in
    let rest = carries_all o h cs a.1 p e.1 b.1 low.1 in
    λ i. one i ∷ rest i

each_parts : {A : Type 0} (P : A → Type 0) (xs ys : List A) → Each P (xs ++ ys) → Each P xs × Each P ys
each_parts P [] ys e = (tt, e)
each_parts P (x ∷ xs) ys e = let r = each_parts P xs ys e.1 in ((e.0, r.0), r.1)

-- what is known of a plain round
pub record IsPlainRound (workers : ℕ) (p : PortSeen) (h : List Event) (jobs : Jobs) (r : PortRound) : Type 0 where
  pub is : IsPortRound workers p h jobs r
  pub right : AllRight (opening_of p) h
  pub layers : ArePlain p.layers
  pub events : Each IsPlainEvent h
  pub ask : Each IsAsk jobs.first
  pub carry : Each IsCarry jobs.later
  pub long : Each (λ c. tells_short (what_of c.deed) ≡ false) (is.first ++ is.later)

-- the layers with which it ends are those that its commands leave, and at these stand all its packets
pub record PlainlyDone (workers : ℕ) (p : PortSeen) (h : List Event) (jobs : Jobs) (r : PortRound) (i : IsPortRound workers p h jobs r) : Type 0 where
  pub leaves : replay (opening_of p) (take r.after h) ≡ layers_by p.controllers (replay (opening_of p) (take r.before h)) jobs.first
  pub deeds : map (λ c. c.deed) i.later ≡ map (deed_at p.controllers (replay (opening_of p) (take r.after h))) jobs.later

bytes_front : (o : Opening) (g h : List Event) (cs : List Call) → IsPrefix g h → Each (IsCall o g) cs → Each (HasBytes o h) cs → Each (HasBytes o g) cs
bytes_front o g h [] p e b = tt
bytes_front o g h (c ∷ cs) p e b = (subst (λ w. ShowsAt (replay o w) c.deed) (prefix_take g h c.count p (count_within o g c e.0)) b.0, bytes_front o g h cs p e.1 b.1)

pub plainly : (workers : ℕ) (p : PortSeen) (h : List Event) (jobs : Jobs) (r : PortRound) (i : IsPlainRound workers p h jobs r) → PlainlyDone workers p h jobs r i.is
plainly workers p h jobs r i =
    let o = opening_of p in
    let start = take r.before h in
    let end = take r.after h in
    let first = i.is.first in
    let later = i.is.later in
    let grows : IsPrefix start end = (i.is.shares 0).begins in
    let all : Each (IsCall o end) (first ++ later) = each_of_all (IsCall o end) p.controllers (first ++ later) (λ k. (i.is.shares k).each) in
    let calls = each_parts (IsCall o end) first later all in
    let bytes = each_parts (HasBytes o end) first later (bytes_front o end h (first ++ later) (take_prefix r.after h) all i.is.bytes) in
    let long = each_parts (λ c. tells_short (what_of c.deed) ≡ false) first later i.long in
    let ask : Each (λ c. IsAsk (job_of c.deed)) first = map_each IsAsk (λ c. job_of c.deed) first (subst (Each IsAsk) (sym i.is.first_jobs) i.ask) in
    let carry : Each (λ c. IsCarry (job_of c.deed)) later = map_each IsCarry (λ c. job_of c.deed) later (subst (Each IsCarry) (sym i.is.later_jobs) i.carry) in
    let whole : IsPrefix end h = take_prefix r.after h in
    let right : AllRight o end = right_front o.controllers o.layers end whole.0 (subst (AllRight o) (sym whole.1) i.right) in
    let plain : IsPlainHistory o end = record { right = right; layers = i.layers; events = each_front IsPlainEvent end h whole i.events } in
    let none : entries_of later ≡ [] = no_entries later (carries_none o end later carry plain calls.1 bytes.1) in
    let mine : entries_of (first ++ later) ≡ entries_of first = entries_append first later ∙ (ap (λ w. entries_of first ++ w) none ∙ append_end (entries_of first)) in
    let size : length end ≡ length start + length (entries_of first) = added_length o start end (first ++ later) grows i.is.shares ∙ ap (λ w. length start + length w) mine in
    let low : length start ≡ r.before = take_length r.before h (omega (arith, i.is.low, i.is.high)) in
    let after : r.after ≡ r.before + length (entries_of first) = sym (take_length r.after h i.is.high) ∙ (size ∙ ap (λ n. n + length (entries_of first)) low) in
    let ends : end ≡ start ++ entries_of first = ap (λ n. take n h) after ∙ i.is.first_entries in
    let counts : Each (λ c. length end ≤ c.count) later = subst (λ n. Each (λ c. n ≤ c.count) later) (sym (size ∙ ap (λ n. n + length (entries_of first)) low)) i.is.later_counts in record {
      leaves = ap (replay o) ends ∙ (all_append o.controllers o.layers start (entries_of first) ∙ (entries_leave o.controllers (replay o start) first (asks_all o end first ask long.0 calls.0) ask ∙ ap (layers_by o.controllers (replay o start)) i.is.first_jobs));
      deeds = carries_all o end later carry plain calls.1 bytes.1 counts ∙ ap (map (deed_at o.controllers (replay o end))) i.is.later_jobs;
    }

-- ---- any number of workers

-- what becomes of packets at these layers doesn't hang on who brings them
becomes : (cs : List ℕ) (ls : List LayerSeen) (v w : ℕ) (n : ℕ) (at : Place) (moment : ℕ) (p : Parts) → what_became (deed_at cs ls (Carry (crossing_by v n at moment p) p)) ≡ what_became (deed_at cs ls (Carry (crossing_by w n at moment p) p))
unfolding walk_of
becomes cs ls v w n at moment p = refl

pub flat_append : {A B : Type 0} (f : A → List B) (xs ys : List A) → flat_map f (xs ++ ys) ≡ flat_map f xs ++ flat_map f ys
flat_append f [] ys = refl
flat_append f (x ∷ xs) ys = ap (λ w. f x ++ w) (flat_append f xs ys) ∙ sym (append_assoc (f x) (flat_map f xs) (flat_map f ys))

pub all_became : (f : Job → Deed) (xs ys : List Job) → flat_map (λ j. what_became (f j)) (xs ++ ys) ≡ flat_map (λ j. what_became (f j)) xs ++ flat_map (λ j. what_became (f j)) ys
all_became f xs ys = flat_append (λ j. what_became (f j)) xs ys

one_became : (cs : List ℕ) (ls : List LayerSeen) (v w port n moment : ℕ) (a : Result (Place × Parts) LooseCause) → flat_map (λ j. what_became (deed_at cs ls j)) (aimed_at v port n moment a) ≡ flat_map (λ j. what_became (deed_at cs ls j)) (aimed_at w port n moment a)
one_became cs ls v w port n moment (Err why) = refl
one_became cs ls v w port n moment (Ok a) = by (a.0.port == port)
  where
    by : (b : Bool) → flat_map (λ j. what_became (deed_at cs ls j)) (if b then Carry (crossing_by (worker_of v a.1) n a.0 moment a.1) a.1 ∷ [] else []) ≡ flat_map (λ j. what_became (deed_at cs ls j)) (if b then Carry (crossing_by (worker_of w a.1) n a.0 moment a.1) a.1 ∷ [] else [])
    by true = ap (λ l. l ++ []) (becomes cs ls (worker_of v a.1) (worker_of w a.1) n a.0 moment a.1)
    by false = refl

pub packets_became : (cs : List ℕ) (ls : List LayerSeen) (v w port : ℕ) (macs : List ℕ) (packets : List (ℕ × Record)) → flat_map (λ j. what_became (deed_at cs ls j)) (packet_jobs v macs port packets) ≡ flat_map (λ j. what_became (deed_at cs ls j)) (packet_jobs w macs port packets)
packets_became cs ls v w port macs [] = refl
packets_became cs ls v w port macs (p ∷ ps) =
    all_became (deed_at cs ls) (aimed_at v port p.0 p.1.moment (aim_of macs p.1)) (packet_jobs v macs port ps)
    ∙ (ap (λ l. l ++ flat_map (λ j. what_became (deed_at cs ls j)) (packet_jobs v macs port ps)) (one_became cs ls v w port p.0 p.1.moment (aim_of macs p.1))
    ∙ (ap (λ l. flat_map (λ j. what_became (deed_at cs ls j)) (aimed_at w port p.0 p.1.moment (aim_of macs p.1)) ++ l) (packets_became cs ls v w port macs ps)
    ∙ sym (all_became (deed_at cs ls) (aimed_at w port p.0 p.1.moment (aim_of macs p.1)) (packet_jobs w macs port ps))))
