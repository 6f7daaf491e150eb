-- One thread that hands each packet on at once does rounds, by the law of turns: so there are rounds for every input.
use Rattle.std.proofs.Common.{◌≡◌, ◌≢◌, ◌≤◌, ◌<◌, ◌+◌, ◌-◌, ◌==◌, ◌&&◌, not, ℕ, zero, suc, Bool, true, false, cond, List, [], ◌∷◌, ◌++◌, length, map, filter, take, drop, get_or, Option, Some, None, Result, Ok, Err, refl, ap, sym, ◌∙◌, subst, arith, append_assoc, eq-eqb, ne_eqb}
use Rattle.std.proofs.lemmas.List.{take-append-drop}
use Rattle.std.proofs.lemmas.List.Quantifiers.{position-Some}
use Rattle.std.specs.Prelude.{option_and_then, option_map, nat_lt}
use Rattle.vsw_base.specs.declared.fate.Fate.{Fate}
use Rattle.vsw_base.specs.declared.fate.Fate.TheVariants.{Pass, Drop}
use Rattle.vsw_base.specs.declared.fault.BadFrame.{BadFrame}
use Rattle.vsw_base.specs.declared.flow.Crossing.{Crossing}
use Rattle.vsw_base.specs.declared.flow.Place.{Place}
use Rattle.vsw_base.specs.declared.header.Header.{Header}
use Rattle.vsw_base.specs.declared.packet.Dir.TheVariants as dir
use Rattle.vsw_base.specs.Frame.{Parts, frame_of}
use Rattle.vsw_base.specs.Shape.{destination_of, inner, source_of}
use Rattle.vsw_commandfile.specs.declared.line.Line.{Line}
use Rattle.vsw_header.specs.PortChoice.{choose, in_of, out_of, place_of}
use Rattle.vsw_pcap.specs.declared.capture.Record.{Record}
use Rattle.vsw_policy.specs.Layer.{LayerSeen}
use Rattle.vsw_policy.specs.Sound.{Each}
use Rattle.vsw_port.specs.Calls.{Job, Carry, Ask, Call, job_of, entries_of, Shows, ShowsAt}
use Rattle.vsw_port.specs.Cross.{cross_of}
use Rattle.vsw_port.specs.Fate.{fate_at}
use Rattle.vsw_port.specs.History.{Opening, replay}
use Rattle.vsw_port.specs.Next.{IsDone, Enters, Reading, IsNext, Goes}
use Rattle.vsw_port.specs.Order.{numbered}
use Rattle.vsw_port.specs.declared.event.Event.{Event}
use Rattle.vsw_port.proofs.Calls.{each_append}
use Rattle.vsw_port.proofs.Fronts.{append_end}
use Rattle.vsw_port.proofs.Next.{goes_none, goes_on}
use Rattle.vsw_promise.specs.Alone.{shown, deed_at, enters_at, call_at, next_history}
use Rattle.vsw_promise.specs.Jobs.{Placed, Setting, aim_of, at_place, before_jobs, during_jobs, jobs_of, loose_among, macs_of, packets_between, placed_packet, placed_packets}
use Rattle.vsw_promise.specs.Ports.{PortSeen, ports_of}
use Rattle.vsw_promise.specs.Rounds.{AllBegin, AreChained, AreHistories, ArePortRounds, IsPortRound, end_before, opening_of}
use Rattle.vsw_promise.proofs.Exists.{begin_self, begin_trans, no_counts, none_yet, ports_later}
use Rattle.vsw_promise.proofs.Handed.{place_append}
use Rattle.vsw_promise.proofs.PortRounds.{round_of_goes}
use Rattle.vsw_report.specs.declared.round.LooseCause.{LooseCause}
use Rattle.vsw_report.specs.declared.round.LooseCause.TheVariants.{Snapped, Malformed, NoPort}
use Rattle.vsw_report.specs.declared.round.PortRound.{PortRound}
use Rattle.vsw_history_law.specs.Plain.{IsAsk}
use Rattle.vsw_many.specs.Phases.{port_told}
use Rattle.vsw_hairpin.specs.Handing.{AreGone, HaveHanded, handed_by, locals_of, told_of, with_hops}
use Rattle.vsw_hairpin.specs.Law.{TurnsHandOn, own_jobs}
use Rattle.vsw_hairpin.specs.Exist.{RoundsAreThere, RoundsGoOn}

-- ---- a job at the end of a history

shows_shown : (ls : List LayerSeen) (x : Crossing) (p : Parts) (fate : Fate) → Shows ls x p fate (shown ls x p fate)
shows_shown ls x p (Pass len) = refl
shows_shown ls x p (Drop cause) = refl

carried_done : (o : Opening) (g : List Event) (x : Crossing) (p : Parts) (b : Bool) → (cross_of (replay o g) x).changed ≡ b → IsDone o g (deed_at o.controllers (replay o g) (Carry x p)) b
carried_done o g x p true e = Enters refl (refl, e)
carried_done o g x p false e = Reading refl (refl, e)

done_at : (o : Opening) (g : List Event) (j : Job) → IsDone o g (deed_at o.controllers (replay o g) j) (enters_at o.controllers (replay o g) j)
done_at o g (Carry x p) = carried_done o g x p (cross_of (replay o g) x).changed refl
done_at o g (Ask l) = Enters refl refl

shows_at : (o : Opening) (g : List Event) (j : Job) → ShowsAt (replay o g) (deed_at o.controllers (replay o g) j)
shows_at o g (Carry x p) = shows_shown (replay o g) x p (fate_at (replay o g) x)
shows_at o g (Ask l) = tt

call_next : (o : Opening) (g : List Event) (j : Job) → IsNext o g (call_at o g j)
call_next o g j = record { last = refl; done = done_at o g j; shows = shows_at o g j }

job_back : (cs : List ℕ) (ls : List LayerSeen) (j : Job) → job_of (deed_at cs ls j) ≡ j
job_back cs ls (Carry x p) = refl
job_back cs ls (Ask l) = refl

-- ---- a job at the port at its place, if it is among these, from the one at place `at` on

abbrev after : ℕ → List PortSeen → Placed → List (List Event) → List (List Event)
after at (p ∷ ps) t (g ∷ gs) = cond (t.0 == at) (next_history (opening_of p) g t.1) g ∷ after (suc at) ps t gs
after at _ t gs = gs

abbrev told : ℕ → List PortSeen → Placed → List (List Event) → List (List Call) → List (List Call)
told at (p ∷ ps) t (g ∷ gs) (c ∷ cs) = cond (t.0 == at) (c ++ call_at (opening_of p) g t.1 ∷ []) c ∷ told (suc at) ps t gs cs
told at _ t gs cs = cs

map_append : {A B : Type 0} (f : A → B) (xs ys : List A) → map f (xs ++ ys) ≡ map f xs ++ map f ys
map_append f [] ys = refl
map_append f (x ∷ xs) ys = ap (λ w. f x ∷ w) (map_append f xs ys)

abbrev jobs_in : List Call → List Job
jobs_in cs = map (λ c. job_of c.deed) cs

here : (at : ℕ) (t : Placed) → (t.0 == at) ≡ true → at_place at (t ∷ []) ≡ t.1 ∷ []
here at t e = rw e refl

elsewhere : (at : ℕ) (t : Placed) → (t.0 == at) ≡ false → at_place at (t ∷ []) ≡ []
elsewhere at t e = rw e refl

-- a port's history and calls after a job that may be another's
record IsGone (at : ℕ) (p : PortSeen) (jobs : List Placed) (h g : List Event) (c : List Call) : Type 0 where
  goes : Goes (opening_of p) h g c
  jobs_are : jobs_in c ≡ at_place at jobs

one_more : (at : ℕ) (p : PortSeen) (jobs : List Placed) (t : Placed) (h g : List Event) (c : List Call) (b : Bool) → (t.0 == at) ≡ b → IsGone at p jobs h g c
    → IsGone at p (jobs ++ t ∷ []) h (cond b (next_history (opening_of p) g t.1) g) (cond b (c ++ call_at (opening_of p) g t.1 ∷ []) c)
one_more at p jobs t h g c true e i =
    let o = opening_of p in
    let call = call_at o g t.1 in record {
      goes = goes_on o h g c call i.goes (call_next o g t.1);
      jobs_are =
          map_append (λ (c : Call). job_of c.deed) c (call ∷ [])
          ∙ (ap (λ w. jobs_in c ++ w ∷ []) (job_back o.controllers (replay o g) t.1)
          ∙ (ap (λ w. w ++ t.1 ∷ []) i.jobs_are
          ∙ (ap (λ w. at_place at jobs ++ w) (sym (here at t e)) ∙ sym (place_append at jobs (t ∷ [])))));
    }
one_more at p jobs t h g c false e i = record {
  goes = i.goes;
  jobs_are = i.jobs_are ∙ (sym (append_end (at_place at jobs)) ∙ (ap (λ w. at_place at jobs ++ w) (sym (elsewhere at t e)) ∙ sym (place_append at jobs (t ∷ []))));
}

gone_more : (at : ℕ) (ps : List PortSeen) (jobs : List Placed) (t : Placed) (hs gs : List (List Event)) (cs : List (List Call)) → AreGone at ps jobs hs gs cs → AreGone at ps (jobs ++ t ∷ []) hs (after at ps t gs) (told at ps t gs cs)
gone_more at [] jobs t [] [] [] a = tt
gone_more at (p ∷ ps) jobs t (h ∷ hs) (g ∷ gs) (c ∷ cs) a =
    let one = one_more at p jobs t h g c (t.0 == at) refl (record { goes = a.0; jobs_are = a.1 }) in (one.goes, one.jobs_are, gone_more (suc at) ps jobs t hs gs cs a.2)
gone_more at [] jobs t [] [] (c ∷ cs) a = absurd a
gone_more at [] jobs t [] (g ∷ gs) cs a = absurd a
gone_more at [] jobs t (h ∷ hs) gs cs a = absurd a
gone_more at (p ∷ ps) jobs t [] gs cs a = absurd a
gone_more at (p ∷ ps) jobs t (h ∷ hs) [] cs a = absurd a
gone_more at (p ∷ ps) jobs t (h ∷ hs) (g ∷ gs) [] a = absurd a

-- ---- calls only grow

abbrev AreMore : List (List Call) → List (List Call) → Type 0
AreMore [] [] = Unit {0}
AreMore (c ∷ cs) (d ∷ ds) = ((more : List Call) × (d ≡ c ++ more)) × AreMore cs ds
AreMore _ _ = ⊥

more_self : (cs : List (List Call)) → AreMore cs cs
more_self [] = tt
more_self (c ∷ cs) = (([], sym (append_end c)), more_self cs)

more_trans : (bs cs ds : List (List Call)) → AreMore bs cs → AreMore cs ds → AreMore bs ds
more_trans [] [] [] m n = tt
more_trans (b ∷ bs) (c ∷ cs) (d ∷ ds) m n = ((m.0.0 ++ n.0.0, n.0.1 ∙ (ap (λ w. w ++ n.0.0) m.0.1 ∙ append_assoc b m.0.0 n.0.0)), more_trans bs cs ds m.1 n.1)
more_trans [] [] (d ∷ ds) m n = absurd n
more_trans [] (c ∷ cs) ds m n = absurd m
more_trans (b ∷ bs) [] ds m n = absurd m
more_trans (b ∷ bs) (c ∷ cs) [] m n = absurd n

one_told : (at : ℕ) (p : PortSeen) (t : Placed) (g : List Event) (c : List Call) (b : Bool) → (more : List Call) × (cond b (c ++ call_at (opening_of p) g t.1 ∷ []) c ≡ c ++ more)
one_told at p t g c true = (call_at (opening_of p) g t.1 ∷ [], refl)
one_told at p t g c false = ([], sym (append_end c))

more_told : (at : ℕ) (ps : List PortSeen) (t : Placed) (gs : List (List Event)) (cs : List (List Call)) → AreMore cs (told at ps t gs cs)
more_told at [] t gs cs = more_self cs
more_told at (p ∷ ps) t [] cs = more_self cs
more_told at (p ∷ ps) t (g ∷ gs) [] = tt
more_told at (p ∷ ps) t (g ∷ gs) (c ∷ cs) = (one_told at p t g c (t.0 == at), more_told (suc at) ps t gs cs)

more_at : (cs ds : List (List Call)) (n : ℕ) → AreMore cs ds → (more : List Call) × (get_or ds n [] ≡ get_or cs n [] ++ more)
more_at [] [] n m = ([], refl)
more_at (c ∷ cs) (d ∷ ds) zero m = m.0
more_at (c ∷ cs) (d ∷ ds) (suc n) m = more_at cs ds n m.1
more_at [] (d ∷ ds) n m = absurd m
more_at (c ∷ cs) [] n m = absurd m

-- ---- the call of a job

record Called (at : ℕ) (n : ℕ) (ps : List PortSeen) (t : Placed) (gs : List (List Event)) (cs : List (List Call)) : Type 0 where
  call : Call
  job : job_of call.deed ≡ t.1
  is : get_or (told at ps t gs cs) n [] ≡ get_or cs n [] ++ call ∷ []

called : (at n : ℕ) (ps : List PortSeen) (jobs : List Placed) (t : Placed) (hs gs : List (List Event)) (cs : List (List Call)) → t.0 ≡ at + n → n < length ps → AreGone at ps jobs hs gs cs → Called at n ps t gs cs
called at zero (p ∷ ps) jobs t (h ∷ hs) (g ∷ gs) (c ∷ cs) e l a = record {
  call = call_at (opening_of p) g t.1;
  job = job_back p.controllers (replay (opening_of p) g) t.1;
  is = ap (λ b. cond b (c ++ call_at (opening_of p) g t.1 ∷ []) c) (eq-eqb t.0 at (omega (arith, e)));
}
called at (suc n) (p ∷ ps) jobs t (h ∷ hs) (g ∷ gs) (c ∷ cs) e l a =
    let rest = called (suc at) n ps jobs t hs gs cs (omega (arith, e)) (omega (arith, l)) a.2 in record { call = rest.call; job = rest.job; is = rest.is }
called at n [] jobs t hs gs cs e l a = absurd (omega (arith, l))
called at n (p ∷ ps) jobs t [] gs cs e l a = absurd a
called at n (p ∷ ps) jobs t (h ∷ hs) [] cs e l a = absurd a
called at n (p ∷ ps) jobs t (h ∷ hs) (g ∷ gs) [] e l a = absurd a

-- ---- many jobs

-- after these jobs
record Done (ps : List PortSeen) (before jobs : List Placed) (hs : List (List Event)) (cs : List (List Call)) : Type 0 where
  gs : List (List Event)
  calls : List (List Call)
  gone : AreGone 0 ps (before ++ jobs) hs gs calls
  more : AreMore cs calls

all_done : (ps : List PortSeen) (before jobs : List Placed) (hs gs : List (List Event)) (cs : List (List Call)) → AreGone 0 ps before hs gs cs → Done ps before jobs hs cs
all_done ps before [] hs gs cs a = record { gs = gs; calls = cs; gone = subst (λ w. AreGone 0 ps w hs gs cs) (sym (append_end before)) a; more = more_self cs }
all_done ps before (t ∷ ts) hs gs cs a =
    let rest = all_done ps (before ++ t ∷ []) ts hs (after 0 ps t gs) (told 0 ps t gs cs) (gone_more 0 ps before t hs gs cs a) in record {
      gs = rest.gs;
      calls = rest.calls;
      gone = subst (λ w. AreGone 0 ps w hs rest.gs rest.calls) (append_assoc before (t ∷ []) ts) rest.gone;
      more = more_trans cs (told 0 ps t gs cs) rest.calls (more_told 0 ps t gs cs) rest.more;
    }

-- after these jobs, of which each is followed by what its call handed on
record HandedOn (macs : List ℕ) (ps : List PortSeen) (before own : List Placed) (hs : List (List Event)) (cs : List (List Call)) : Type 0 where
  hops : List (List Placed)
  gs : List (List Event)
  calls : List (List Call)
  gone : AreGone 0 ps (before ++ with_hops own hops) hs gs calls
  more : AreMore cs calls
  handed : HaveHanded macs calls own hops

hand_all : (macs : List ℕ) (ps : List PortSeen) (before own : List Placed) (hs gs : List (List Event)) (cs : List (List Call)) → Each (λ t. t.0 < length ps) own → AreGone 0 ps before hs gs cs → HandedOn macs ps before own hs cs
hand_all macs ps before [] hs gs cs r a = record { hops = []; gs = gs; calls = cs; gone = subst (λ w. AreGone 0 ps w hs gs cs) (sym (append_end before)) a; more = more_self cs; handed = tt }
hand_all macs ps before (t ∷ ts) hs gs cs r a =
    let first = gone_more 0 ps before t hs gs cs a in
    let cs1 = told 0 ps t gs cs in
    let c = called 0 t.0 ps before t hs gs cs (omega arith) r.0 a in
    let h = handed_by macs t.0 c.call.deed in
    let on = all_done ps (before ++ t ∷ []) h hs (after 0 ps t gs) cs1 first in
    let rest = hand_all macs ps ((before ++ t ∷ []) ++ h) ts hs on.gs on.calls r.1 on.gone in
    let grown : AreMore cs1 rest.calls = more_trans cs1 on.calls rest.calls on.more rest.more in
    let behind = more_at cs1 rest.calls t.0 grown in record {
      hops = h ∷ rest.hops;
      gs = rest.gs;
      calls = rest.calls;
      gone =
          subst (λ w. AreGone 0 ps w hs rest.gs rest.calls)
          (append_assoc (before ++ t ∷ []) h (with_hops ts rest.hops) ∙ append_assoc before (t ∷ []) (h ++ with_hops ts rest.hops)) rest.gone;
      more = more_trans cs cs1 rest.calls (more_told 0 ps t gs cs) grown;
      handed = (
        record {
          front = get_or cs t.0 [];
          call = c.call;
          back = behind.0;
          is = behind.1 ∙ (ap (λ w. w ++ behind.0) c.is ∙ append_assoc (get_or cs t.0 []) (c.call ∷ []) behind.0);
          job = c.job;
          hops_are = refl;
        },
        rest.handed,
      );
    }

-- ---- packets go to ports that are there

position_within : (macs : List ℕ) (address n : ℕ) → place_of macs address ≡ Some n → n < length macs
position_within macs address n e = (position-Some (λ mac. mac == address) macs n 0 e).0

found_within : (macs : List ℕ) (address : Option ℕ) (n : ℕ) → option_and_then (place_of macs) address ≡ Some n → n < length macs
found_within macs None n e = absurd (cc e)
found_within macs (Some address) n e = position_within macs address n e

choose_within : (macs : List ℕ) (hs : List Header) (place : Place) (out into : Option ℕ) → out_of macs hs ≡ out → in_of macs hs ≡ into
    → elim out [ Some port ↦ Some (record { port = port; dir = dir.Out }) | None ↦ option_map (λ port. record { port = port; dir = dir.In }) into ] ≡ Some place → place.port < length macs
choose_within macs hs place (Some n) into e f g = let same : n ≡ place.port = cc g in subst (λ m. m < length macs) same (found_within macs (source_of hs) n e)
choose_within macs hs place None (Some n) e f g = let same : n ≡ place.port = cc g in subst (λ m. m < length macs) same (found_within macs (destination_of (inner hs)) n f)
choose_within macs hs place None None e f g = absurd (cc g)

pub choose_is_within : (macs : List ℕ) (hs : List Header) (place : Place) → choose macs hs ≡ Some place → place.port < length macs
choose_is_within macs hs place e = choose_within macs hs place (out_of macs hs) (in_of macs hs) refl refl e

-- where a packet goes, by what its bytes are
abbrev aim_by : List ℕ → Record → Bool → Result Parts BadFrame → Result (Place × Parts) LooseCause
aim_by macs r true f = Err Snapped
aim_by macs r false (Err fault) = Err (Malformed fault)
aim_by macs r false (Ok parts) = elim (choose macs parts.stack) [ None ↦ Err NoPort | Some place ↦ Ok (place, parts) ]

aim_within : (macs : List ℕ) (r : Record) (a : Place × Parts) (b : Bool) (f : Result Parts BadFrame) → aim_by macs r b f ≡ Ok a → a.0.port < length macs
aim_within macs r a true f e = absurd (cc e)
aim_within macs r a false (Err fault) e = absurd (cc e)
aim_within macs r a false (Ok parts) e = by (choose macs parts.stack) refl e
  where
    by : (c : Option Place) → choose macs parts.stack ≡ c → ◌≡◌ {A = Result (Place × Parts) LooseCause} (elim c [ None ↦ Err NoPort | Some place ↦ Ok (place, parts) ]) (Ok a) → a.0.port < length macs
    by None g e = absurd (cc e)
    by (Some place) g e = let same : place ≡ a.0 = cc e in subst (λ (w : Place). w.port < length macs) same (choose_is_within macs parts.stack place g)

aim_is : (macs : List ℕ) (r : Record) (b : Bool) (f : Result Parts BadFrame) → nat_lt (length r.bytes) r.original ≡ b → frame_of r.bytes ≡ f → aim_of macs r ≡ aim_by macs r b f
aim_is macs r true f e g = rw e refl
aim_is macs r false (Err fault) e g = rw (e, g) refl
aim_is macs r false (Ok parts) e g = rw (e, g) refl

own_within : (workers : ℕ) (macs : List ℕ) (packets : List (ℕ × Record)) → Each (λ t. t.0 < length macs) (placed_packets workers false macs [] packets)
own_within workers macs [] = tt
own_within workers macs (p ∷ ps) =
    each_append (λ (t : Placed). t.0 < length macs) (placed_packet workers p.0 p.1.moment [] (aim_of macs p.1)) (placed_packets workers false macs [] ps) (one (aim_of macs p.1) refl) (own_within workers macs ps)
  where
    one : (to : Result (Place × Parts) LooseCause) → aim_of macs p.1 ≡ to → Each (λ (t : Placed). t.0 < length macs) (placed_packet workers p.0 p.1.moment [] to)
    one (Err why) e = tt
    one (Ok a) e = (aim_within macs p.1 a (nat_lt (length p.1.bytes) p.1.original) (frame_of p.1.bytes) (sym (aim_is macs p.1 (nat_lt (length p.1.bytes) p.1.original) (frame_of p.1.bytes) refl refl) ∙ e), tt)

-- ---- the commands of a round, port by port

abbrev asked_at : List Line → ℕ → ℕ → List Job
asked_at commands first number = before_jobs commands first number ++ during_jobs commands first number

abbrev placed_at : ℕ → List Job → List Placed
placed_at at js = map (λ j. (at, j)) js

abbrev asked_from : List Line → ℕ → ℕ → List PortSeen → List Placed
asked_from commands first at [] = []
asked_from commands first at (p ∷ ps) = placed_at at (asked_at commands first p.number) ++ asked_from commands first (suc at) ps

place_own : (at : ℕ) (js : List Job) → at_place at (placed_at at js) ≡ js
place_own at [] = refl
place_own at (j ∷ js) = let same : (at == at) ≡ true = eq-eqb at at refl in rw same (ap (λ w. j ∷ w) (place_own at js))

place_other : (at i : ℕ) (js : List Job) → at ≢ i → at_place i (placed_at at js) ≡ []
place_other at i [] ne = refl
place_other at i (j ∷ js) ne = let differs : (at == i) ≡ false = ne_eqb at i ne in rw differs (place_other at i js ne)

none_below : (commands : List Line) (first at i : ℕ) (ps : List PortSeen) → i < at → at_place i (asked_from commands first at ps) ≡ []
none_below commands first at i [] l = refl
none_below commands first at i (p ∷ ps) l =
    place_append i (placed_at at (asked_at commands first p.number)) (asked_from commands first (suc at) ps)
    ∙ (ap (λ w. w ++ at_place i (asked_from commands first (suc at) ps)) (place_other at i (asked_at commands first p.number) (λ e. omega (arith, l, e)))
    ∙ none_below commands first (suc at) i ps (omega (arith, l)))

asked_here : (commands : List Line) (first at : ℕ) (p : PortSeen) (ps : List PortSeen) → at_place at (asked_from commands first at (p ∷ ps)) ≡ asked_at commands first p.number
asked_here commands first at p ps =
    place_append at (placed_at at (asked_at commands first p.number)) (asked_from commands first (suc at) ps)
    ∙ (ap (λ w. at_place at (placed_at at (asked_at commands first p.number)) ++ w) (none_below commands first (suc at) at ps (omega arith))
    ∙ (append_end (at_place at (placed_at at (asked_at commands first p.number))) ∙ place_own at (asked_at commands first p.number)))

asked_later : (commands : List Line) (first at i : ℕ) (p : PortSeen) (ps : List PortSeen) → suc at ≤ i → at_place i (asked_from commands first at (p ∷ ps)) ≡ at_place i (asked_from commands first (suc at) ps)
asked_later commands first at i p ps l =
    place_append i (placed_at at (asked_at commands first p.number)) (asked_from commands first (suc at) ps)
    ∙ ap (λ w. w ++ at_place i (asked_from commands first (suc at) ps)) (place_other at i (asked_at commands first p.number) (λ e. omega (arith, l, e)))

each_ask : (at : ℕ) (ls : List Line) → Each (λ (t : Placed). IsAsk t.1) (placed_at at (map Ask ls))
each_ask at [] = tt
each_ask at (l ∷ ls) = (tt, each_ask at ls)

all_ask : (commands : List Line) (first at : ℕ) (ps : List PortSeen) → Each (λ (t : Placed). IsAsk t.1) (asked_from commands first at ps)
all_ask commands first at [] = tt
all_ask commands first at (p ∷ ps) =
    let befores = filter (λ (l : Line). (l.at == first) && (l.port == p.number) && not l.during) commands in
    let durings = filter (λ (l : Line). (l.at == first) && (l.port == p.number) && l.during) commands in
    let both : placed_at at (asked_at commands first p.number) ≡ placed_at at (map Ask befores) ++ placed_at at (map Ask durings) = map_append (λ (j : Job). (at, j)) (map Ask befores) (map Ask durings) in
    each_append (λ (t : Placed). IsAsk t.1) (placed_at at (asked_at commands first p.number)) (asked_from commands first (suc at) ps)
    (subst (Each (λ (t : Placed). IsAsk t.1)) (sym both) (each_append (λ (t : Placed). IsAsk t.1) (placed_at at (map Ask befores)) (placed_at at (map Ask durings)) (each_ask at befores) (each_ask at durings)))
    (all_ask commands first (suc at) ps)

-- ---- the rounds of all ports

begins : (at : ℕ) (ps : List PortSeen) (hs : List (List Event)) → AreHistories ps hs → AreGone at ps [] hs hs (map (λ p. []) ps)
begins at [] [] a = tt
begins at (p ∷ ps) (h ∷ hs) a = (goes_none (opening_of p) h a.0, refl, begins (suc at) ps hs a.1)
begins at [] (h ∷ hs) a = absurd a
begins at (p ∷ ps) [] a = absurd a

-- calls of two lists of jobs, one after the other
record Parts2 (c : List Call) (xs ys : List Job) : Type 0 where
  front : jobs_in (take (length xs) c) ≡ xs
  back : jobs_in (drop (length xs) c) ≡ ys

parted : (c : List Call) (xs ys : List Job) → jobs_in c ≡ xs ++ ys → Parts2 c xs ys
parted c [] ys e = record { front = refl; back = e }
parted [] (x ∷ xs) ys e = absurd (cc e)
parted (k ∷ c) (x ∷ xs) ys e =
    let head : job_of k.deed ≡ x = cc e in
    let tail : jobs_in c ≡ xs ++ ys = cc e in
    let rest = parted c xs ys tail in
    let both : job_of k.deed ∷ jobs_in (take (length xs) c) ≡ x ∷ xs = ap (λ w. w ∷ jobs_in (take (length xs) c)) head ∙ ap (λ w. x ∷ w) rest.front in record { front = both; back = rest.back }

port_round : (s : Setting) (records : List Record) (tolds : List PortRound) (first next at : ℕ) (p : PortSeen) (h g : List Event) (c : List Call) (later : List Placed) → later ≡ placed_packets s.workers s.local (macs_of s.policy) tolds (packets_between records first next)
    → Goes (opening_of p) h g c → jobs_in c ≡ asked_at s.commands first p.number ++ at_place at later → IsPortRound s.workers p g (jobs_of s records tolds first next at p.number) (port_told p h g c)
port_round s records tolds first next at p h g c later same goes jobs =
    let befores = before_jobs s.commands first p.number in
    let durings = during_jobs s.commands first p.number in
    let split = parted c befores (durings ++ at_place at later) (jobs ∙ append_assoc befores durings (at_place at later)) in
    let whole : take (length befores) c ++ drop (length befores) c ≡ c = take-append-drop (length befores) c in
    round_of_goes s.workers p h g (take (length befores) c) (drop (length befores) c) (jobs_of s records tolds first next at p.number) (port_told p h g c) (subst (Goes (opening_of p) h g) (sym whole) goes) split.front
    (split.back ∙ ap (λ w. durings ++ at_place at w) same) (ap (port_told p h g) (sym whole))

-- the round of each port, and where it leads
record ArePorts (s : Setting) (records : List Record) (tolds : List PortRound) (first next at : ℕ) (ps : List PortSeen) (hs gs : List (List Event)) (cs : List (List Call)) : Type 0 where
  are : ArePortRounds s records tolds first next at ps gs (told_of ps hs gs cs)
  right : AreHistories ps gs
  begin : AllBegin hs gs
  before : map (λ (r : PortRound). r.before) (told_of ps hs gs cs) ≡ map length hs
  after : map (λ (r : PortRound). r.after) (told_of ps hs gs cs) ≡ map length gs

port_rounds : (s : Setting) (records : List Record) (tolds : List PortRound) (first next at : ℕ) (ps : List PortSeen) (hs gs : List (List Event)) (cs : List (List Call)) (asked later : List Placed)
    → later ≡ placed_packets s.workers s.local (macs_of s.policy) tolds (packets_between records first next) → ((i : ℕ) → at ≤ i → at_place i asked ≡ at_place i (asked_from s.commands first at ps)) → AreGone at ps (asked ++ later) hs gs cs
    → ArePorts s records tolds first next at ps hs gs cs
port_rounds s records tolds first next at [] [] [] [] asked later same own a = record { are = tt; right = tt; begin = tt; before = refl; after = refl }
port_rounds s records tolds first next at (p ∷ ps) (h ∷ hs) (g ∷ gs) (c ∷ cs) asked later same own a =
    let jobs : jobs_in c ≡ asked_at s.commands first p.number ++ at_place at later = a.1 ∙ (place_append at asked later ∙ ap (λ w. w ++ at_place at later) (own at (omega arith) ∙ asked_here s.commands first at p ps)) in
    let rest = port_rounds s records tolds first next (suc at) ps hs gs cs asked later same (λ i l. own i (omega (arith, l)) ∙ asked_later s.commands first at i p ps l) a.2 in record {
      are = (port_round s records tolds first next at p h g c later same a.0 jobs, rest.are);
      right = (a.0.right, rest.right);
      begin = ((entries_of c, sym a.0.grown), rest.begin);
      before = ap (λ w. length h ∷ w) rest.before;
      after = ap (λ w. length g ∷ w) rest.after;
    }
port_rounds s records tolds first next at [] [] [] (c ∷ cs) asked later same own a = absurd a
port_rounds s records tolds first next at [] [] (g ∷ gs) cs asked later same own a = absurd a
port_rounds s records tolds first next at [] (h ∷ hs) gs cs asked later same own a = absurd a
port_rounds s records tolds first next at (p ∷ ps) [] gs cs asked later same own a = absurd a
port_rounds s records tolds first next at (p ∷ ps) (h ∷ hs) [] cs asked later same own a = absurd a
port_rounds s records tolds first next at (p ∷ ps) (h ∷ hs) (g ∷ gs) [] asked later same own a = absurd a

-- ---- a round

take_numbered : {A : Type 0} (k n : ℕ) (xs : List A) → take k (numbered n xs) ≡ numbered n (take k xs)
take_numbered zero n xs = refl
take_numbered (suc k) n [] = refl
take_numbered (suc k) n (x ∷ xs) = ap (λ w. (n, x) ∷ w) (take_numbered k (suc n) xs)

drop_numbered : {A : Type 0} (k n : ℕ) (xs : List A) → drop k (numbered n xs) ≡ numbered (n + k) (drop k xs)
drop_numbered zero n xs = ap (λ m. numbered m xs) (omega arith)
drop_numbered (suc k) n [] = refl
drop_numbered (suc k) n (x ∷ xs) = drop_numbered k (suc n) xs ∙ ap (λ m. numbered m (drop k xs)) (omega arith)

abbrev between : List Record → ℕ → ℕ → List Record
between records first next = take (next - first) (drop first records)

between_is : (records : List Record) (first next : ℕ) → packets_between records first next ≡ numbered first (between records first next)
between_is records first next = ap (take (next - first)) (drop_numbered first 0 records ∙ ap (λ m. numbered m (drop first records)) (omega arith)) ∙ take_numbered (next - first) first (drop first records)

-- a round that follows these histories
record OneRound (s : Setting) (records : List Record) (first next : ℕ) (hs : List (List Event)) : Type 0 where
  ports : List PortRound
  gs : List (List Event)
  are : ArePortRounds s records ports first next 0 (ports_of s.policy) gs ports
  right : AreHistories (ports_of s.policy) gs
  begin : AllBegin hs gs
  before : map (λ (r : PortRound). r.before) ports ≡ map length hs
  after : map (λ (r : PortRound). r.after) ports ≡ map length gs

mac_count : (ps : List PortSeen) → length (map (λ (p : PortSeen). p.mac) ps) ≡ length ps
mac_count [] = refl
mac_count (p ∷ ps) = ap suc (mac_count ps)

one_round : TurnsHandOn → (s : Setting) (records : List Record) (first next : ℕ) (hs : List (List Event)) → 0 < s.workers → s.workers ≤ 16 → AreHistories (ports_of s.policy) hs → OneRound s records first next hs
one_round law s records first next hs some few a =
    let ps = ports_of s.policy in
    let packets = between records first next in
    let asked = asked_from s.commands first 0 ps in
    let own = own_jobs s first packets in
    let start = all_done ps [] asked hs hs (map (λ p. []) ps) (begins 0 ps hs a) in
    let within : Each (λ (t : Placed). t.0 < length ps) own = subst (λ n. Each (λ (t : Placed). t.0 < n) own) (mac_count ps) (own_within s.workers (macs_of s.policy) (numbered first packets)) in
    let w = hand_all (locals_of s) ps asked own hs start.gs start.calls within start.gone in
    let tolds = told_of ps hs w.gs w.calls in
    let turned = law s first packets hs w.gs asked w.hops w.calls some few (all_ask s.commands first 0 ps) w.gone w.handed in
    let later = turned ∙ ap (placed_packets s.workers s.local (macs_of s.policy) tolds) (sym (between_is records first next)) in
    let all = port_rounds s records tolds first next 0 ps hs w.gs w.calls asked (with_hops own w.hops) later (λ i l. refl) w.gone in
    record { ports = tolds; gs = w.gs; are = all.are; right = all.right; begin = all.begin; before = all.before; after = all.after }

-- ---- all rounds

pub rounds_go_on : TurnsHandOn → RoundsGoOn
rounds_go_on law s records hs [] some few a = record { rounds = []; histories = hs; right = a; begin = begin_self hs; are = tt; chained = refl }
rounds_go_on law s records hs (cut ∷ cuts) some few a =
    let next = end_before cuts (length records) in
    let one = one_round law s records cut next hs some few a in
    let rest = rounds_go_on law s records one.gs cuts some few one.right in record {
      rounds = record { first = cut; ports = one.ports; loose = loose_among (macs_of s.policy) (packets_between records cut next) } ∷ rest.rounds;
      histories = rest.histories;
      right = rest.right;
      begin = begin_trans hs one.gs rest.histories one.begin rest.begin;
      are = (record { first_is = refl; loose = refl; ports = ports_later s records one.ports cut next 0 (ports_of s.policy) one.gs rest.histories one.ports rest.begin one.are }, rest.are);
      chained = (one.before, subst (λ w. AreChained w rest.rounds (map length rest.histories)) (sym one.after) rest.chained);
    }

pub rounds_are_there : TurnsHandOn → RoundsAreThere
rounds_are_there law s records cuts some few =
    let all = rounds_go_on law s records (map (λ p. []) (ports_of s.policy)) cuts some few (none_yet (ports_of s.policy)) in (
      all.rounds,
      record { histories = all.histories; right = all.right; are = all.are; chained = subst (λ w. AreChained w all.rounds (map length all.histories)) (no_counts (ports_of s.policy)) all.chained },
    )
