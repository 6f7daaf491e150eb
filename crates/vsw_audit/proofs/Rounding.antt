-- All ports of a round, and all rounds.
use Rattle.std.proofs.Common.{◌≡◌, ◌+◌, ◌==◌, ℕ, zero, suc, Bool, true, false, true≢false, List, [], ◌∷◌, length, drop, min, Option, Some, None, Result, Ok, Err, IfOk, slice_get, refl, ap, sym, ◌∙◌, subst, arith}
use Rattle.std.proofs.lemmas.Grind.{common_steps}
use Rattle.vsw_base.specs.declared.fault.NoMemory.{NoMemory}
use Rattle.vsw_commandfile.specs.declared.line.Line.{Line}
use Rattle.vsw_config.specs.declared.file.PolicyFile.{PolicyFile}
use Rattle.vsw_pcap.specs.declared.capture.Record.{Record}
use Rattle.vsw_policy.specs.Sound.{Each}
use Rattle.vsw_port.specs.declared.event.Event.{Event}
use Rattle.vsw_promise.specs.Jobs.{Setting, cuts, jobs_of, loose_among, macs_of, packets_between}
use Rattle.vsw_promise.specs.Ports.{PortSeen, ports_of}
use Rattle.vsw_promise.specs.Rounds.{end_before}
use Rattle.vsw_promise.proofs.Handed.{jobs_are_aimed}
use Rattle.vsw_report.specs.declared.round.PortRound.{PortRound}
use Rattle.vsw_report.specs.declared.round.Round.{Round}
use Rattle.vsw_audit.specs.declared.port.Seat.{Seat}
use Rattle.vsw_audit.specs.Audit.{PortsReplay, RoundReplays, RunReplays}
use Rattle.vsw_audit.specs.Check.{checked}
use Rattle.vsw_audit.specs.Private.Rounds.{AllReplay, AreSeats, Finds, IsEnd, IsSeat, PortReplays, cut_numbers, histories, jobs_at}
use Rattle.vsw_audit.proofs.Cutting.{cuts_left, left_next}
use Rattle.vsw_audit.proofs.Tasks.{at_some}
use Rattle.vsw_promise.specs.Schedule.{least_from}
use Rattle.vsw_audit.proofs.Dealt.{between_end}

-- nothing is found
pub finds_none : {A : Type 0} (P : A → Type 0) (new : A) → ((a : A) → P a → ⊥) → Finds P new false
finds_none P new f = record { yes = λ e. absurd (true≢false (sym e)); back = λ a p. absurd (f a p) }

-- ---- ports

pub no_ports : (commands : List Line) (workers : ℕ) (macs : List ℕ) (first : ℕ) (packets : List (ℕ × Record)) (place : ℕ) (ps : List PortSeen) (seats news : List Seat) (rs : List PortRound) (answer : Bool) → seats ≡ [] → news ≡ seats → AreSeats ps seats → answer ≡ (length rs == 0)
    → Finds (AllReplay commands workers macs first packets place ps (histories seats) rs) (histories news) answer
no_ports commands workers macs first packets place ps seats news rs answer none same are e =
    subst (λ w. Finds (AllReplay commands workers macs first packets place ps (histories seats) rs) (histories w) answer) (sym same)
    (subst (λ w. Finds (AllReplay commands workers macs first packets place ps (histories w) rs) (histories w) answer) (sym none) (by ps rs (subst (AreSeats ps) none are) e))
  where
    by : (ps : List PortSeen) (rs : List PortRound) → AreSeats ps [] → answer ≡ (length rs == 0) → Finds (AllReplay commands workers macs first packets place ps [] rs) [] answer
    by [] [] a e = record { yes = λ t. tt; back = back }
      where
        back : (gs : List (List Event)) → AllReplay commands workers macs first packets place [] [] [] gs → (answer ≡ true) × (gs ≡ [])
        back [] p = (e, refl)
        back (g ∷ gs) p = absurd p
    by [] (r ∷ rs) a e = subst (Finds (AllReplay commands workers macs first packets place [] [] (r ∷ rs)) []) (sym (e ∙ not_zero (length rs))) (finds_none (AllReplay commands workers macs first packets place [] [] (r ∷ rs)) [] (λ gs p. none_of gs p))
      where
        not_zero : (n : ℕ) → (suc n == 0) ≡ false
        not_zero n = grind (arith, common_steps)

        none_of : (gs : List (List Event)) → AllReplay commands workers macs first packets place [] [] (r ∷ rs) gs → ⊥
        none_of [] p = p
        none_of (g ∷ gs) p = p
    by (p ∷ ps) rs a e = absurd a

both_lists : {A : Type 0} (x y : A) (xs ys : List A) → x ≡ y → xs ≡ ys → x ∷ xs ≡ y ∷ ys
both_lists x y xs ys e f = ap (λ w. w ∷ xs) e ∙ ap (λ w. y ∷ w) f

-- one port's round is so
pub port_goes : (commands : List Line) (workers : ℕ) (macs : List ℕ) (first : ℕ) (packets : List (ℕ × Record)) (place next : ℕ) (ps : List PortSeen) (s t : Seat) (ss news : List Seat) (r : PortRound) (rs : List PortRound) (here answer : Bool) → here ≡ true → next ≡ suc place → AreSeats ps (s ∷ ss)
    → ((p : PortSeen) → IsSeat p s → Finds (PortReplays workers p s.ledger.journal (jobs_at commands workers macs first place p.number packets) r) t.ledger.journal here)
    → ((qs : List PortSeen) → AreSeats qs ss → Finds (AllReplay commands workers macs first packets next qs (histories ss) rs) (histories news) answer)
    → Finds (AllReplay commands workers macs first packets place ps (histories (s ∷ ss)) (r ∷ rs)) (histories (t ∷ news)) answer
port_goes commands workers macs first packets place next [] s t ss news r rs here answer e sum are f g = absurd are
port_goes commands workers macs first packets place next (p ∷ ps) s t ss news r rs here answer e sum are f g = record { yes = λ a. ((f p are.0).yes e, rest.yes a); back = back }
  where
    rest : Finds (AllReplay commands workers macs first packets (suc place) ps (histories ss) rs) (histories news) answer
    rest = subst (λ n. Finds (AllReplay commands workers macs first packets n ps (histories ss) rs) (histories news) answer) sum (g ps are.1)

    back : (gs : List (List Event)) → AllReplay commands workers macs first packets place (p ∷ ps) (histories (s ∷ ss)) (r ∷ rs) gs → (answer ≡ true) × (gs ≡ histories (t ∷ news))
    back [] w = absurd w
    back (k ∷ gs) w =
        let one = (f p are.0).back k w.0 in
        let more = rest.back gs w.1 in
        (more.0, both_lists k t.ledger.journal gs (histories news) one.1 more.1)

pub seats_kept : (ps : List PortSeen) (s t : Seat) (ss news : List Seat) → t.number ≡ s.number → t.ledger.opening ≡ s.ledger.opening → ((qs : List PortSeen) → AreSeats qs ss → AreSeats qs news) → AreSeats ps (s ∷ ss) → AreSeats ps (t ∷ news)
seats_kept [] s t ss news e f more are = absurd are
seats_kept (p ∷ ps) s t ss news e f more are = (record { number = e ∙ are.0.number; opening = f ∙ are.0.opening }, more ps are.1)

-- ---- a round

pub to_ports : (s : Setting) (records : List Record) (told : List PortRound) (first next place : ℕ) (ps : List PortSeen) (hs gs : List (List Event)) (rs : List PortRound) → s.local ≡ false → AllReplay s.commands s.workers (macs_of s.policy) first (packets_between records first next) place ps hs rs gs → PortsReplay s records told first next place ps hs gs rs
to_ports s records told first next place [] [] [] [] e w = tt
to_ports s records told first next place (p ∷ ps) (h ∷ hs) (g ∷ gs) (r ∷ rs) e w =
    let t : PortReplays s.workers p h (jobs_of s records told first next place p.number) r g = subst (λ j. PortReplays s.workers p h j r g) (sym (jobs_are_aimed s records told first next place p.number e)) w.0 in
    (t.0, t.1, to_ports s records told first next (suc place) ps hs gs rs e w.1)
to_ports s records told first next place [] [] [] (r ∷ rs) e w = absurd w
to_ports s records told first next place [] [] (g ∷ gs) [] e w = absurd w
to_ports s records told first next place [] [] (g ∷ gs) (r ∷ rs) e w = absurd w
to_ports s records told first next place [] (h ∷ hs) gs rs e w = absurd w
to_ports s records told first next place (p ∷ ps) [] gs rs e w = absurd w
to_ports s records told first next place (p ∷ ps) (h ∷ hs) gs [] e w = absurd w
to_ports s records told first next place (p ∷ ps) (h ∷ hs) [] (r ∷ rs) e w = absurd w

pub from_ports : (s : Setting) (records : List Record) (told : List PortRound) (first next place : ℕ) (ps : List PortSeen) (hs gs : List (List Event)) (rs : List PortRound) → s.local ≡ false → PortsReplay s records told first next place ps hs gs rs → AllReplay s.commands s.workers (macs_of s.policy) first (packets_between records first next) place ps hs rs gs
from_ports s records told first next place [] [] [] [] e w = tt
from_ports s records told first next place (p ∷ ps) (h ∷ hs) (g ∷ gs) (r ∷ rs) e w =
    (subst (λ j. PortReplays s.workers p h j r g) (jobs_are_aimed s records told first next place p.number e) (w.0, w.1), from_ports s records told first next (suc place) ps hs gs rs e w.2)
from_ports s records told first next place [] [] [] (r ∷ rs) e w = absurd w
from_ports s records told first next place [] [] (g ∷ gs) rs e w = absurd w
from_ports s records told first next place [] (h ∷ hs) gs rs e w = absurd w
from_ports s records told first next place (p ∷ ps) [] gs rs e w = absurd w
from_ports s records told first next place (p ∷ ps) (h ∷ hs) [] rs e w = absurd w
from_ports s records told first next place (p ∷ ps) (h ∷ hs) (g ∷ gs) [] e w = absurd w

pub round_goes : (workers : ℕ) (policy : PolicyFile) (commands : List Line) (records : List Record) (first next : ℕ) (hs news : List (List Event)) (r : Round) (answer : Bool) → r.first ≡ first → r.loose ≡ loose_among (macs_of policy) (packets_between records first next)
    → Finds (AllReplay commands workers (macs_of policy) first (packets_between records first next) 0 (ports_of policy) hs r.ports) news answer → Finds (λ gs. RoundReplays (checked workers policy commands) records first next hs gs r) news answer
round_goes workers policy commands records first next hs news r answer is loose f =
    let s : Setting = checked workers policy commands in record {
      yes = λ a. record { first_is = is; loose = loose; ports = to_ports s records r.ports first next 0 (ports_of policy) hs news r.ports refl (f.yes a) };
      back = λ gs w. f.back gs (from_ports s records r.ports first next 0 (ports_of policy) hs gs r.ports refl w.ports);
    }

-- ---- all rounds

-- what is left to be replayed decides of all
pub record Left (s : Setting) (records : List Record) (hs : List (List Event)) (cuts : List ℕ) (rounds : List Round) (now : List (List Event)) (later : List ℕ) (rest : List Round) : Type 0 where
  pub there : (gs : List (List Event)) → RunReplays s records hs cuts gs rounds → RunReplays s records now later gs rest
  pub back : (gs : List (List Event)) → RunReplays s records now later gs rest → RunReplays s records hs cuts gs rounds

pub left_all : (s : Setting) (records : List Record) (hs : List (List Event)) (cuts later : List ℕ) (rounds : List Round) → cuts ≡ later → Left s records hs cuts rounds hs later rounds
left_all s records hs cuts later rounds e = record { there = λ gs w. subst (λ c. RunReplays s records hs c gs rounds) e w; back = λ gs w. subst (λ c. RunReplays s records hs c gs rounds) (sym e) w }

pub left_on : (s : Setting) (records : List Record) (hs : List (List Event)) (cuts : List ℕ) (rounds : List Round) (now new : List (List Event)) (here later : List ℕ) (cut : ℕ) (rest : List Round) (r : Round) (more : List Round) (answer : Bool) → here ≡ cut ∷ later → rest ≡ r ∷ more → answer ≡ true
    → Finds (λ gs. RoundReplays s records cut (end_before later (length records)) now gs r) new answer → Left s records hs cuts rounds now here rest → Left s records hs cuts rounds new later more
left_on s records hs cuts rounds now new here later cut rest r more answer e g a f left = record { there = there; back = back }
  where
    mine : Left s records hs cuts rounds now (cut ∷ later) (r ∷ more)
    mine = subst (λ c. Left s records hs cuts rounds now c (r ∷ more)) e (subst (λ v. Left s records hs cuts rounds now here v) g left)

    there : (gs : List (List Event)) → RunReplays s records hs cuts gs rounds → RunReplays s records new later gs more
    there gs w = let t = mine.there gs w in subst (λ m. RunReplays s records m later gs more) (f.back t.0 t.1).1 t.2

    back : (gs : List (List Event)) → RunReplays s records new later gs more → RunReplays s records hs cuts gs rounds
    back gs w = mine.back gs (new, f.yes a, w)

pub left_stops : (s : Setting) (records : List Record) (hs : List (List Event)) (cuts : List ℕ) (rounds : List Round) (now new : List (List Event)) (here later : List ℕ) (cut : ℕ) (rest : List Round) (r : Round) (more : List Round) (answer : Bool) → here ≡ cut ∷ later → rest ≡ r ∷ more → answer ≡ false
    → Finds (λ gs. RoundReplays s records cut (end_before later (length records)) now gs r) new answer → Left s records hs cuts rounds now here rest → (last : List (List Event)) → Finds (λ gs. RunReplays s records hs cuts gs rounds) last false
left_stops s records hs cuts rounds now new here later cut rest r more answer e g a f left last = finds_none (λ gs. RunReplays s records hs cuts gs rounds) last none
  where
    mine : Left s records hs cuts rounds now (cut ∷ later) (r ∷ more)
    mine = subst (λ c. Left s records hs cuts rounds now c (r ∷ more)) e (subst (λ v. Left s records hs cuts rounds now here v) g left)

    none : (gs : List (List Event)) → RunReplays s records hs cuts gs rounds → ⊥
    none gs w = let t = mine.there gs w in true≢false (sym ((f.back t.0 t.1).0) ∙ a)

-- more rounds than cuts
pub left_over : (s : Setting) (records : List Record) (hs : List (List Event)) (cuts : List ℕ) (rounds : List Round) (now : List (List Event)) (here : List ℕ) (rest : List Round) (r : Round) (more : List Round) → here ≡ [] → rest ≡ r ∷ more → Left s records hs cuts rounds now here rest
    → (last : List (List Event)) → Finds (λ gs. RunReplays s records hs cuts gs rounds) last false
left_over s records hs cuts rounds now here rest r more e g left last = finds_none (λ gs. RunReplays s records hs cuts gs rounds) last none
  where
    none : (gs : List (List Event)) → RunReplays s records hs cuts gs rounds → ⊥
    none gs w = let t : RunReplays s records now [] gs (r ∷ more) = subst (λ c. RunReplays s records now c gs (r ∷ more)) e (subst (λ v. RunReplays s records now here gs v) g (left.there gs w)) in t

-- where a round's packets end
pub end_is : (commands : List Line) (records : List Record) (first end total : ℕ) (o : Option ℕ) → total ≡ length records → IsEnd o total end → packets_between records first (end_before (cuts_left commands total o) (length records)) ≡ packets_between records first end
end_is commands records first end total None e f = ap (packets_between records first) (sym (f ∙ e))
end_is commands records first end total (Some c) e f = between_end records first c end (f ∙ ap (min c) e)

-- ---- the same of lists that are told apart

pub no_lines_so : (commands : List Line) (workers : ℕ) (macs : List ℕ) (first : ℕ) (packets : List (ℕ × Record)) (place : ℕ) (ps : List PortSeen) (s : Seat) (ss seats : List Seat) (rs : List PortRound) (new : List (List Event)) → seats ≡ s ∷ ss → rs ≡ [] → AreSeats ps seats
    → Finds (AllReplay commands workers macs first packets place ps (histories seats) rs) new false
no_lines_so commands workers macs first packets place ps s ss seats rs new e f are =
    subst (λ v. Finds (AllReplay commands workers macs first packets place ps (histories v) rs) new false) (sym e) (subst (λ v. Finds (AllReplay commands workers macs first packets place ps (histories (s ∷ ss)) v) new false) (sym f) (by ps (subst (AreSeats ps) e are)))
  where
    by : (ps : List PortSeen) → AreSeats ps (s ∷ ss) → Finds (AllReplay commands workers macs first packets place ps (histories (s ∷ ss)) []) new false
    by [] a = absurd a
    by (p ∷ ps) a = finds_none (AllReplay commands workers macs first packets place (p ∷ ps) (histories (s ∷ ss)) []) new none
      where
        none : (gs : List (List Event)) → AllReplay commands workers macs first packets place (p ∷ ps) (histories (s ∷ ss)) [] gs → ⊥
        none [] w = w
        none (g ∷ gs) w = w

pub port_stops_so : (commands : List Line) (workers : ℕ) (macs : List ℕ) (first : ℕ) (packets : List (ℕ × Record)) (place : ℕ) (ps : List PortSeen) (s t : Seat) (ss seats : List Seat) (r : PortRound) (rs told : List PortRound) (here : Bool) (new : List (List Event)) → seats ≡ s ∷ ss → told ≡ r ∷ rs → here ≡ false → AreSeats ps seats
    → ((p : PortSeen) → IsSeat p s → Finds (PortReplays workers p s.ledger.journal (jobs_at commands workers macs first place p.number packets) r) t.ledger.journal here)
    → Finds (AllReplay commands workers macs first packets place ps (histories seats) told) new false
port_stops_so commands workers macs first packets place ps s t ss seats r rs told here new e f a are one =
    subst (λ v. Finds (AllReplay commands workers macs first packets place ps (histories v) told) new false) (sym e) (subst (λ v. Finds (AllReplay commands workers macs first packets place ps (histories (s ∷ ss)) v) new false) (sym f) (by ps (subst (AreSeats ps) e are)))
  where
    by : (ps : List PortSeen) → AreSeats ps (s ∷ ss) → Finds (AllReplay commands workers macs first packets place ps (histories (s ∷ ss)) (r ∷ rs)) new false
    by [] w = absurd w
    by (p ∷ ps) w = finds_none (AllReplay commands workers macs first packets place (p ∷ ps) (histories (s ∷ ss)) (r ∷ rs)) new none
      where
        none : (gs : List (List Event)) → AllReplay commands workers macs first packets place (p ∷ ps) (histories (s ∷ ss)) (r ∷ rs) gs → ⊥
        none [] v = v
        none (g ∷ gs) v = true≢false (sym (((one p w.0).back g v.0).0) ∙ a)

pub port_goes_so : (commands : List Line) (workers : ℕ) (macs : List ℕ) (first : ℕ) (packets : List (ℕ × Record)) (place next : ℕ) (ps : List PortSeen) (s t : Seat) (ss seats more news : List Seat) (r : PortRound) (rs told : List PortRound) (here answer : Bool) → seats ≡ s ∷ ss → told ≡ r ∷ rs → news ≡ t ∷ more → here ≡ true → next ≡ suc place → AreSeats ps seats
    → ((p : PortSeen) → IsSeat p s → Finds (PortReplays workers p s.ledger.journal (jobs_at commands workers macs first place p.number packets) r) t.ledger.journal here)
    → ((qs : List PortSeen) → AreSeats qs ss → Finds (AllReplay commands workers macs first packets next qs (histories ss) rs) (histories more) answer)
    → Finds (AllReplay commands workers macs first packets place ps (histories seats) told) (histories news) answer
port_goes_so commands workers macs first packets place next ps s t ss seats more news r rs told here answer e f g a sum are one rest =
    subst (λ v. Finds (AllReplay commands workers macs first packets place ps (histories v) told) (histories news) answer) (sym e)
    (subst (λ v. Finds (AllReplay commands workers macs first packets place ps (histories (s ∷ ss)) v) (histories news) answer) (sym f)
    (subst (λ v. Finds (AllReplay commands workers macs first packets place ps (histories (s ∷ ss)) (r ∷ rs)) (histories v) answer) (sym g)
    (port_goes commands workers macs first packets place next ps s t ss more r rs here answer a sum (subst (AreSeats ps) e are) one rest)))

pub seats_kept_so : (ps : List PortSeen) (s t : Seat) (ss seats more news : List Seat) → seats ≡ s ∷ ss → news ≡ t ∷ more → t.number ≡ s.number → t.ledger.opening ≡ s.ledger.opening → ((qs : List PortSeen) → AreSeats qs ss → AreSeats qs more) → AreSeats ps seats → AreSeats ps news
seats_kept_so ps s t ss seats more news e f g h rest are = subst (AreSeats ps) (sym f) (seats_kept ps s t ss more g h rest (subst (AreSeats ps) e are))

pub ports_on : (commands : List Line) (workers : ℕ) (macs : List ℕ) (first : ℕ) (packets : List (ℕ × Record)) (place next : ℕ) (ps : List PortSeen) (s t : Seat) (ss seats more news : List Seat) (r : PortRound) (rs told : List PortRound) (here : Bool) (result : Result Bool NoMemory) → seats ≡ s ∷ ss → told ≡ r ∷ rs → news ≡ t ∷ more → here ≡ true → next ≡ suc place → AreSeats ps seats
    → ((p : PortSeen) → IsSeat p s → Finds (PortReplays workers p s.ledger.journal (jobs_at commands workers macs first place p.number packets) r) t.ledger.journal here)
    → ((qs : List PortSeen) → AreSeats qs ss → IfOk result (λ answer. Finds (AllReplay commands workers macs first packets next qs (histories ss) rs) (histories more) answer))
    → IfOk result (λ answer. Finds (AllReplay commands workers macs first packets place ps (histories seats) told) (histories news) answer)
ports_on commands workers macs first packets place next ps s t ss seats more news r rs told here (Err e) a b c d f are one rest = tt
ports_on commands workers macs first packets place next ps s t ss seats more news r rs told here (Ok answer) a b c d f are one rest = port_goes_so commands workers macs first packets place next ps s t ss seats more news r rs told here answer a b c d f are one rest

pub round_so : (workers : ℕ) (policy : PolicyFile) (commands : List Line) (records : List Record) (first next : ℕ) (packets : List (ℕ × Record)) (hs news : List (List Event)) (r : Round) (result : Result Bool NoMemory) → r.first ≡ first → packets_between records first next ≡ packets → r.loose ≡ loose_among (macs_of policy) packets
    → IfOk result (λ answer. Finds (AllReplay commands workers (macs_of policy) first packets 0 (ports_of policy) hs r.ports) news answer) → IfOk result (λ answer. Finds (λ gs. RoundReplays (checked workers policy commands) records first next hs gs r) news answer)
round_so workers policy commands records first next packets hs news r (Err e) is same loose f = tt
round_so workers policy commands records first next packets hs news r (Ok answer) is same loose f =
    round_goes workers policy commands records first next hs news r answer is (subst (λ v. r.loose ≡ loose_among (macs_of policy) v) (sym same) loose) (subst (λ v. Finds (AllReplay commands workers (macs_of policy) first v 0 (ports_of policy) hs r.ports) news answer) (sym same) f)

pub each_get : {A : Type 0} (P : A → Type 0) (xs : List A) (i : ℕ) (x : A) → slice_get xs i ≡ Some x → Each P xs → P x
each_get P [] i x e w = absurd (cc e)
each_get P (y ∷ xs) zero x e w = let f : y ≡ x = cc e in subst P f w.0
each_get P (y ∷ xs) (suc i) x e w = each_get P xs i x e w.1

-- one more round
pub rounds_on : (workers : ℕ) (policy : PolicyFile) (commands : List Line) (records : List Record) (hs : List (List Event)) (cs : List ℕ) (rounds : List Round) (i after first end total : ℕ) (cut o : Option ℕ) (now new : List (List Event)) (r : Round) (answer : Bool) → after ≡ suc i → cut ≡ Some first → slice_get rounds i ≡ Some r → answer ≡ true → total ≡ length records → o ≡ least_from (first + 1) (cut_numbers commands total) → IsEnd o total end
    → ((next : ℕ) → packets_between records first next ≡ packets_between records first end → Finds (λ gs. RoundReplays (checked workers policy commands) records first next now gs r) new answer)
    → Left (checked workers policy commands) records hs cs rounds now (cuts_left commands total cut) (drop i rounds) → Left (checked workers policy commands) records hs cs rounds new (cuts_left commands total o) (drop after rounds)
rounds_on workers policy commands records hs cs rounds i after first end total cut o now new r answer sum is here a all next ends f left =
    subst (λ n. Left (checked workers policy commands) records hs cs rounds new (cuts_left commands total o) (drop n rounds)) (sym sum)
    (left_on (checked workers policy commands) records hs cs rounds now new (cuts_left commands total cut) (cuts_left commands total o) first (drop i rounds) r (drop (suc i) rounds) answer (ap (cuts_left commands total) is ∙ left_next commands total first o next) (at_some rounds i r here).rest a
    (f (end_before (cuts_left commands total o) (length records)) (end_is commands records first end total o all ends)) left)

pub rounds_stop : (workers : ℕ) (policy : PolicyFile) (commands : List Line) (records : List Record) (hs : List (List Event)) (cs : List ℕ) (rounds : List Round) (i first end total : ℕ) (cut o : Option ℕ) (now new last : List (List Event)) (r : Round) (answer : Bool) → cut ≡ Some first → slice_get rounds i ≡ Some r → answer ≡ false → total ≡ length records → o ≡ least_from (first + 1) (cut_numbers commands total) → IsEnd o total end
    → ((next : ℕ) → packets_between records first next ≡ packets_between records first end → Finds (λ gs. RoundReplays (checked workers policy commands) records first next now gs r) new answer)
    → Left (checked workers policy commands) records hs cs rounds now (cuts_left commands total cut) (drop i rounds) → Finds (λ gs. RunReplays (checked workers policy commands) records hs cs gs rounds) last false
rounds_stop workers policy commands records hs cs rounds i first end total cut o now new last r answer is here a all next ends f left =
    left_stops (checked workers policy commands) records hs cs rounds now new (cuts_left commands total cut) (cuts_left commands total o) first (drop i rounds) r (drop (suc i) rounds) answer (ap (cuts_left commands total) is ∙ left_next commands total first o next) (at_some rounds i r here).rest a
    (f (end_before (cuts_left commands total o) (length records)) (end_is commands records first end total o all ends)) left last

pub nothing : {A : Type 0} (xs : List A) → length xs ≡ 0 → xs ≡ []
nothing [] e = refl
nothing (x ∷ xs) e = absurd (omega (arith, e))

pub not_some : (o : Option ℕ) → ((n : ℕ) → o ≡ Some n → ⊥) → o ≡ None
not_some None f = refl
not_some (Some n) f = absurd (f n refl)
