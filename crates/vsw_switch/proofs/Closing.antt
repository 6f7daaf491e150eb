-- The end of a round: what each port did is a port's round as promised, with the text that is appended.
use Rattle.std.proofs.Common.{◌≡◌, ◌≤◌, ◌+◌, ◌-◌, ℕ, suc, ◌||◌, Bool, List, [], ◌∷◌, ◌++◌, length, map, refl, ap, ap₂, sym, ◌∙◌, subst}
use Rattle.std.specs.List.{flat_map, list_any}
use Rattle.vsw_base.specs.declared.fate.Fate.{Fate}
use Rattle.vsw_port.specs.declared.event.Event.{Event}
use Rattle.vsw_port.specs.Calls.{Call, Job, controller_at, entries_of, job_of}
use Rattle.vsw_port.specs.Next.{Goes}
use Rattle.vsw_port.specs.Order.{ascending, counted}
use Rattle.vsw_report.specs.Line.{TextLine, text_of}
use Rattle.vsw_report.specs.Order.{AllInCounts, emptied, in_order}
use Rattle.vsw_hairpin.specs.Handing.{AreGone, told_of}
use Rattle.vsw_pcap.specs.declared.capture.Record.{Record}
use Rattle.vsw_policy.specs.Sound.{Each}
use Rattle.vsw_promise.specs.Ports.{PortSeen}
use Rattle.vsw_promise.specs.Jobs.{Jobs, Placed, Setting, at_place, before_jobs, during_jobs, jobs_of, macs_of, packets_between, placed_packets}
use Rattle.vsw_promise.specs.Rounds.{AllBegin, AreHistories, ArePortRounds, IsPortRound, opening_of}
use Rattle.vsw_promise.specs.Summary.{dropped, in_line, in_port, passed, size_of, total}
use Rattle.vsw_promise.specs.Told.{in_told_order, line_of, lines_of}
use Rattle.vsw_promise.proofs.PortRounds.{round_of_goes}
use Rattle.vsw_report.specs.declared.round.PortRound.{PortRound}
use Rattle.vsw_report.specs.declared.told.ToldLine.{ToldLine}
use Rattle.vsw_report.specs.Print.{line_text, port_line, port_text}
use Rattle.vsw_report.specs.Short.{is_short_port, tells_short}
use Rattle.vsw_switch.specs.Close.{IsCounted, begun, is_short_now, lines_now, text_now}
use Rattle.vsw_switch.specs.Does.{CallAt, calls_at, job_at}
use Rattle.vsw_switch.specs.Switch.{AllStandAt, PortNow, StandsAt}
use Rattle.vsw_history_law.specs.MergingLaw.{texts_of}
use Rattle.vsw_history_law.proofs.MergedTexts.{counts_stand, merge_tells}
use Rattle.vsw_switch.proofs.Calling.{PortGoes, of_call, port_begins, port_goes}
use Rattle.vsw_switch.proofs.Handing.{calls_by}
use Rattle.vsw_switch.proofs.Steps.{AllEach, jobs_at}
use Rattle.vsw_switch.proofs.Tellings.{map_append, texts}
use Rattle.vsw_switch.proofs.Totals.{total_map, total_told}

-- ---- one port

-- calls of jobs in two parts are in two parts
pub record InTwo (calls : List Call) (first later : List Job) : Type 0 where
  pub front : List Call
  pub back : List Call
  pub is : calls ≡ front ++ back
  pub first_jobs : map (λ c. job_of c.deed) front ≡ first
  pub later_jobs : map (λ c. job_of c.deed) back ≡ later

in_two : (calls : List Call) (first later : List Job) → map (λ c. job_of c.deed) calls ≡ first ++ later → InTwo calls first later
in_two calls [] later e = record { front = []; back = calls; is = refl; first_jobs = refl; later_jobs = e }
in_two [] (j ∷ first) later e = absurd (cc e)
in_two (c ∷ calls) (j ∷ first) later e =
    let head : job_of c.deed ≡ j = cc e in
    let rest = in_two calls first later (cc e) in
    record { front = c ∷ rest.front; back = rest.back; is = ap (λ w. c ∷ w) rest.is; first_jobs = ap₂ (λ x y. x ∷ y) head rest.first_jobs; later_jobs = rest.later_jobs }

-- the round of a port that made these calls
abbrev pub round_of : PortNow → List Call → PortRound
round_of p calls = record { port = p.number; before = p.before; after = length p.journal; lines = lines_of p.opening.controllers calls p.before (length p.journal - p.before) }

is_round : (workers : ℕ) (seen : PortSeen) (before : List Event) (calls : List Call) (jobs : Jobs) (p : PortNow) → PortGoes workers seen before calls p → map (λ c. job_of c.deed) calls ≡ jobs.first ++ jobs.later → IsPortRound workers seen p.journal jobs (round_of p calls)
is_round workers seen before calls jobs p g are =
    let two = in_two calls jobs.first jobs.later are in
    round_of_goes workers seen before p.journal two.front two.back jobs (round_of p calls) (subst (λ w. Goes (opening_of seen) before p.journal w) two.is g.goes) two.first_jobs two.later_jobs
    (λ i. record { port = g.number i; before = g.before_is i; after = length p.journal; lines = lines_of (g.opening i).controllers (two.is i) (g.before_is i) (length p.journal - g.before_is i) })

all_told : (workers : ℕ) (seen : PortSeen) (before : List Event) (calls : List Call) (p : PortNow) → PortGoes workers seen before calls p → p.workers ++ p.controllers ≡ texts_of (opening_of seen) workers calls
all_told workers seen before calls p g = ap₂ (λ x y. x ++ y) g.workers_are g.controllers_are ∙ sym (map_append _ (counted 0 workers) (map (controller_at seen.controllers) (ascending seen.controllers)))

-- what the texts of a port tell
record PortTells (p : PortNow) (calls : List Call) : Type 0 where
  counted_so : IsCounted p
  lines : lines_now p ≡ map text_of (round_of p calls).lines

port_tells : (workers : ℕ) (seen : PortSeen) (before : List Event) (calls : List Call) (p : PortNow) → workers ≤ 16 → PortGoes workers seen before calls p → PortTells p calls
port_tells workers seen before calls p few g =
    let all = all_told workers seen before calls p g in
    record {
      counted_so = subst (λ n. AllInCounts n (p.workers ++ p.controllers) (length p.journal)) (sym g.before_is) (subst (λ w. AllInCounts (length before) w (length p.journal)) (sym all) (counts_stand (opening_of seen) before p.journal workers calls g.goes));
      lines = ap₂ (λ w n. in_order w n (length p.journal - n)) all g.before_is
          ∙ (merge_tells (opening_of seen) before p.journal workers calls g.goes few g.callers ∙ sym (ap₂ (λ o n. map text_of (lines_of o.controllers calls n (length p.journal - n))) g.opening g.before_is));
    }

flat_texts : (ls : List ToldLine) → flat_map (λ l. l.text) (map text_of ls) ≡ flat_map line_text ls
flat_texts [] = refl
flat_texts (l ∷ ls) = ap (λ w. line_text l ++ w) (flat_texts ls)

any_short : (ls : List ToldLine) → list_any (λ l. l.short) (map text_of ls) ≡ list_any (λ l. tells_short l.what) ls
any_short ls = any_map text_of (λ (l : TextLine). l.short) ls
  where
    any_map : {A B : Type 0} (f : A → B) (t : B → Bool) (xs : List A) → list_any t (map f xs) ≡ list_any (λ x. t (f x)) xs
    any_map f t [] = refl
    any_map f t (x ∷ xs) = ap (λ b. t (f x) || b) (any_map f t xs)

port_says : (p : PortNow) (calls : List Call) → PortTells p calls → text_now p ≡ port_text (round_of p calls)
port_says p calls t = ap (λ w. port_line p.number p.before (length p.journal) ++ w) (ap (flat_map (λ l. l.text)) t.lines ∙ flat_texts (round_of p calls).lines)

port_short : (p : PortNow) (calls : List Call) → PortTells p calls → is_short_now p ≡ is_short_port (round_of p calls)
port_short p calls t = ap (list_any (λ l. l.short)) t.lines ∙ any_short (round_of p calls).lines

-- what became of a port's packets is the sum over its lines
port_total : (f : Fate → ℕ) (workers : ℕ) (seen : PortSeen) (before : List Event) (calls : List Call) (p : PortNow) → workers ≤ 16 → PortGoes workers seen before calls p → total (of_call f) calls ≡ in_port f (round_of p calls)
port_total f workers seen before calls p few g =
    sym (total_told (of_call f) (opening_of seen) before p.journal workers calls g.goes few g.callers)
    ∙ (ap₂ (λ cs n. total (of_call f) (in_told_order cs calls n (length p.journal - n))) (ap (λ o. o.controllers) (sym g.opening)) (sym g.before_is)
    ∙ sym (total_map (λ l. in_line f l.what) line_of (in_told_order p.opening.controllers calls p.before (length p.journal - p.before))))

-- what the report tells of the port whose history grew so by these calls
told_so : (workers : ℕ) (seen : PortSeen) (before : List Event) (calls : List Call) (p : PortNow) → PortGoes workers seen before calls p
    → round_of p calls ≡ record { port = seen.number; before = length before; after = length p.journal; lines = lines_of seen.controllers calls (length before) (length p.journal - length before) }
told_so workers seen before calls p g =
    λ i. record { port = g.number i; before = g.before_is i; after = length p.journal; lines = lines_of (g.opening i).controllers calls (g.before_is i) (length p.journal - g.before_is i) }

emptied_are : {A : Type 0} (f : A → List TextLine) (xs : List A) → emptied (map f xs) ≡ map (λ x. []) xs
emptied_are f [] = refl
emptied_are f (x ∷ xs) = ap (λ w. [] ∷ w) (emptied_are f xs)

emptied_twice : (cs ns : List ℕ) (calls : List Call) → emptied (texts cs calls (map (controller_at cs) ns)) ≡ map (λ n. []) ns
emptied_twice cs [] calls = refl
emptied_twice cs (n ∷ ns) calls = ap (λ w. [] ∷ w) (emptied_twice cs ns calls)

-- the next round begins at the history that this one leaves
stands_next : (workers : ℕ) (seen : PortSeen) (before : List Event) (calls : List Call) (p : PortNow) → PortGoes workers seen before calls p → StandsAt workers seen p.journal (begun p)
stands_next workers seen before calls p g = record {
  number = g.number;
  mac = g.mac;
  opening = g.opening;
  journal = refl;
  right = g.goes.right;
  before = refl;
  workers_are = ap emptied g.workers_are ∙ emptied_are _ (counted 0 workers);
  controllers_are = ap emptied g.controllers_are ∙ emptied_twice seen.controllers (ascending seen.controllers) calls;
  tally = refl;
}

-- ---- all ports

-- the ports, the first of which has this place, after these calls
abbrev pub AllGo : ℕ → List CallAt → ℕ → List PortSeen → List (List Event) → List PortNow → Type 0
AllGo workers cs n [] [] [] = Unit {0}
AllGo workers cs n (seen ∷ ss) (h ∷ hs) (p ∷ ps) = PortGoes workers seen h (calls_at n cs) p × AllGo workers cs (suc n) ss hs ps
AllGo workers cs n _ _ _ = ⊥

pub all_go : (workers : ℕ) (cs : List CallAt) (n : ℕ) (ss : List PortSeen) (hs : List (List Event)) (ps qs : List PortNow) → workers ≤ 16 → AllStandAt workers ss hs ps → AllEach cs n ps qs → AllGo workers cs n ss hs qs
all_go workers cs n [] [] [] [] few s d = tt
all_go workers cs n (seen ∷ ss) (h ∷ hs) (p ∷ ps) (q ∷ qs) few s d = (port_goes workers seen h [] (calls_at n cs) p q few (port_begins workers seen h p s.0) d.0, all_go workers cs (suc n) ss hs ps qs few s.1 d.1)
all_go workers cs n [] [] [] (q ∷ qs) few s d = absurd d
all_go workers cs n (seen ∷ ss) (h ∷ hs) (p ∷ ps) [] few s d = absurd d
all_go workers cs n [] [] (p ∷ ps) qs few s d = absurd s
all_go workers cs n [] (h ∷ hs) ps qs few s d = absurd s
all_go workers cs n (seen ∷ ss) [] ps qs few s d = absurd s
all_go workers cs n (seen ∷ ss) (h ∷ hs) [] qs few s d = absurd s

-- the jobs of the port of this number at this place, in a round in which these are the jobs of packets
abbrev pub jobs_with : Setting → ℕ → List Placed → ℕ → ℕ → Jobs
jobs_with s first jobs place number = record { first = before_jobs s.commands first number; later = during_jobs s.commands first number ++ at_place place jobs }

jobs_are : (s : Setting) (records : List Record) (told : List PortRound) (first next place number : ℕ) (jobs : List Placed) → jobs ≡ placed_packets s.workers s.local (macs_of s.policy) told (packets_between records first next)
    → jobs_with s first jobs place number ≡ jobs_of s records told first next place number
jobs_are s records told first next place number jobs e = ap (λ (js : List Placed). jobs_with s first js place number) e

-- at each port these are its jobs
abbrev pub AreDealt : Setting → ℕ → List Placed → List Placed → ℕ → List PortSeen → Type 0
AreDealt s first jobs ts n [] = Unit {0}
AreDealt s first jobs ts n (seen ∷ ss) = (at_place n ts ≡ (jobs_with s first jobs n seen.number).first ++ (jobs_with s first jobs n seen.number).later) × AreDealt s first jobs ts (suc n) ss

-- the round of all ports, in which these are the jobs of packets and these the calls
pub record Ended (s : Setting) (first : ℕ) (jobs : List Placed) (cs : List CallAt) (n : ℕ) (ss : List PortSeen) (hs : List (List Event)) (ps : List PortNow) : Type 0 where
  pub histories : List (List Event)
  pub rounds : List PortRound
  pub are : (records : List Record) (told : List PortRound) (next : ℕ) → jobs ≡ placed_packets s.workers s.local (macs_of s.policy) told (packets_between records first next) → ArePortRounds s records told first next n ss histories rounds
  pub gone : AreGone n ss (map job_at cs) hs histories (calls_by n ss cs)
  pub told : rounds ≡ told_of ss hs histories (calls_by n ss cs)
  pub right : AreHistories ss histories
  pub begin : AllBegin hs histories
  pub before : map (λ r. r.before) rounds ≡ map length hs
  pub after : map (λ r. r.after) rounds ≡ map length histories
  pub stand : AllStandAt s.workers ss histories (map begun ps)
  pub counts : Each IsCounted ps
  pub text : flat_map text_now ps ≡ flat_map port_text rounds
  pub short : list_any is_short_now ps ≡ list_any is_short_port rounds
  pub pass : total (λ p. p.tally.pass) ps ≡ total (in_port passed) rounds
  pub drop : total (λ p. p.tally.drop) ps ≡ total (in_port dropped) rounds
  pub size : total (λ p. p.tally.bytes) ps ≡ total (in_port size_of) rounds

pub all_end : (s : Setting) (first : ℕ) (jobs : List Placed) (cs : List CallAt) (n : ℕ) (ss : List PortSeen) (hs : List (List Event)) (ps : List PortNow) → s.workers ≤ 16 → AreDealt s first jobs (map job_at cs) n ss → AllGo s.workers cs n ss hs ps → Ended s first jobs cs n ss hs ps
all_end s first jobs cs n [] [] [] few d g = record { histories = []; rounds = []; are = λ records told next e. tt; gone = tt; told = refl; right = tt; begin = tt; before = refl; after = refl; stand = tt; counts = tt; text = refl; short = refl; pass = refl; drop = refl; size = refl }
all_end s first jobs cs n (seen ∷ ss) (h ∷ hs) (p ∷ ps) few d g = joined seen ss h hs p ps (jobs_at n cs) d.0 g.0 (all_end s first jobs cs (suc n) ss hs ps few d.1 g.1)
  where
    joined : (seen : PortSeen) (ss : List PortSeen) (h : List Event) (hs : List (List Event)) (p : PortNow) (ps : List PortNow) → map (λ c. job_of c.deed) (calls_at n cs) ≡ at_place n (map job_at cs)
        → at_place n (map job_at cs) ≡ (jobs_with s first jobs n seen.number).first ++ (jobs_with s first jobs n seen.number).later
        → PortGoes s.workers seen h (calls_at n cs) p → Ended s first jobs cs (suc n) ss hs ps → Ended s first jobs cs n (seen ∷ ss) (h ∷ hs) (p ∷ ps)
    joined seen ss h hs p ps done its here rest =
        let calls = calls_at n cs in
        let tells = port_tells s.workers seen h calls p few here in
        record {
          histories = p.journal ∷ rest.histories;
          rounds = round_of p calls ∷ rest.rounds;
          are = λ records told next e. (subst (λ w. IsPortRound s.workers seen p.journal w (round_of p calls)) (jobs_are s records told first next n seen.number jobs e) (is_round s.workers seen h calls (jobs_with s first jobs n seen.number) p here (done ∙ its)), rest.are records told next e);
          gone = (here.goes, done, rest.gone);
          told = ap₂ (λ x y. x ∷ y) (told_so s.workers seen h calls p here) rest.told;
          right = (here.goes.right, rest.right);
          begin = ((entries_of calls, sym here.goes.grown), rest.begin);
          before = ap₂ (λ x y. x ∷ y) here.before_is rest.before;
          after = ap (λ w. length p.journal ∷ w) rest.after;
          stand = (stands_next s.workers seen h calls p here, rest.stand);
          counts = (tells.counted_so, rest.counts);
          text = ap₂ (λ x y. x ++ y) (port_says p calls tells) rest.text;
          short = ap₂ (λ a b. a || b) (port_short p calls tells) rest.short;
          pass = ap₂ (λ a b. a + b) (ap (λ t. t.pass) here.tally ∙ port_total passed s.workers seen h calls p few here) rest.pass;
          drop = ap₂ (λ a b. a + b) (ap (λ t. t.drop) here.tally ∙ port_total dropped s.workers seen h calls p few here) rest.drop;
          size = ap₂ (λ a b. a + b) (ap (λ t. t.bytes) here.tally ∙ port_total size_of s.workers seen h calls p few here) rest.size;
        }
all_end s first jobs cs n [] [] (p ∷ ps) few d g = absurd g
all_end s first jobs cs n [] (h ∷ hs) ps few d g = absurd g
all_end s first jobs cs n (seen ∷ ss) [] ps few d g = absurd g
all_end s first jobs cs n (seen ∷ ss) (h ∷ hs) [] few d g = absurd g
