-- A round as run is a round as promised.
use Rattle.std.proofs.Common.{◌≡◌, ℕ, suc, Bool, true, false, not, List, [], ◌∷◌, ◌++◌, length, map, filter, slice_get, Some, Result, Ok, Err, OnOk, IfOk, codes, decimal, refl, ap, ap₂, sym, ◌∙◌, subst, append_assoc}
use Rattle.std.proofs.lemmas.List.{length-map}
use Rattle.std.specs.List.{flat_map, list_any}
use Rattle.vsw_base.specs.declared.fault.NoMemory.{NoMemory}
use Rattle.vsw_commandfile.specs.declared.line.Line.{Line}
use Rattle.vsw_port.specs.declared.event.Event.{Event}
use Rattle.vsw_hairpin.specs.Handing.{AreGone, HaveHanded, locals_of, with_hops}
use Rattle.vsw_hairpin.specs.Law.{TurnsHandOn, own_jobs}
use Rattle.vsw_history_law.specs.Plain.{IsAsk}
use Rattle.vsw_port.specs.Order.{numbered}
use Rattle.vsw_port.proofs.Calls.{each_append}
use Rattle.vsw_pcap.specs.declared.capture.Record.{Record}
use Rattle.vsw_policy.specs.Sound.{Each, are_distinct}
use Rattle.vsw_promise.specs.Ports.{PortSeen, ports_of}
use Rattle.vsw_promise.specs.Jobs.{Placed, Setting, loose_among, macs_of, placed_packets}
use Rattle.vsw_promise.specs.Summary.{dropped, in_port, passed, size_of, total}
use Rattle.vsw_report.specs.declared.round.Round.{Round}
use Rattle.vsw_report.specs.Print.{loose_text, round_text}
use Rattle.vsw_promise.specs.Schedule.{commands_at}
use Rattle.vsw_switch.specs.Close.{AreCounted, begun, is_short_now, last_of, next_round, round_now}
use Rattle.vsw_switch.specs.Does.{AreHanded, DoesAll, Hands, HandsOn, Works, job_at, macs_in, numbers_in, placed_line}
use Rattle.vsw_switch.specs.Switch.{AllStandAt, IsAt, PortNow, SwitchNow}
use Rattle.vsw_switch.specs.declared.tally.Tally.{Tally}
use Rattle.vsw_switch.specs.Round.{RunsRound, TellsRound}
use Rattle.vsw_switch.specs.Steps.{ForwardsAll, lines_at}
use Rattle.vsw_switch.proofs.Asking.{AsksOf, lines_are}
use Rattle.vsw_switch.proofs.Closing.{AreDealt, Ended, all_end, all_go}
use Rattle.vsw_switch.proofs.Dealing.{StandInPlace, ask_alone, jobs_done, jobs_there, placed_lines, stand_in_place}
use Rattle.vsw_switch.proofs.Handing.{calls_by, handed_before, have_handed}
use Rattle.vsw_switch.proofs.Totals.{total_map}
use Rattle.vsw_switch.proofs.Steps.{each_place, jobs_join, make_join, make_numbers, works_join, works_macs, works_numbers}

-- ---- the work of a round

-- a switch before and after the work of a round: its calls are those of the "before" commands, of the "during" commands, and of the packets, each of which was
-- handed on as its call tells
record DoesRound (s : SwitchNow) (lines : List Line) (first : ℕ) (packets : List (ℕ × Record)) (t : SwitchNow) : Type 0 where
  workers : t.workers ≡ s.workers
  locals : t.locals ≡ s.locals
  hops : List (List Placed)
  does : DoesAll (jobs_done (numbers_in s) lines first (with_hops (placed_packets s.workers false (macs_in s) [] packets) hops)) s.ports t.ports
  handed : AreHanded s.locals does.calls (placed_packets s.workers false (macs_in s) [] packets) hops
  loose_are : t.loose ≡ s.loose ++ loose_among (macs_in s) packets

-- what was asked and forwarded is what is to be done
all_work : (s t u v : SwitchNow) (lines : List Line) (places : List ℕ) (first : ℕ) (packets : List (ℕ × Record)) → map (λ place. slice_get lines place) places ≡ map Some (commands_at first lines)
    → AsksOf false lines s places t → AsksOf true lines t places u → ForwardsAll u packets v → DoesRound s lines first packets v
all_work s t u v lines places first packets at before during forwarded =
    let commands : lines_at lines places ≡ commands_at first lines = lines_are lines (commands_at first lines) places at in
    let numbers = works_numbers s t _ before in
    let firsts : Works s (placed_lines (λ l. not l.during) (numbers_in s) lines first) t = subst (λ ls. Works s (map (placed_line (numbers_in s)) (filter (λ l. not l.during) ls)) t) commands before in
    let seconds : Works t (placed_lines (λ l. l.during) (numbers_in s) lines first) u = subst (λ ns. Works t (placed_lines (λ l. l.during) ns lines first) u) numbers (subst (λ ls. Works t (map (placed_line (numbers_in t)) (filter (λ l. l.during) ls)) u) commands during) in
    let both = works_join s t u (placed_lines (λ l. not l.during) (numbers_in s) lines first) (placed_lines (λ l. l.during) (numbers_in s) lines first) firsts seconds in
    let macs : macs_in u ≡ macs_in s = works_macs s u _ both in
    let thirds : Hands u (placed_packets s.workers false (macs_in s) [] packets) (loose_among (macs_in s) packets) v =
    subst (λ k. Hands u (placed_packets k false (macs_in s) [] packets) (loose_among (macs_in s) packets) v) both.workers (subst (λ ms. Hands u (placed_packets u.workers false ms [] packets) (loose_among ms packets) v) macs forwarded) in
    round_work s t u v lines first packets firsts seconds thirds (subst (λ ms. HandsOn ms (placed_packets s.workers false (macs_in s) [] packets) u.ports v.ports) both.locals thirds.ports)
  where
    round_work : (s t u v : SwitchNow) (lines : List Line) (first : ℕ) (packets : List (ℕ × Record)) → Works s (placed_lines (λ l. not l.during) (numbers_in s) lines first) t → Works t (placed_lines (λ l. l.during) (numbers_in s) lines first) u
        → Hands u (placed_packets s.workers false (macs_in s) [] packets) (loose_among (macs_in s) packets) v → HandsOn s.locals (placed_packets s.workers false (macs_in s) [] packets) u.ports v.ports → DoesRound s lines first packets v
    round_work s t u v lines first packets a b c h =
        let own = placed_packets s.workers false (macs_in s) [] packets in
        let before = placed_lines (λ l. not l.during) (numbers_in s) lines first in
        let during = placed_lines (λ l. l.during) (numbers_in s) lines first in
        record {
          workers = c.workers ∙ (b.workers ∙ a.workers);
          locals = c.locals ∙ (b.locals ∙ a.locals);
          hops = h.hops;
          does = record {
            calls = a.ports.calls ++ (b.ports.calls ++ h.does.calls);
            jobs_are = jobs_join a.ports.calls (b.ports.calls ++ h.does.calls) before (during ++ with_hops own h.hops) a.ports.jobs_are (jobs_join b.ports.calls h.does.calls during (with_hops own h.hops) b.ports.jobs_are h.does.jobs_are);
            make = make_join a.ports.calls (b.ports.calls ++ h.does.calls) s.ports t.ports v.ports a.ports.make (make_join b.ports.calls h.does.calls t.ports u.ports v.ports b.ports.make h.does.make);
          };
          handed = handed_before s.locals a.ports.calls (b.ports.calls ++ h.does.calls) own h.hops (handed_before s.locals b.ports.calls h.does.calls own h.hops h.handed);
          loose_are = c.loose_are ∙ ap (λ ls. ls ++ loose_among (macs_in s) packets) (b.loose_are ∙ a.loose_are);
        }

dealt : (s : Setting) (first : ℕ) (jobs : List Placed) (numbers : List ℕ) (n : ℕ) (ss : List PortSeen) → StandInPlace numbers n (map (λ p. p.number) ss) → AreDealt s first jobs (jobs_done numbers s.commands first jobs) n ss
dealt s first jobs numbers n [] p = tt
dealt s first jobs numbers n (seen ∷ ss) p = (jobs_there numbers s.commands first jobs n seen.number p.0 p.1, dealt s first jobs numbers (suc n) ss p.2)

-- ---- the ports of a run

stand_numbers : (workers : ℕ) (ss : List PortSeen) (hs : List (List Event)) (ps : List PortNow) → AllStandAt workers ss hs ps → map (λ p. p.number) ps ≡ map (λ p. p.number) ss
stand_numbers workers [] [] [] a = refl
stand_numbers workers (s ∷ ss) (h ∷ hs) (p ∷ ps) a = ap₂ (λ x y. x ∷ y) a.0.number (stand_numbers workers ss hs ps a.1)
stand_numbers workers [] [] (p ∷ ps) a = absurd a
stand_numbers workers [] (h ∷ hs) ps a = absurd a
stand_numbers workers (s ∷ ss) [] ps a = absurd a
stand_numbers workers (s ∷ ss) (h ∷ hs) [] a = absurd a

stand_macs : (workers : ℕ) (ss : List PortSeen) (hs : List (List Event)) (ps : List PortNow) → AllStandAt workers ss hs ps → map (λ p. p.mac) ps ≡ map (λ p. p.mac) ss
stand_macs workers [] [] [] a = refl
stand_macs workers (s ∷ ss) (h ∷ hs) (p ∷ ps) a = ap₂ (λ x y. x ∷ y) a.0.mac (stand_macs workers ss hs ps a.1)
stand_macs workers [] [] (p ∷ ps) a = absurd a
stand_macs workers [] (h ∷ hs) ps a = absurd a
stand_macs workers (s ∷ ss) [] ps a = absurd a
stand_macs workers (s ∷ ss) (h ∷ hs) [] a = absurd a

-- the end of a round of these packets, of a switch that stood at these histories
round_ends : (s : Setting) (hs : List (List Event)) (first : ℕ) (packets : List (ℕ × Record)) (a b : SwitchNow) → IsAt s hs a → are_distinct (numbers_in b) ≡ true → (w : DoesRound a s.commands first packets b)
    → Ended s first (with_hops (placed_packets a.workers false (macs_in a) [] packets) w.hops) w.does.calls 0 (ports_of s.policy) hs b.ports
round_ends s hs first packets a b at apart w =
    let ss = ports_of s.policy in
    let jobs = with_hops (placed_packets a.workers false (macs_in a) [] packets) w.hops in
    let numbers : numbers_in a ≡ map (λ p. p.number) ss = stand_numbers s.workers ss hs a.ports at.ports in
    let each = each_place w.does.calls a.ports b.ports w.does.make in
    let stays : numbers_in b ≡ numbers_in a = make_numbers w.does.calls a.ports b.ports w.does.make in
    let places : StandInPlace (numbers_in a) 0 (map (λ p. p.number) ss) = subst (λ ns. StandInPlace (numbers_in a) 0 ns) numbers (stand_in_place (numbers_in a) (ap are_distinct (sym stays) ∙ apart)) in
    let dealt_so : AreDealt s first jobs (map job_at w.does.calls) 0 ss = subst (λ ts. AreDealt s first jobs ts 0 ss) (sym w.does.jobs_are) (dealt s first jobs (numbers_in a) 0 ss places) in
    all_end s first jobs w.does.calls 0 ss hs b.ports at.few dealt_so (all_go s.workers w.does.calls 0 ss hs a.ports b.ports at.few at.ports each)

-- its jobs of packets are those of a round that tells of it
round_hands : TurnsHandOn → (s : Setting) (hs : List (List Event)) (first : ℕ) (packets : List Record) (a b : SwitchNow) → IsAt s hs a → (w : DoesRound a s.commands first (numbered first packets) b)
    → (e : Ended s first (with_hops (placed_packets a.workers false (macs_in a) [] (numbered first packets)) w.hops) w.does.calls 0 (ports_of s.policy) hs b.ports)
    → with_hops (placed_packets a.workers false (macs_in a) [] (numbered first packets)) w.hops ≡ placed_packets s.workers s.local (macs_of s.policy) e.rounds (numbered first packets)
round_hands law s hs first packets a b at w e =
    let ss = ports_of s.policy in
    let macs : macs_in a ≡ macs_of s.policy = stand_macs s.workers ss hs a.ports at.ports in
    let own : placed_packets a.workers false (macs_in a) [] (numbered first packets) ≡ own_jobs s first packets = ap₂ (λ k ms. placed_packets k false ms [] (numbered first packets)) at.workers macs in
    let calls = calls_by 0 ss w.does.calls in
    let asked = placed_lines (λ l. not l.during) (numbers_in a) s.commands first ++ placed_lines (λ l. l.during) (numbers_in a) s.commands first in
    let asks : Each (λ (t : Placed). IsAsk t.1) asked = each_append (λ (t : Placed). IsAsk t.1) (placed_lines (λ l. not l.during) (numbers_in a) s.commands first) (placed_lines (λ l. l.during) (numbers_in a) s.commands first)
    (ask_alone (numbers_in a) (filter (λ l. not l.during) (commands_at first s.commands))) (ask_alone (numbers_in a) (filter (λ l. l.during) (commands_at first s.commands))) in
    let all : map job_at w.does.calls ≡ asked ++ with_hops (own_jobs s first packets) w.hops =
    w.does.jobs_are ∙ (ap (λ js. jobs_done (numbers_in a) s.commands first (with_hops js w.hops)) own
    ∙ sym (append_assoc (placed_lines (λ l. not l.during) (numbers_in a) s.commands first) (placed_lines (λ l. l.during) (numbers_in a) s.commands first) (with_hops (own_jobs s first packets) w.hops))) in
    let gone : AreGone 0 ss (asked ++ with_hops (own_jobs s first packets) w.hops) hs e.histories calls = subst (λ js. AreGone 0 ss js hs e.histories calls) all e.gone in
    let size : length a.ports ≡ length ss = sym (length-map a.ports (λ p. p.mac)) ∙ (ap length macs ∙ length-map ss (λ p. p.mac)) in
    let handed : AreHanded (locals_of s) w.does.calls (own_jobs s first packets) w.hops = subst (λ js. AreHanded (locals_of s) w.does.calls js w.hops) own (subst (λ ms. AreHanded ms w.does.calls (placed_packets a.workers false (macs_in a) [] (numbered first packets)) w.hops) at.locals w.handed) in
    let have : HaveHanded (locals_of s) calls (own_jobs s first packets) w.hops = have_handed (locals_of s) ss w.does.calls a.ports b.ports (own_jobs s first packets) w.hops size w.does.make handed in
    ap (λ js. with_hops js w.hops) own
    ∙ (law s first packets hs e.histories asked w.hops calls at.some at.few asks gone have
    ∙ sym (ap (λ rs. placed_packets s.workers s.local (macs_of s.policy) rs (numbered first packets)) e.told))

-- what the end of a round ensures
pub record Closes (first : ℕ) (b c : SwitchNow) (short : Bool) (old new : List ℕ) : Type 0 where
  pub text : AreCounted b → new ≡ old ++ round_now first b
  pub short_is : AreCounted b → short ≡ list_any is_short_now b.ports
  pub next : AreCounted b → c ≡ next_round b
  pub apart : are_distinct (numbers_in b) ≡ true

-- the tallies of the round that ended are those of the round before the next
last_sum : (f : Tally → ℕ) (ps : List PortNow) (n : ℕ) → total (λ p. f p.tally) ps ≡ n → total (λ p. f p.last) (map begun ps) ≡ n
last_sum f ps n e = total_map (λ p. f p.last) begun ps ∙ e

runs_round : TurnsHandOn → (s : Setting) (hs : List (List Event)) (first : ℕ) (packets : List Record) (a b c : SwitchNow) (short : Bool) (old new : List ℕ) → IsAt s hs a
    → DoesRound a s.commands first (numbered first packets) b → Closes first b c short old new → RunsRound s hs first packets c short old new
runs_round law s hs first packets a b c short old new at w closes =
    let all = numbered first packets in
    let jobs = with_hops (placed_packets a.workers false (macs_in a) [] all) w.hops in
    let e : Ended s first jobs w.does.calls 0 (ports_of s.policy) hs b.ports = round_ends s hs first all a b at closes.apart w in
    let hands : jobs ≡ placed_packets s.workers s.local (macs_of s.policy) e.rounds all = round_hands law s hs first packets a b at w e in
    let macs : macs_in a ≡ macs_of s.policy = stand_macs s.workers (ports_of s.policy) hs a.ports at.ports in
    let loose : b.loose ≡ loose_among (macs_of s.policy) all = w.loose_are ∙ ap₂ (λ x ms. x ++ loose_among ms all) at.loose macs in
    let round : Round = record { first = first; ports = e.rounds; loose = loose_among (macs_of s.policy) all } in
    let text : round_now first b ≡ round_text round = ap₂ (λ t ls. codes "round " ++ decimal first ++ codes "\n" ++ t ++ codes "loose\n" ++ flat_map loose_text ls) e.text loose in
    let stands : IsAt s e.histories (next_round b) = record { workers = w.workers ∙ at.workers; some = at.some; few = at.few; locals = w.locals ∙ at.locals; ports = e.stand; loose = refl } in
    let tells : TellsRound s hs first packets c short old new = record {
      histories = e.histories;
      round = round;
      is_round = λ records next p. record { first_is = refl; loose = ap (loose_among (macs_of s.policy)) (sym p); ports = e.are records e.rounds next (hands ∙ sym (ap (placed_packets s.workers s.local (macs_of s.policy) e.rounds) p)) };
      right = e.right;
      begin = e.begin;
      before = e.before;
      after = e.after;
      at = subst (IsAt s e.histories) (sym (closes.next e.counts)) stands;
      short_is = closes.short_is e.counts ∙ e.short;
      text = closes.text e.counts ∙ ap (λ t. old ++ t) text;
    } in
    record {
      tells = tells;
      tally = ap (λ t. last_of t.ports) (closes.next e.counts) ∙ (λ i. record { pass = last_sum (λ t. t.pass) b.ports (total (in_port passed) e.rounds) e.pass i; drop = last_sum (λ t. t.drop) b.ports (total (in_port dropped) e.rounds) e.drop i; bytes = last_sum (λ t. t.bytes) b.ports (total (in_port size_of) e.rounds) e.size i });
    }

-- whatever the run's setting: its commands are those of the schedule
pub runs : TurnsHandOn → (first : ℕ) (lines : List Line) (places : List ℕ) (packets : List Record) (s t u v w : SwitchNow) (r : Result Bool NoMemory) (old new : List ℕ) → map (λ place. slice_get lines place) places ≡ map Some (commands_at first lines)
    → AsksOf false lines s places t → AsksOf true lines t places u → ForwardsAll u (numbered first packets) v
    → (AreCounted v → OnOk r (new ≡ old ++ round_now first v)) → (AreCounted v → IfOk r (λ short. short ≡ list_any is_short_now v.ports)) → (AreCounted v → OnOk r (w ≡ next_round v)) → OnOk r (are_distinct (numbers_in v) ≡ true)
    → IfOk r (λ short. (set : Setting) (hs : List (List Event)) → set.commands ≡ lines → IsAt set hs s → RunsRound set hs first packets w short old new)
runs law first lines places packets s t u v w (Err e) old new at before during forwarded text short next apart = tt
runs law first lines places packets s t u v w (Ok told) old new at before during forwarded text short next apart = λ set hs is stands.
    let work = all_work s t u v lines places first (numbered first packets) at before during forwarded in
    runs_round law set hs first packets s v w told old new stands (subst (λ ls. DoesRound s ls first (numbered first packets) v) (sym is) work) (record { text = text; short_is = short; next = next; apart = apart })

-- without what the ports tell of its packets
pub tells : (lines : List Line) (first : ℕ) (packets : List Record) (s w : SwitchNow) (r : Result Bool NoMemory) (old new : List ℕ)
    → IfOk r (λ short. (set : Setting) (hs : List (List Event)) → set.commands ≡ lines → IsAt set hs s → RunsRound set hs first packets w short old new)
    → IfOk r (λ short. (set : Setting) (hs : List (List Event)) → set.commands ≡ lines → IsAt set hs s → TellsRound set hs first packets w short old new)
tells lines first packets s w (Err e) old new h = tt
tells lines first packets s w (Ok short) old new h = λ set hs is stands. (h set hs is stands).tells

-- the same where the rooms of the text were taken back before
pub runs_from : (first : ℕ) (lines : List Line) (packets : List Record) (s s1 w : SwitchNow) (r : Result Bool NoMemory) (old old1 new : List ℕ) → s1 ≡ s → old1 ≡ old
    → IfOk r (λ short. (set : Setting) (hs : List (List Event)) → set.commands ≡ lines → IsAt set hs s1 → RunsRound set hs first packets w short old1 new)
    → IfOk r (λ short. (set : Setting) (hs : List (List Event)) → set.commands ≡ lines → IsAt set hs s → RunsRound set hs first packets w short old new)
runs_from first lines packets s s1 w (Err e) old old1 new same text so = tt
runs_from first lines packets s s1 w (Ok told) old old1 new same text so = λ set hs is stands.
    subst (λ (o : List ℕ). RunsRound set hs first packets w told o new) text (so set hs is (subst (λ (x : SwitchNow). IsAt set hs x) (sym same) stands))
