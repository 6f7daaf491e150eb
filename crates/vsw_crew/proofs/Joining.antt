-- All parts of a round are what a crew does.
use Rattle.std.proofs.Common.{◌≡◌, ◌<◌, ℕ, suc, true, false, List, [], ◌∷◌, ◌++◌, length, map, refl, ap, ap₂, sym, ◌∙◌, subst, arith, Vec}
use Rattle.vsw_harbour.specs.Lane.{Lane}
use Rattle.vsw_commandfile.specs.declared.line.Line.{Line}
use Rattle.vsw_hairpin.proofs.Laws.{rows_hand_on}
use Rattle.vsw_hairpin.specs.Law.{own_jobs}
use Rattle.vsw_harbour.specs.Crew.{AreTexts, CrewDid, callers_in, crew_texts}
use Rattle.vsw_hairpin.specs.Handing.{AreHandedRows, locals_of, with_hops}
use Rattle.vsw_harbour.specs.Turns.{PlacedTurns, append_each, placed_before}
use Rattle.vsw_harbour.proofs.Turns.{journals_end, turns_join}
use Rattle.vsw_harbour.specs.HarbourOpening.{rows_in}
use Rattle.vsw_harbour.specs.Seen.{DockSeen, StationSeen}
use Rattle.vsw_harbour.specs.Harbour.{AreLike, HarbourSeen, IsHarbour, IsOfRun, MayAsk, callers, locals_in, ports_in}
use Rattle.vsw_harbour.specs.Standing.{RowsStand, no_calls}
use Rattle.vsw_harbour.proofs.Likes.{calls_like, journals_like, macs_like, numbers_like, worked_like}
use Rattle.vsw_port.specs.Calls.{Call}
use Rattle.vsw_port.specs.Order.{numbered}
use Rattle.vsw_port.specs.declared.event.Event.{Event}
use Rattle.vsw_port.proofs.Fronts.{append_end}
use Rattle.vsw_history_law.specs.Law.{AreServed}
use Rattle.vsw_policy.specs.Sound.{Each, are_distinct}
use Rattle.vsw_harbour.specs.Phases as many
use Rattle.vsw_harbour.specs.Rounds.{AreJournals, calls_by_port, other_columns, ports_told}
use Rattle.vsw_report.specs.Line.{TextLine}
use Rattle.vsw_pcap.specs.declared.capture.Record.{Record}
use Rattle.vsw_promise.specs.Ports.{PortSeen, ports_of}
use Rattle.vsw_promise.specs.Jobs.{Placed, Setting, loose_among, macs_of, placed_packets}
use Rattle.vsw_many.specs.Dealing.{deal, numbers_of, placed_lines}
use Rattle.vsw_report.specs.declared.round.Loose.{Loose}
use Rattle.vsw_report.specs.declared.round.PortRound.{PortRound}
use Rattle.vsw_crew.specs.Crew.{AreReady}
use Rattle.vsw_crew.specs.Private.Round.{DidBeside, HasBegun, HasWorked, jobs_here, macs_in, numbers_in}
use Rattle.vsw_crew.specs.Private.Rows.{first_counts}
use Rattle.vsw_crew.proofs.Between.{are_asked}
use Rattle.vsw_crew.proofs.Quiet.{callers_are, none_last, quiet_placed}
use Rattle.vsw_crew.proofs.Taking.{counts_are}

-- ---- the lines of each port

crew_lines : ℕ → List PortSeen → List (List Call) → List (List Call) → List (List (List TextLine))
crew_lines workers (p ∷ ps) (c ∷ firsts) (d ∷ laters) = crew_texts p.controllers workers c d ∷ crew_lines workers ps firsts laters
crew_lines workers _ _ _ = []

lines_are : (workers place : ℕ) (ps : List PortSeen) (jobs : List Placed) (hs ms : List (List Event)) (firsts : List (List Call)) (rows : List (List many.Lane)) → PlacedTurns place ps jobs hs ms firsts → AreTexts workers ps firsts (calls_by_port ps rows) (crew_lines workers ps firsts (calls_by_port ps rows))
unfolding crew_lines
lines_are workers place [] jobs [] [] [] rows t = tt
lines_are workers place (p ∷ ps) jobs (h ∷ hs) (m ∷ ms) (c ∷ firsts) rows t = (refl, lines_are workers (suc place) ps jobs hs ms firsts (other_columns rows) t.1)
lines_are workers place [] jobs [] [] (c ∷ firsts) rows t = absurd t
lines_are workers place [] jobs [] (m ∷ ms) firsts rows t = absurd t
lines_are workers place [] jobs (h ∷ hs) ms firsts rows t = absurd t
lines_are workers place (p ∷ ps) jobs [] ms firsts rows t = absurd t
lines_are workers place (p ∷ ps) jobs (h ∷ hs) [] firsts rows t = absurd t
lines_are workers place (p ∷ ps) jobs (h ∷ hs) (m ∷ ms) [] rows t = absurd t

-- ---- the same jobs

pub numbers_are : (h : HarbourSeen) (s : Setting) → IsOfRun h s → numbers_in h ≡ numbers_of s.policy
numbers_are h s run = sym (numbers_like (ports_of s.policy) h.docks run.ports)

pub macs_are : (h : HarbourSeen) (s : Setting) → IsOfRun h s → macs_in h ≡ macs_of s.policy
macs_are h s run = sym (macs_like (ports_of s.policy) h.docks run.ports)

pub jobs_are : (h : HarbourSeen) (s : Setting) (lines : List Line) (first : ℕ) (packets : List Record) → IsOfRun h s → s.commands ≡ lines → jobs_here h lines first packets ≡ placed_lines (numbers_of s.policy) s.commands first ++ own_jobs s first packets
jobs_are h s lines first packets run same =
    ap₂ (λ x y. x ++ y) (ap₂ (λ ns ls. placed_lines ns ls first) (numbers_are h s run) (sym same)) (ap₂ (λ n ms. placed_packets n false ms [] (numbered first packets)) (sym run.workers) (macs_are h s run))

-- ---- the ports of the run

handed_like : (macs cs : List ℕ) (jobs : List Placed) (k : ℕ) (ps : List PortSeen) (ds : List DockSeen) (hs gs : List (List Event)) (rows : List (List many.Lane)) (hops : List (List (List Placed))) → AreLike ps ds → AreHandedRows macs cs jobs k (ports_in ds) hs gs rows hops → AreHandedRows macs cs jobs k ps hs gs rows hops
handed_like macs cs jobs k ps ds hs gs [] [] a d = tt
handed_like macs cs jobs k ps ds hs gs (row ∷ rows) (h ∷ hops) a d = (worked_like 0 k ps ds hs gs row (with_hops (deal cs k jobs) h) a d.0, d.1, handed_like macs cs jobs (suc k) ps ds hs gs rows hops a d.2)
handed_like macs cs jobs k ps ds hs gs [] (h ∷ hops) a d = absurd d
handed_like macs cs jobs k ps ds hs gs (row ∷ rows) [] a d = absurd d

handed_done : (h : HarbourSeen) (s : Setting) (jobs : List Placed) (hs gs : List (List Event)) (rows : List (List many.Lane)) (hops : List (List (List Placed))) → IsOfRun h s → AreHandedRows (locals_in h.docks) h.controllers jobs 0 (ports_in h.docks) hs gs rows hops
    → AreHandedRows (locals_of s) s.policy.controllers jobs 0 (ports_of s.policy) hs gs rows hops
handed_done h s jobs hs gs rows hops run d =
    let ps = ports_of s.policy in
    let like : AreHandedRows (locals_in h.docks) h.controllers jobs 0 ps hs gs rows hops = handed_like (locals_in h.docks) h.controllers jobs 0 ps h.docks hs gs rows hops run.ports d in
    let locals : AreHandedRows (locals_of s) h.controllers jobs 0 ps hs gs rows hops = subst (λ (ms : List ℕ). AreHandedRows ms h.controllers jobs 0 ps hs gs rows hops) run.locals like in
    subst (λ (cs : List ℕ). AreHandedRows (locals_of s) cs jobs 0 ps hs gs rows hops) (sym run.controllers) locals

-- ---- a crew's round

none_at_docks : (ds : List DockSeen) (rows : List (List many.Lane)) → append_each (no_calls ds) (calls_by_port (ports_in ds) rows) ≡ calls_by_port (ports_in ds) rows
none_at_docks [] rows = refl
none_at_docks (d ∷ ds) rows = ap₂ (λ x y. x ∷ y) refl (none_at_docks ds (other_columns rows))

crew_did : (h : HarbourSeen) (s : Setting) (hs : List (List Event)) (first : ℕ) (packets : List Record) (jobs : List Placed) (firsts : List (List (List TextLine))) (begun rows : List (List (Lane StationSeen))) → IsOfRun h s → AreServed s → are_distinct (numbers_of s.policy) ≡ true → jobs ≡ placed_lines (numbers_of s.policy) s.commands first ++ own_jobs s first packets
    → (b : HasBegun h s hs first firsts begun) → (d : DidBeside h b.middles jobs rows) → CrewDid s first packets hs d.did.histories (crew_lines s.workers (ports_of s.policy) b.calls (calls_by_port (ports_of s.policy) d.did.rows))
crew_did h s hs first packets jobs firsts begun rows run served apart same b d =
    let ps = ports_of s.policy in
    let before = placed_before (numbers_of s.policy) s.commands first in
    let quiet : PlacedTurns 0 ps [] b.middles d.quiet.histories (map (λ p. []) ps) = quiet_placed h s b.middles (no_calls h.docks) d.met run d.quiet in
    let turns : PlacedTurns 0 ps (before ++ []) hs d.quiet.histories (append_each b.calls (map (λ p. []) ps)) = turns_join 0 ps before [] hs b.middles d.quiet.histories b.calls (map (λ p. []) ps) b.turns quiet in
    let alone : PlacedTurns 0 ps (before ++ []) hs d.quiet.histories b.calls = subst (PlacedTurns 0 ps (before ++ []) hs d.quiet.histories) (none_last 0 ps before hs b.middles b.calls b.turns) turns in
    let done : PlacedTurns 0 ps before hs d.quiet.histories b.calls = subst (λ w. PlacedTurns 0 ps w hs d.quiet.histories b.calls) (append_end before) alone in
    let journals : AreJournals (callers_in s) ps d.quiet.histories d.did.histories = subst (λ n. AreJournals n ps d.quiet.histories d.did.histories) (callers_are h s run) (journals_like (callers h) ps h.docks d.quiet.histories d.did.histories run.ports d.did.journals) in
    let size = d.did.size ∙ callers_are h s run in
    let handed = subst (λ w. AreHandedRows (locals_of s) s.policy.controllers w 0 ps d.quiet.histories d.did.histories d.did.rows d.did.hops) same (handed_done h s jobs d.quiet.histories d.did.histories d.did.rows d.did.hops run d.did.done) in
    let told : List PortRound = ports_told ps hs d.did.histories b.calls (calls_by_port ps d.did.rows) in record {
      middles = d.quiet.histories;
      firsts = b.calls;
      firsts_done = done;
      rows = d.did.rows;
      size = size;
      told = told;
      told_is = refl;
      rows_done = rows_hand_on s first packets hs d.quiet.histories d.did.histories b.calls d.did.rows d.did.hops served apart done journals size handed;
      journals = journals;
      texts_are = lines_are s.workers 0 ps before hs d.quiet.histories b.calls d.did.rows done;
    }

pub worked : (h : HarbourSeen) (s : Setting) (hs : List (List Event)) (first : ℕ) (packets : List Record) (jobs : List Placed) (befores : List ℕ) (firsts : List (List (List TextLine))) (loose : List Loose) (begun rows : List (List (Lane StationSeen))) → IsOfRun h s → AreServed s → are_distinct (numbers_of s.policy) ≡ true
    → jobs ≡ placed_lines (numbers_of s.policy) s.commands first ++ own_jobs s first packets → befores ≡ map length hs → loose ≡ loose_among (macs_of s.policy) (numbered first packets) → (b : HasBegun h s hs first firsts begun) → DidBeside h b.middles jobs rows → HasWorked h s hs first packets befores firsts loose rows
unfolding crew_did
worked h s hs first packets jobs befores firsts loose begun rows run served apart same counts told b d =
    let stand : RowsStand 0 h.docks d.did.histories (calls_by_port (ports_of s.policy) d.did.rows) rows =
    subst (λ w. RowsStand 0 h.docks d.did.histories w rows) (none_at_docks h.docks d.did.rows ∙ sym (calls_like (ports_of s.policy) h.docks d.did.rows run.ports)) d.did.stand in
    record {
      run = run;
      histories = d.did.histories;
      texts = crew_lines s.workers (ports_of s.policy) b.calls (calls_by_port (ports_of s.policy) d.did.rows);
      did = crew_did h s hs first packets jobs firsts begun rows run served apart same b d;
      size = d.size;
      stand = stand;
      journals = journals_end (callers h) (ports_in h.docks) d.quiet.histories d.did.histories d.did.journals;
      befores_are = counts;
      firsts_are = b.lines;
      loose_are = told;
    }

pub has_worked : (h : HarbourSeen) (numbers macs listed asks : List ℕ) (lines : List Line) (first : ℕ) (packets : List Record) (befores : List ℕ) (firsts : List (List (List TextLine))) (loose : List Loose) (old begun rows : List (List (Lane StationSeen))) → IsHarbour h numbers macs listed asks → Each (MayAsk h) lines → befores ≡ first_counts old
    → ((s : Setting) (hs : List (List Event)) → IsOfRun h s → s.commands ≡ lines → AreReady h hs old → HasBegun h s hs first firsts begun) → loose ≡ loose_among (macs_in h) (numbered first packets)
    → ((hs : List (List Event)) → RowsStand 0 h.docks hs (no_calls h.docks) begun → DidBeside h hs (jobs_here h lines first packets) rows)
    → (s : Setting) (hs : List (List Event)) → IsOfRun h s → s.commands ≡ lines → AreReady h hs old → HasWorked h s hs first packets befores firsts loose rows
has_worked h numbers macs listed asks lines first packets befores firsts loose old begun rows i may counts begins told beside s hs run same ready =
    let b = begins s hs run same ready in
    let some : 0 < length old = omega (arith, ready.size) in
    let served : AreServed s = record { least = omega (arith, run.workers, i.more); most = omega (arith, run.workers, i.most); asked = are_asked h s lines run same may } in
    let apart : are_distinct (numbers_of s.policy) ≡ true = ap are_distinct (sym (numbers_are h s run)) ∙ (ap are_distinct (sym i.numbers_are) ∙ i.apart) in
    worked h s hs first packets (jobs_here h lines first packets) befores firsts loose begun rows run served apart (jobs_are h s lines first packets run same) (counts ∙ counts_are 0 h.docks hs (no_calls h.docks) old some ready.stand) (told ∙ ap (λ ms. loose_among ms (numbered first packets)) (macs_are h s run)) b (beside b.middles b.stand)

-- the run with these commands
pub run_with : List Line → Setting → Setting
run_with lines s = record { workers = s.workers; policy = s.policy; commands = lines; local = s.local }

pub is_with : (h : HarbourSeen) (lines : List Line) (s : Setting) → IsOfRun h s → IsOfRun h (run_with lines s) × ((run_with lines s).commands ≡ lines)
unfolding run_with
is_with h lines s run = (record { workers = run.workers; ports = run.ports; controllers = run.controllers; locals = run.locals }, refl)

-- ---- counts and loose packets, as calls gave them

pub counts_back : {G : Type 0} (befores : List ℕ) (rows slice : List (Vec (Lane StationSeen) G)) → slice ≡ rows → befores ≡ first_counts (rows_in slice) → befores ≡ first_counts (rows_in rows)
counts_back {G} befores rows slice e f = subst (λ (w : List (Vec (Lane StationSeen) G)). befores ≡ first_counts (rows_in w)) e f

pub told_back : (more old new : List Loose) → old ≡ [] → new ≡ old ++ more → new ≡ more
told_back more old new e f = f ∙ ap (λ w. w ++ more) e
