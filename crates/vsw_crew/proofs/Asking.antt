-- The beginning of a round.
use Rattle.std.proofs.Common.{◌≡◌, ℕ, zero, suc, ◌+◌, ◌==◌, Bool, true, List, [], ◌∷◌, ◌++◌, length, map, take, drop, ap, sym, ◌∙◌, subst, arith}
use Rattle.vsw_harbour.specs.Lane.{Lane}
use Rattle.vsw_commandfile.specs.declared.line.Line.{Line}
use Rattle.vsw_harbour.specs.Turns.{PlacedTurns, placed_before}
use Rattle.vsw_harbour.proofs.Turns.{journals_end, turns_join}
use Rattle.vsw_harbour.specs.Seen.{StationSeen}
use Rattle.vsw_harbour.specs.Harbour.{HarbourSeen, IsHarbour, IsOfRun, asks_of, callers}
use Rattle.vsw_harbour.specs.Meeting.{AllMeet}
use Rattle.vsw_harbour.specs.Standing.{IsWhole, RowsStand, no_calls}
use Rattle.vsw_harbour.specs.Steps.{AreAt, Did, MayGo, Turned}
use Rattle.vsw_harbour.proofs.Turning.{no_places, round_turned}
use Rattle.vsw_harbour.proofs.Likes.{journals_like}
use Rattle.vsw_port.specs.Calls.{Call}
use Rattle.vsw_port.specs.declared.event.Event.{Event}
use Rattle.vsw_harbour.specs.Rounds.{AreJournals}
use Rattle.vsw_history_law.proofs.Callers.{eqb_is}
use Rattle.vsw_report.specs.Line.{TextLine}
use Rattle.vsw_policy.specs.Sound.{Each}
use Rattle.vsw_promise.specs.Ports.{ports_of}
use Rattle.vsw_promise.specs.Jobs.{Setting}
use Rattle.vsw_many.specs.Dealing.{numbers_of}
use Rattle.vsw_promise.specs.Schedule.{commands_at}
use Rattle.vsw_crew.specs.Crew.{AreReady}
use Rattle.vsw_crew.specs.Private.Round.{HasAsked, HasBegun}
use Rattle.vsw_crew.specs.Private.Rows.{cleared, lines_of}
use Rattle.vsw_crew.proofs.Idle.{workers_idle}
use Rattle.vsw_crew.proofs.Quiet.{no_docks, none_first, quiet_placed, same_first}
use Rattle.vsw_crew.proofs.Meets.{all_met, only_met}
use Rattle.vsw_crew.proofs.Taking.{each_behind, left_many, rows_behind, rows_left, rows_told}

-- ---- all meet, and the commands are asked

pub may_begin : (h : HarbourSeen) (needs : List ℕ) (hs : List (List Event)) (ls ms : List (List (Lane StationSeen))) → needs ≡ asks_of h → AreReady h hs ls → AllMeet h.docks needs ls ms → MayGo h (asks_of h) ms
may_begin h needs hs ls ms e r m =
    let a = all_met h needs hs (no_calls h.docks) ls ms r.size r.stand m in
    subst (λ (w : List ℕ). MayGo h w ms) e (record { histories = a.histories; calls = no_calls h.docks; size = a.size; stand = a.stand; may = a.may })

-- what asking in turn leaves of rows that stood somewhere
abbrev pub AskedSo : HarbourSeen → List Line → ℕ → List (List (Lane StationSeen)) → List (List (Lane StationSeen)) → Type 0
AskedSo h lines first rows met = (s : Setting) (hs : List (List Event)) (calls : List (List Call)) → s.commands ≡ lines → IsOfRun h s → AreJournals (callers h) (ports_of s.policy) hs hs → RowsStand 0 h.docks hs calls rows
    → Turned h s hs calls (placed_before (numbers_of s.policy) s.commands first) met

pub has_asked : (h : HarbourSeen) (numbers macs listed asks needs : List ℕ) (lines : List Line) (first : ℕ) (ls ms rs : List (List (Lane StationSeen))) → IsHarbour h numbers macs listed asks → AllMeet h.docks needs ls ms → AskedSo h lines first ms rs → MayGo h (asks_of h) rs
    → (s : Setting) (hs : List (List Event)) → IsOfRun h s → s.commands ≡ lines → AreReady h hs ls → HasAsked h s hs first rs
has_asked h numbers macs listed asks needs lines first ls ms rs i m asked may s hs run same r =
    let ps = ports_of s.policy in
    let before = placed_before (numbers_of s.policy) s.commands first in
    let d : Did h hs (no_calls h.docks) [] ms = only_met h numbers macs listed asks needs hs (no_calls h.docks) ls ms i r.size r.stand m in
    let a = all_met h needs hs (no_calls h.docks) ls ms r.size r.stand m in
    let stand : RowsStand 0 h.docks d.histories (no_calls h.docks) ms = same_first h a.histories (no_calls h.docks) ms a.size a.stand d in
    let journals : AreJournals (callers h) ps hs d.histories = journals_like (callers h) ps h.docks hs d.histories run.ports d.journals in
    let u : Turned h s d.histories (no_calls h.docks) before rs = asked s d.histories (no_calls h.docks) same run (journals_end (callers h) ps hs d.histories journals) stand in
    record {
      middles = u.histories;
      calls = u.more;
      turns = subst (PlacedTurns 0 ps before hs u.histories) (none_first 0 ps before d.histories u.histories u.more u.turns)
          (turns_join 0 ps [] before hs d.histories u.histories (map (λ p. []) ps) u.more (quiet_placed h s hs (no_calls h.docks) ms run d) u.turns);
      size = may.size;
      stand = subst (λ w. RowsStand 0 h.docks u.histories w rs) (no_docks 0 ps h.docks before d.histories u.histories u.more run.ports u.turns) u.stand;
    }

-- ---- no command is asked

-- where no command names the round's first packet, all stand as they did
pub none_asked : (h : HarbourSeen) (lines : List Line) (first : ℕ) (places : List ℕ) (none : Bool) (rows : List (List (Lane StationSeen))) → none ≡ (length places == 0) → none ≡ true → AreAt lines places (commands_at first lines)
    → (s : Setting) (hs : List (List Event)) → IsOfRun h s → s.commands ≡ lines → AreReady h hs rows → HasAsked h s hs first rows
none_asked h lines first places none rows is so at s hs run same r =
    let e : length places ≡ 0 = eqb_is (length places) 0 (sym is ∙ so) in
    let ps = ports_of s.policy in
    let before = placed_before (numbers_of s.policy) s.commands first in
    let journals : AreJournals (callers h) ps hs hs = journals_like (callers h) ps h.docks hs hs run.ports r.journals in
    let u : Turned h s hs (no_calls h.docks) before rows = round_turned h lines first places rows rows at (no_places h lines places rows e) s hs (no_calls h.docks) same run journals r.stand in
    record {
      middles = u.histories;
      calls = u.more;
      turns = u.turns;
      size = r.size;
      stand = subst (λ w. RowsStand 0 h.docks u.histories w rows) (no_docks 0 ps h.docks before hs u.histories u.more run.ports u.turns) u.stand;
    }

-- ---- the controllers' lines are taken

behind_many : {A : Type 0} (n m : ℕ) (xs : List A) → length xs ≡ n + m → length (drop n xs) ≡ m
behind_many zero m [] e = omega (arith, e)
behind_many zero m (x ∷ xs) e = omega (arith, e)
behind_many (suc n) m [] e = omega (arith, e)
behind_many (suc n) m (x ∷ xs) e = behind_many n m xs (omega (arith, e))

pub has_begun : (h : HarbourSeen) (numbers macs listed asks : List ℕ) (s : Setting) (hs : List (List Event)) (first : ℕ) (firsts : List (List (List TextLine))) (ms rs : List (List (Lane StationSeen))) → IsHarbour h numbers macs listed asks → HasAsked h s hs first ms → Each IsWhole ms
    → firsts ≡ map lines_of (drop 16 ms) → rs ≡ take 16 ms ++ map cleared (drop 16 ms) → HasBegun h s hs first firsts rs
has_begun h numbers macs listed asks s hs first firsts ms rs i a whole lines left =
    let behind : RowsStand (0 + 16) h.docks a.middles a.calls (drop 16 ms) = rows_behind 16 0 h.docks a.middles a.calls ms a.stand in
    let rest : RowsStand 0 h.docks a.middles (no_calls h.docks) (take 16 ms ++ map cleared (drop 16 ms)) =
    rows_left h.controllers 16 0 h.docks a.middles a.calls ms i.controllers_are (λ j lt. workers_idle h.controllers (numbers_of s.policy) s.commands first j (ports_of s.policy) hs a.middles a.calls a.turns (omega (arith, lt))) a.stand in
    record {
      middles = a.middles;
      calls = a.calls;
      turns = a.turns;
      size = ap length left ∙ (left_many 16 ms ∙ a.size);
      stand = subst (RowsStand 0 h.docks a.middles (no_calls h.docks)) (sym left) rest;
      lines = lines ∙ rows_told h.controllers 16 (length h.controllers) h.docks a.middles a.calls (drop 16 ms) i.controllers_are (behind_many 16 (length h.controllers) ms a.size) behind (each_behind IsWhole 16 ms whole);
    }
