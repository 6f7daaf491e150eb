-- The workers' shares come back.
use Rattle.std.proofs.Common.{◌≡◌, ℕ, ◌+◌, List, length, drop, ap, sym, ◌∙◌, subst, arith, Global, Vec, true}
use Rattle.vsw_hands.specs.Hands.{AllDone}
use Rattle.vsw_commandfile.specs.declared.line.Line.{Line}
use Rattle.vsw_harbour.specs.Lane.{Lane}
use Rattle.vsw_harbour.specs.HarbourOpening.{rows_in}
use Rattle.vsw_harbour.specs.Seen.{StationSeen}
use Rattle.vsw_harbour.specs.Harbour.{HarbourSeen, IsHarbour, IsOfRun, asks_of, callers}
use Rattle.vsw_harbour.specs.Meeting.{AllMeet, AreLanesAt}
use Rattle.vsw_harbour.specs.Standing.{RowsStand, no_calls}
use Rattle.vsw_harbour.specs.Working.{RowsWork}
use Rattle.vsw_harbour.proofs.Asking.{rows_at}
use Rattle.vsw_harbour.proofs.Held.{as_many}
use Rattle.vsw_history_law.specs.Law.{AreServed}
use Rattle.vsw_port.specs.Order.{numbered}
use Rattle.vsw_port.specs.declared.event.Event.{Event}
use Rattle.vsw_pcap.specs.declared.capture.Record.{Record}
use Rattle.vsw_policy.specs.Sound.{Each, are_distinct}
use Rattle.vsw_promise.specs.Jobs.{Setting, loose_among}
use Rattle.vsw_many.specs.Dealing.{numbers_of}
use Rattle.vsw_crew.specs.Private.Round.{DidBeside, HasWorked, jobs_here}
use Rattle.vsw_crew.specs.Private.Shifting.{ArePut}
use Rattle.vsw_crew.specs.Shares.{DoesShare, ShareSeen}
use Rattle.vsw_crew.specs.Shift.{IsOut, IsUnder}
use Rattle.vsw_crew.specs.declared.share.Carried.{Carried}
use Rattle.vsw_crew.specs.declared.underway.Underway.{Underway}
use Rattle.vsw_crew.proofs.Between.{are_asked}
use Rattle.vsw_crew.proofs.Joining.{is_with, jobs_are, macs_are, numbers_are, run_with, worked}
use Rattle.vsw_crew.proofs.Meets.{met_many, worked_met}
use Rattle.vsw_crew.proofs.Sharing.{HaveNone, all_work, put_many}

-- what came back, and where it was put
pub record IsBack (u : Underway) (out : List ShareSeen) (rows : List (Vec (Lane StationSeen) Global)) : Type 0 where
  pub tolds : List Carried
  pub done : AllDone DoesShare out tolds
  pub put : ArePut tolds u.rows.items rows

back_works : (h : HarbourSeen) (s : Setting) (hs : List (List Event)) (lines : List Line) (first : ℕ) (packets : List Record) (u : Underway) (out : List ShareSeen) (rows : List (Vec (Lane StationSeen) Global)) → length out ≡ h.workers → (v : IsUnder h s hs lines first packets u out) → IsBack u out rows
    → RowsWork h.controllers 0 h.docks v.quiet.histories (no_calls h.docks) (jobs_here h lines first packets) (rows_in rows)
back_works h s hs lines first packets u out rows many v b =
    let here : h.workers ≡ 0 + length out = sym many ∙ omega arith in
    let none : HaveNone h.controllers (0 + length out) (jobs_here h lines first packets) = subst (λ (n : ℕ). HaveNone h.controllers n (jobs_here h lines first packets)) here v.idle_jobs in
    let one : RowsStand (0 + length out) h.docks v.quiet.histories (no_calls h.docks) (rows_in (drop h.workers u.rows.items)) = subst (λ (n : ℕ). RowsStand n h.docks v.quiet.histories (no_calls h.docks) (rows_in (drop h.workers u.rows.items))) here v.idle in
    let two : RowsStand (0 + length out) h.docks v.quiet.histories (no_calls h.docks) (rows_in (drop (length out) u.rows.items)) = subst (λ (n : ℕ). RowsStand (0 + length out) h.docks v.quiet.histories (no_calls h.docks) (rows_in (drop n u.rows.items))) (sym many) one in
    all_work 0 h lines v.quiet.histories first packets out b.tolds u.rows.items rows v.shares b.done b.put none two

-- before they meet
pub record MayMeet (h : HarbourSeen) (rows : List (Vec (Lane StationSeen) Global)) : Type 0 where
  pub lanes : Each (AreLanesAt h.docks) (rows_in rows)
  pub size : length (rows_in rows) ≡ callers h

pub back_meet : (h : HarbourSeen) (hs : List (List Event)) (lines : List Line) (first : ℕ) (packets : List Record) (u : Underway) (out : List ShareSeen) (rows : List (Vec (Lane StationSeen) Global)) → IsOut (record { harbour = h; histories = hs }) lines first packets u out → IsBack u out rows → MayMeet h rows
back_meet h hs lines first packets u out rows o b =
    let w = is_with h lines o.run.run o.run.is in
    let v = o.under (run_with lines o.run.run) w.0 w.1 in
    record {
      lanes = rows_at h.controllers 0 h.docks v.quiet.histories (no_calls h.docks) (jobs_here h lines first packets) (rows_in rows) (back_works h (run_with lines o.run.run) hs lines first packets u out rows o.workers v b);
      size = as_many rows ∙ (put_many b.tolds u.rows.items rows b.put ∙ o.size);
    }

pub back_worked : (h : HarbourSeen) (numbers macs listed asks : List ℕ) (hs : List (List Event)) (lines : List Line) (first : ℕ) (packets : List Record) (u : Underway) (out : List ShareSeen) (rows mets : List (Vec (Lane StationSeen) Global)) → IsHarbour h numbers macs listed asks → IsOut (record { harbour = h; histories = hs }) lines first packets u out → IsBack u out rows
    → AllMeet h.docks (asks_of h) (rows_in rows) (rows_in mets) → (s : Setting) → IsOfRun h s → s.commands ≡ lines → HasWorked h s hs first packets u.befores.items u.firsts.items u.loose.items (rows_in mets)
back_worked h numbers macs listed asks hs lines first packets u out rows mets i o b met s run same =
    let v = o.under s run same in
    let m = back_meet h hs lines first packets u out rows o b in
    let works = back_works h s hs lines first packets u out rows o.workers v b in
    let served : AreServed s = record { least = omega (arith, run.workers, i.more); most = omega (arith, run.workers, i.most); asked = are_asked h s lines run same o.may } in
    let apart : are_distinct (numbers_of s.policy) ≡ true = ap are_distinct (sym (numbers_are h s run)) ∙ (ap are_distinct (sym i.numbers_are) ∙ i.apart) in
    let beside : DidBeside h v.begun.middles (jobs_here h lines first packets) (rows_in mets) = record {
      met = v.met;
      quiet = v.quiet;
      did = worked_met h numbers macs listed asks (asks_of h) v.quiet.histories (no_calls h.docks) (jobs_here h lines first packets) (rows_in rows) (rows_in mets) i m.size works met;
      size = met_many (asks_of h) met.helds (rows_in rows) (rows_in mets) met.meet ∙ m.size;
    } in
    worked h s hs first packets (jobs_here h lines first packets) u.befores.items u.firsts.items u.loose.items v.rows (rows_in mets) run served apart (jobs_are h s lines first packets run same) v.befores (v.loose ∙ ap (λ ms. loose_among ms (numbered first packets)) (macs_are h s run)) v.begun beside

-- as calls gave them
pub is_back : (u : Underway) (out : List ShareSeen) (tolds slice : List Carried) (olds rows : List (Vec (Lane StationSeen) Global)) → slice ≡ tolds → olds ≡ u.rows.items → AllDone DoesShare out tolds → ArePut slice olds rows → IsBack u out rows
is_back u out tolds slice olds rows t r done put = record {
  tolds = tolds;
  done = done;
  put = subst (λ (w : List Carried). ArePut w u.rows.items rows) t (subst (λ (w : List (Vec (Lane StationSeen) Global)). ArePut slice w rows) r put);
}
