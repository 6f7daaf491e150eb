-- The end of a run behind its trace.
use Rattle.std.proofs.Common.{◌≡◌, ◌<◌, inl, inr, ◌+◌, ℕ, Bool, true, false, Some, None, List, length, ◌∙◌, ap, subst, arith}
use Rattle.vsw_commandfile.specs.declared.line.Line.{Line}
use Rattle.vsw_host.specs.Outside.{Outside}
use Rattle.vsw_promise.specs.Jobs.{Setting}
use Rattle.vsw_run.specs.Trace.{All}
use Rattle.vsw_run.specs.declared.ending.Ending.TheVariants as ending
use Rattle.vsw_report.specs.Print.{report_text}
use Rattle.vsw_promise.specs.Schedule.{next_at}
use Rattle.vsw_crew.specs.Switch.{SwitchNow}
use Rattle.vsw_replay.specs.declared.ending.TraceEnd.TheVariants as end
use Rattle.vsw_replay.specs.Private.Going.{IsPast, clean_of}
use Rattle.vsw_replay.specs.Runs.{RunsTrace}
use Rattle.vsw_replay.specs.Private.SoFar.{AreSoFar}
use Rattle.vsw_replay.proofs.Completing.{all_tells}
use Rattle.vsw_replay.proofs.Cuts.{until_last, next_some}
use Rattle.vsw_run.proofs.ReadTo.{read_to, reads_whole}
use Rattle.vsw_replay.proofs.Sources.{runs_so, ends_so}

past_clean : (s : Setting) (start now : Outside) (name : List ℕ) (short : Bool) (switch : SwitchNow) (first : ℕ) → next_at (first + 1) s.commands ≡ None → IsPast s start now name short switch first → RunsTrace s start now name (clean_of short)
past_clean s start now name true switch first e f =
    let so = subst (λ c. AreSoFar s f.records c f.rounds f.histories) (until_last s.commands first (length f.records) e f.behind) f.so in
    runs_so s start now name end.Memory f.since f.later (inr (inl (ends_so s start now name ending.Memory (read_to All f.bytes) (report_text f.rounds) (reads_whole start now name f.bytes f.whole) (all_tells s f.bytes f.records f.rounds f.histories true f.capture f.few so f.short_is) f.puts)))
past_clean s start now name false switch first e f =
    let so = subst (λ c. AreSoFar s f.records c f.rounds f.histories) (until_last s.commands first (length f.records) e f.behind) f.so in
    runs_so s start now name end.Done f.since f.later (inr (ends_so s start now name ending.Done (read_to All f.bytes) (report_text f.rounds) (reads_whole start now name f.bytes f.whole) (all_tells s f.bytes f.records f.rounds f.histories false f.capture f.few so f.short_is) f.puts))

-- no command names a further packet
pub past_ends : (s : Setting) (start now : Outside) (name : List ℕ) (lines : List Line) (short : Bool) (switch : SwitchNow) (first : ℕ) → s.commands ≡ lines → next_at (first + 1) lines ≡ None → IsPast s start now name short switch first → RunsTrace s start now name (clean_of short)
past_ends s start now name lines short switch first same none f = past_clean s start now name short switch first (ap (λ ls. next_at (first + 1) ls) same ∙ none) f

-- each further packet is a greater one
pub past_rises : (lines : List Line) (first next : ℕ) → next_at (first + 1) lines ≡ Some next → first < next
past_rises lines first next e = let n = next_some lines (first + 1) next e in omega (arith, n.from)
