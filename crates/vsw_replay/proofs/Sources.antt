-- What was read and put, as the run goes on.
use Rattle.std.proofs.Common.{◌≤◌, ℕ, Result, List, ◌++◌, length, take, take_all, min, sym, ◌∙◌, subst, arith}
use Rattle.vsw_host.specs.Outside.{Outside, Grows, SameInputs, SameOutputs, DoesPut}
use Rattle.vsw_pcap.specs.declared.capture.Record.{Record}
use Rattle.vsw_promise.specs.Jobs.{Setting}
use Rattle.vsw_run.specs.Trace.{Trace, Fault, Tells}
use Rattle.vsw_run.specs.declared.ending.Ending.{Ending}
use Rattle.vsw_replay.specs.declared.ending.TraceEnd.{TraceEnd}
use Rattle.vsw_reading.specs.declared.reading.Reading.{Reading}
use Rattle.vsw_reading.specs.declared.reading.Stop.{Stop}
use Rattle.vsw_reading.specs.declared.reading.Stop.TheVariants as stop
use Rattle.vsw_replay.specs.Private.Going.{Since, ShowsStop}
use Rattle.vsw_run.specs.ByTrace.{BreaksOff, EndsSo}
use Rattle.vsw_run.specs.Steps.{Reads}
use Rattle.vsw_replay.specs.Runs.{Ends, RunsTrace}
use Rattle.vsw_replay.proofs.Completing.{Follows}
use Rattle.vsw_replay.proofs.Growing.{grows_is, front_more}
use Rattle.vsw_reading.proofs.Staying.{whole_put, read_put, rose_put}

-- ---- what a put changes

pub since_put : (start old now : Outside) (bytes : List ℕ) (r : Result (Unit {0}) _) → Since start old → DoesPut old now bytes r → Since start now
since_put start old now bytes r f d = record { complained = d.complained ∙ f.complained; complain_faults = d.complain_faults ∙ f.complain_faults; puts_later = omega (arith, f.puts_later, d.cause.later) }

pub since_read : (start old now : Outside) → Since start old → SameOutputs old now → Since start now
since_read start old now f d = record { complained = d.complained ∙ f.complained; complain_faults = d.complain_faults ∙ f.complain_faults; puts_later = omega (arith, f.puts_later, d.put_faults) }

pub grows_read : (start old now : Outside) (text : List ℕ) → SameOutputs old now → Grows start.put old.put text → Grows start.put now.put text
grows_read start old now text d g = subst (λ p. Grows start.put p text) (sym d.put) g

pub shows_put : (start old now : Outside) (name : List ℕ) (r : Reading) (bytes : List ℕ) (records : List Record) (s : Stop) → SameInputs old now → ShowsStop start old name r bytes records s → ShowsStop start now name r bytes records s
shows_put start old now name r bytes records stop.Full same h = read_put start old now name r bytes records same h
shows_put start old now name r bytes records stop.End same h = (whole_put start old now name bytes same h.0, h.1, h.2)
shows_put start old now name r bytes records stop.Fault same h = (rose_put start old now same h.0, h.1, h.2)
shows_put start old now name r bytes records (stop.Bad bad) same h = ((λ at e. whole_put start old now name bytes same (h.0 at e)), h.1, h.2)

-- ---- how a run ends

pub runs_so : (s : Setting) (start now : Outside) (name : List ℕ) (e : TraceEnd) → Since start now → start.input_faults ≤ now.input_faults → Ends s start now name e → RunsTrace s start now name e
runs_so s start now name e f later ends = record { ends = ends; complained = f.complained; complain_faults = f.complain_faults; inputs_later = later; puts_later = f.puts_later }

-- a text was put that a run might have put
pub ends_so : (s : Setting) (start now : Outside) (name : List ℕ) (e : Ending) (t : Trace) (text : List ℕ) → Reads start now name t → Tells s t e text → Grows start.put now.put text → EndsSo s (Reads start now name) start now e
ends_so s start now name e t text reads tells puts = record { trace = t; reads = reads; text = text; tells = tells; puts = puts }

-- a front of a front of such a text was put
pub breaks_off : (s : Setting) (start now : Outside) (name : List ℕ) (t : Trace) (front : List ℕ) (n : ℕ) → Reads start now name t → Follows s t front → Grows start.put now.put (take n front) → BreaksOff s (Reads start now name) start now
breaks_off s start now name t front n reads f g = record { trace = t; reads = reads; text = front ++ f.more; tells = f.tells; puts = (min n (length front), front_more start.put now.put front f.more n g) }

-- all of that front was
pub breaks_after : (s : Setting) (start now : Outside) (name : List ℕ) (t : Trace) (front : List ℕ) → Reads start now name t → Follows s t front → Grows start.put now.put front → BreaksOff s (Reads start now name) start now
breaks_after s start now name t front reads f g = breaks_off s start now name t front (length front) reads f (grows_is start.put now.put front (take (length front) front) (sym (take_all (length front) front (omega arith))) g)
