-- What was read and put, as the run goes on.
use Rattle.std.proofs.Common.{◌≤◌, ℕ, Result, List, ◌++◌, sym, ◌∙◌, subst, arith}
use Rattle.vsw_host.specs.Outside.{Outside, Grows, SameInputs, SameOutputs, DoesPut}
use Rattle.vsw_pcap.specs.declared.capture.Record.{Record}
use Rattle.vsw_offload.specs.declared.port_rows.PortRows.{PortRows}
use Rattle.vsw_reading.specs.declared.reading.Reading.{Reading}
use Rattle.vsw_reading.specs.declared.reading.Stop.{Stop}
use Rattle.vsw_reading.specs.declared.reading.Stop.TheVariants as stop
use Rattle.vsw_reading.proofs.Staying.{open_put, read_put, rose_put, whole_put}
use Rattle.vsw_engine.specs.Private.Going.{IsNear, IsTold, ShowsStop, Since}
use Rattle.vsw_engine.specs.Runs.{AnswersTrace, Ends}
use Rattle.vsw_run.specs.Engine.{engine_head}
use Rattle.vsw_run.specs.Trace.{Fault}
use Rattle.vsw_run.specs.declared.ending.Ending.{Ending}

-- ---- what a put changes, and what a read does

pub since_put : (start old now : Outside) (bytes : List ℕ) (r : Result (Unit {0}) _) → Since start old → DoesPut old now bytes r → Since start now
since_put start old now bytes r f d = record { complained = d.complained ∙ f.complained; complain_faults = d.complain_faults ∙ f.complain_faults; puts_later = omega (arith, f.puts_later, d.cause.later) }

pub since_read : (start old now : Outside) → Since start old → SameOutputs old now → Since start now
since_read start old now f d = record { complained = d.complained ∙ f.complained; complain_faults = d.complain_faults ∙ f.complain_faults; puts_later = omega (arith, f.puts_later, d.put_faults) }

pub grows_read : (start old now : Outside) (text : List ℕ) → SameOutputs old now → Grows start.put old.put text → Grows start.put now.put text
grows_read start old now text d g = subst (λ p. Grows start.put p text) (sym d.put) g

pub told_read : (ports : List PortRows) (start old now : Outside) (records : List Record) → SameOutputs old now → IsTold ports start old records → IsTold ports start now records
told_read ports start old now records d t = record { since = since_read start old now t.since d; lines = t.lines; are = t.are; puts = grows_read start old now (engine_head ++ t.lines) d t.puts }

pub shows_put : (start old now : Outside) (name : List ℕ) (r : Reading) (bytes : List ℕ) (all : List Record) (first : ℕ) (s : Stop) → SameInputs old now → ShowsStop start old name r bytes all first s → ShowsStop start now name r bytes all first s
shows_put start old now name r bytes all first stop.Full same h = (read_put start old now name r bytes all same h.0, h.1, h.2)
shows_put start old now name r bytes all first stop.End same h = (whole_put start old now name bytes same h.0, h.1, h.2)
shows_put start old now name r bytes all first stop.Fault same h = (rose_put start old now same h.0, h.1)
shows_put start old now name r bytes all first (stop.Bad bad) same h = ((λ at e. whole_put start old now name bytes same (h.0 at e)), h.1, h.2)

pub near_put : (old now : Outside) (r : Reading) (first : ℕ) (s : Stop) → SameInputs old now → IsNear old r first s → IsNear now r first s
near_put old now r first stop.Full same h = record { low = h.low; whole = h.whole; size = h.size; goes = (open_put old now r same h.goes.0, h.goes.1) }
near_put old now r first stop.End same h = record { low = h.low; whole = h.whole; size = h.size; goes = tt }
near_put old now r first stop.Fault same h = record { low = h.low; whole = h.whole; size = h.size; goes = tt }
near_put old now r first (stop.Bad bad) same h = record { low = h.low; whole = h.whole; size = h.size; goes = tt }

-- ---- how a run ends

pub answers_so : (ports : List PortRows) (start now : Outside) (name : List ℕ) (e : Ending) → Since start now → start.input_faults ≤ now.input_faults → Ends ports start now name e → AnswersTrace ports start now name e
answers_so ports start now name e f later ends = record { ends = ends; complained = f.complained; complain_faults = f.complain_faults; inputs_later = later; puts_later = f.puts_later }
