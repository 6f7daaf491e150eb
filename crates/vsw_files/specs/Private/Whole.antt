-- What is found in a trace that is read as a whole.
use Rattle.std.specs.Prelude.{◌≡◌, ◌<◌, ◌≤◌, ℕ, List, [], length, Some, Result, Ok, Err}
use Rattle.std.specs.Bool.{⊤}
use Rattle.vsw_base.specs.declared.fault.NoMemory.{NoMemory}
use Rattle.vsw_files.specs.Opened.{OpensFew, OpensOne}
use Rattle.vsw_host.specs.Outside.{Opened, Outside, Rose, SameOutputs}
use Rattle.vsw_pcap.specs.Capture.{IsCapture, Stops}
use Rattle.vsw_pcap.specs.declared.capture.Front.{Front}
use Rattle.vsw_pcap.specs.declared.capture.Record.{Record}
use Rattle.vsw_reading.specs.Reads.{IsRead, StopsSo}
use Rattle.vsw_reading.specs.declared.reading.Reading.{Reading}
use Rattle.vsw_reading.specs.declared.reading.Stop.{Stop}
use Rattle.vsw_reading.specs.declared.reading.Stop.TheVariants as stop
use Rattle.vsw_run.specs.Checks.{IsTrace}
use Rattle.vsw_run.specs.Trace.{most_records}
use Rattle.vsw_run.specs.declared.ending.Ending.{Ending}
use Rattle.vsw_run.specs.declared.ending.Ending.TheVariants as ending

-- this is so of the trace, whenever it was opened, if nothing was read of it
abbrev pub IfUnread : Outside → Reading → (Outside → List ℕ → Type 0) → Type 0
IfUnread now r says = (start : Outside) (name : List ℕ) → IsRead start now name r [] [] → says start name

-- or if it was read up to as many records as a trace may have, and the reading stopped so
abbrev pub IfStopped : Outside → Reading → Stop → (Outside → List ℕ → Type 0) → Type 0
IfStopped now r st says = (start : Outside) (name : List ℕ) → StopsSo start now name r [] most_records st → says start name

-- a byte stands behind as many records as a trace may have
pub record IsOver (f : Opened) (records : List Record) : Type 0 where
  pub at : ℕ
  pub front : Front
  pub stops : Stops f.bytes records at front
  pub more : at < length f.bytes
  pub full : length records ≡ most_records

-- the trace of this name alone was opened, and this holds of it
abbrev pub Finds : Outside → Outside → List ℕ → (Opened → Type 0) → Type 0
Finds old new name P = (f : Opened) × OpensOne old.inputs new.inputs name f × P f

-- behind these records it ended so; `Full` means that a byte follows
abbrev pub EndsSo : Outside → Outside → List ℕ → List Record → Result Stop NoMemory → Type 0
EndsSo old new name records (Ok stop.End) = Finds old new name (λ f. IsTrace name f records)
EndsSo old new name records (Ok stop.Full) = Finds old new name (λ f. IsOver f records)
EndsSo old new name records (Ok stop.Fault) = Finds old new name (λ f. Rose old.input_faults new.input_faults)
EndsSo old new name records (Ok (stop.Bad bad)) = Finds old new name (λ f. IsCapture f.bytes records (Some bad) × (length records < most_records))
EndsSo old new name records (Err e) = Finds old new name (λ f. Unit {0})

-- why the run goes no further, if it doesn't
abbrev pub ReadsWhole : Outside → Outside → List ℕ → List Record → Result ⊤ Ending → Type 0
ReadsWhole old new name records (Ok u) = Finds old new name (λ f. IsTrace name f records)
ReadsWhole old new name records (Err ending.Records) = Finds old new name (λ f. IsOver f records)
ReadsWhole old new name records (Err ending.ReadFault) = Finds old new name (λ f. Rose old.input_faults new.input_faults)
ReadsWhole old new name records (Err (ending.Trace bad)) = Finds old new name (λ f. IsCapture f.bytes records (Some bad) × (length records < most_records))
ReadsWhole old new name records (Err ending.Memory) = Finds old new name (λ f. Unit {0})
ReadsWhole old new name records (Err _) = ⊥

-- the same, or the trace couldn't be opened
abbrev pub Traces : Outside → Outside → List ℕ → Result Reading Ending → Type 0
Traces old new name (Ok reading) = Finds old new name (λ f. IsTrace name f reading.batch)
Traces old new name (Err ending.Records) = (records : List Record) × Finds old new name (λ f. IsOver f records)
Traces old new name (Err ending.ReadFault) = Rose old.input_faults new.input_faults × OpensFew old.inputs new.inputs name (λ f. Unit {0})
Traces old new name (Err (ending.Trace bad)) = (records : List Record) × Finds old new name (λ f. IsCapture f.bytes records (Some bad) × (length records < most_records))
Traces old new name (Err ending.Memory) = OpensFew old.inputs new.inputs name (λ f. Unit {0})
Traces old new name (Err _) = ⊥

-- and nothing else was done
pub record OpensTrace (old new : Outside) (name : List ℕ) (result : Result Reading Ending) : Type 0 where
  pub finds : Traces old new name result
  pub outputs : SameOutputs old new
  pub later : old.input_faults ≤ new.input_faults
