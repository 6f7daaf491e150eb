-- A run in the midst of its batches.
use Rattle.std.specs.Prelude.{◌≡◌, ◌<◌, ◌≤◌, ◌+◌, ◌*◌, ℕ, List, [], ◌++◌, length, nat_lt, if◌then◌else◌, Option, Some, None, Result, Ok, Err, ⊤}
use Rattle.vsw_host.specs.Outside.{Outside, Grows, Rose}
use Rattle.vsw_host.specs.Source.{IsReading}
use Rattle.vsw_host.specs.Told.{ReadsAll}
use Rattle.vsw_offload.specs.declared.port_rows.PortRows.{PortRows}
use Rattle.vsw_pcap.specs.Capture.{IsCapture}
use Rattle.vsw_pcap.specs.declared.capture.Record.{Record}
use Rattle.vsw_pcap.specs.declared.fault.BadTrace.{BadTrace}
use Rattle.vsw_pcap.specs.declared.fault.BadTrace.TheVariants.{NotPcap, Version, LinkType, Cut, Huge}
use Rattle.vsw_reading.specs.Passed.{IsPassed}
use Rattle.vsw_reading.specs.Reads.{IsRead, IsOpen, StopsSo}
use Rattle.vsw_reading.specs.declared.reading.Reading.{Reading}
use Rattle.vsw_reading.specs.declared.reading.Stop.{Stop}
use Rattle.vsw_reading.specs.declared.reading.Stop.TheVariants as stop
use Rattle.vsw_engine.specs.Runs.{AnswersTrace}
use Rattle.vsw_run.specs.ByRows.{Pauses}
use Rattle.vsw_run.specs.Engine.{AreEngineLines, engine_head}
use Rattle.vsw_run.specs.Trace.{most_records}
use Rattle.vsw_run.specs.declared.ending.Ending.{Ending}
use Rattle.vsw_run.specs.declared.ending.Ending.TheVariants as ending

-- nothing was complained since, and the faults of puts only rose
pub record Since (start now : Outside) : Type 0 where
  pub complained : now.complained ≡ start.complained
  pub complain_faults : now.complain_faults ≡ start.complain_faults
  pub puts_later : start.put_faults ≤ now.put_faults

-- the head and the lines of these records were put, and nothing else
pub record IsTold (ports : List PortRows) (start now : Outside) (records : List Record) : Type 0 where
  pub since : Since start now
  pub lines : List ℕ
  pub are : AreEngineLines ports 0 records lines
  pub puts : Grows start.put now.put (engine_head ++ lines)

-- the end alone shows that a record is cut
abbrev pub IsShown : Outside → Outside → List ℕ → List ℕ → BadTrace → Type 0
IsShown start now name bytes bad = (at : ℕ) → bad ≡ Cut at → ReadsAll start.inputs now.inputs name bytes

-- what shows why the reading stopped after all of these records, of which those before the batch are so many
abbrev pub ShowsStop : Outside → Outside → List ℕ → Reading → List ℕ → List Record → ℕ → Stop → Type 0
ShowsStop start now name r bytes all first stop.Full = IsRead start now name r bytes all × (length all ≡ first + 64) × (first + 64 ≤ most_records)
ShowsStop start now name r bytes all first stop.End = ReadsAll start.inputs now.inputs name bytes × IsCapture bytes all None × (length all ≤ most_records)
ShowsStop start now name r bytes all first stop.Fault = Rose start.input_faults now.input_faults × Pauses bytes all
ShowsStop start now name r bytes all first (stop.Bad bad) = IsShown start now name bytes bad × IsCapture bytes all (Some bad) × (length all < most_records)

-- a batch was read, and the lines of these records were put
pub record IsAt (ports : List PortRows) (start now : Outside) (name : List ℕ) (r : Reading) (first : ℕ) (st : Stop) (all told : List Record) : Type 0 where
  pub bytes : List ℕ
  pub reading : IsReading start now name r.source.file bytes
  pub passed : IsPassed bytes all
  pub shows : ShowsStop start now name r bytes all first st
  pub puts : IsTold ports start now told

-- the lines of the records before the batch were put
pub record IsFilled (ports : List PortRows) (start now : Outside) (name : List ℕ) (r : Reading) (first : ℕ) (st : Stop) : Type 0 where
  pub given : List Record
  pub count : length given ≡ first
  pub at : IsAt ports start now name r first st (given ++ r.batch) given

-- and those of the batch
pub record IsPut (ports : List PortRows) (start now : Outside) (name : List ℕ) (r : Reading) (first : ℕ) (st : Stop) : Type 0 where
  pub all : List Record
  pub at : IsAt ports start now name r first st all all

abbrev pub PutsBatch : List PortRows → Outside → Outside → List ℕ → Reading → ℕ → Stop → Result ⊤ Ending → Type 0
PutsBatch ports start now name r first st (Ok u) = IsPut ports start now name r first st
PutsBatch ports start now name r first st (Err e) = AnswersTrace ports start now name e

-- the records before this packet were read, and their lines put
pub record IsBetween (ports : List PortRows) (start now : Outside) (name : List ℕ) (r : Reading) (first : ℕ) : Type 0 where
  pub bytes : List ℕ
  pub given : List Record
  pub read : IsRead start now name r bytes given
  pub some : 0 < length given
  pub count : length given ≡ first
  pub puts : IsTold ports start now given

-- the next batch was read, or the run ended
abbrev pub GoesOn : List PortRows → Outside → Outside → List ℕ → Reading → ℕ → Result Stop Ending → Type 0
GoesOn ports start now name r first (Ok st) = IsFilled ports start now name r first st
GoesOn ports start now name r first (Err e) = AnswersTrace ports start now name e

-- a trace that was opened, and of which nothing was read or put
pub record IsOpened (start now : Outside) (name : List ℕ) (r : Reading) : Type 0 where
  pub since : Since start now
  pub read : IsRead start now name r [] []
  pub batch : r.batch ≡ []
  pub puts : Grows start.put now.put []

-- its first batch was read, and nothing put
pub record IsFirst (start now : Outside) (name : List ℕ) (r : Reading) (st : Stop) : Type 0 where
  pub since : Since start now
  pub stops : StopsSo start now name r [] 64 st
  pub puts : Grows start.put now.put []

-- how a run ends whose first batch stopped before a header was accepted, where so many bytes were read, counted up to 24
abbrev pub unheaded_of : Stop → ℕ → Option Ending
unheaded_of stop.Full seen = None
unheaded_of stop.End seen = None
unheaded_of stop.Fault seen = if nat_lt seen 24 then Some ending.ReadFault else None
unheaded_of (stop.Bad NotPcap) seen = Some (ending.Trace NotPcap)
unheaded_of (stop.Bad Version) seen = Some (ending.Trace Version)
unheaded_of (stop.Bad LinkType) seen = Some (ending.Trace LinkType)
unheaded_of (stop.Bad (Cut at)) seen = None
unheaded_of (stop.Bad (Huge at)) seen = None

-- a full batch is followed by another, for which the trace can be read on
abbrev pub CanRead : Outside → Reading → ℕ → Stop → Type 0
CanRead now r first stop.Full = IsOpen now r × (first + 64 ≤ most_records)
CanRead now r first stop.End = Unit {0}
CanRead now r first stop.Fault = Unit {0}
CanRead now r first (stop.Bad bad) = Unit {0}

-- a batch that was read
pub record IsNear (now : Outside) (r : Reading) (first : ℕ) (st : Stop) : Type 0 where
  pub low : first ≤ most_records
  pub whole : (k : ℕ) × (first ≡ 64 * k)
  pub size : length r.batch ≤ 64
  pub goes : CanRead now r first st

-- ---- what is done, in whichever run it is

-- the lines of the batch that was read are put
abbrev pub PutsFilled : List PortRows → Outside → Reading → ℕ → Stop → Outside → Result ⊤ Ending → Type 0
PutsFilled ports before r first st after end = (start : Outside) (name : List ℕ) → IsFilled ports start before name r first st → PutsBatch ports start after name r first st end

-- the batch that begins with this packet is read, whichever rows answer it, or the run ends
abbrev pub ReadsNext : Outside → Reading → ℕ → Outside → Reading → Result Stop Ending → Type 0
ReadsNext before old first after new end = (ports : List PortRows) (start : Outside) (name : List ℕ) → IsBetween ports start before name old first → GoesOn ports start after name new first end

-- the lines of a batch are put, and the next one is read, or the run ends
abbrev pub GoesFurther : List PortRows → Outside → Reading → ℕ → Stop → Outside → Reading → Result Stop Ending → Type 0
GoesFurther ports before old first st after new end = (start : Outside) (name : List ℕ) → IsFilled ports start before name old first st → GoesOn ports start after name new (first + 64) end

-- a run that stood so goes to its end
abbrev pub AnswersFrom : List PortRows → (Outside → List ℕ → Type 0) → Outside → Ending → Type 0
AnswersFrom ports stood after end = (start : Outside) (name : List ℕ) → stood start name → AnswersTrace ports start after name end
