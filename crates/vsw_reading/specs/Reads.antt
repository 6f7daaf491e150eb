-- A trace in the midst of being read: what was read of it, which records were found in it, and why the reading stops.
use Rattle.std.specs.Prelude.{◌≡◌, ◌<◌, ℕ, List, [], ◌++◌, length, min, true, Some, None, Result, Ok, Err}
use Rattle.vsw_base.specs.declared.fault.NoMemory.{NoMemory}
use Rattle.vsw_host.specs.Outside.{Outside, Rose}
use Rattle.vsw_host.specs.Source.{IsReading}
use Rattle.vsw_host.specs.Told.{ReadsAll}
use Rattle.vsw_pcap.specs.Capture.{IsCapture}
use Rattle.vsw_pcap.specs.Decides.{Decides}
use Rattle.vsw_pcap.specs.Reader.{Stands, Waits}
use Rattle.vsw_pcap.specs.declared.capture.Record.{Record}
use Rattle.vsw_reading.specs.declared.reading.Reading.{Reading}
use Rattle.vsw_reading.specs.declared.reading.Stop.{Stop}
use Rattle.vsw_reading.specs.declared.reading.Stop.TheVariants as stop

-- these bytes were read of the file of this name and fed to the reader, which gave these records; it was told of the end only at the file's end
pub record IsRead (start now : Outside) (name : List ℕ) (r : Reading) (bytes : List ℕ) (records : List Record) : Type 0 where
  pub reading : IsReading start now name r.source.file bytes
  pub stands : Stands r.reader bytes records
  pub seen : r.seen ≡ min 24 (length bytes)
  pub end : r.reader.finished ≡ true → ReadsAll start.inputs now.inputs name bytes

-- the same, where perhaps the last bytes weren't fed for want of memory
pub record IsBehind (start now : Outside) (name : List ℕ) (r : Reading) (records : List Record) : Type 0 where
  pub bytes : List ℕ
  pub more : List ℕ
  pub reading : IsReading start now name r.source.file (bytes ++ more)
  pub stands : Stands r.reader bytes records

-- why no further record is read, where so many are asked for
abbrev pub Says : Outside → Outside → List ℕ → Reading → List ℕ → List Record → ℕ → Stop → Type 0
Says start now name r bytes records most stop.Full = length r.batch ≡ most
Says start now name r bytes records most stop.End = (length r.batch < most) × ReadsAll start.inputs now.inputs name bytes × IsCapture bytes records None
Says start now name r bytes records most stop.Fault = (length r.batch < most) × Rose start.input_faults now.input_faults × Waits bytes records
Says start now name r bytes records most (stop.Bad bad) = (length r.batch < most) × IsCapture bytes records (Some bad) × Decides bad r.reader.finished (length bytes)

-- behind the records that were given before, the batch holds those that follow
pub record Holds (start now : Outside) (name : List ℕ) (r : Reading) (given : List Record) : Type 0 where
  pub bytes : List ℕ
  pub read : IsRead start now name r bytes (given ++ r.batch)

-- so it is for some records
pub record IsOpen (now : Outside) (r : Reading) : Type 0 where
  pub start : Outside
  pub name : List ℕ
  pub given : List Record
  pub reads : Holds start now name r given

-- and no further one is read for this reason
pub record StopsSo (start now : Outside) (name : List ℕ) (r : Reading) (given : List Record) (most : ℕ) (s : Stop) : Type 0 where
  pub bytes : List ℕ
  pub read : IsRead start now name r bytes (given ++ r.batch)
  pub says : Says start now name r bytes (given ++ r.batch) most s

-- so many records are in the batch, or the reading stopped before; or there was no memory
abbrev pub Fills : Outside → Outside → List ℕ → Reading → List Record → ℕ → Result Stop NoMemory → Type 0
Fills start now name r given most (Ok s) = StopsSo start now name r given most s
Fills start now name r given most (Err e) = IsBehind start now name r (given ++ r.batch)

-- the batch holds what it held, and perhaps more behind it
pub record HasGrown (old new : List Record) : Type 0 where
  pub more : List Record
  pub batch : new ≡ old ++ more

-- nothing is in hand, and so it stops; or a byte follows, in hand or read now and not fed
abbrev pub Peeks : Outside → Outside → List ℕ → Reading → List ℕ → Stop → Type 0
Peeks start now name r bytes stop.Full = (more : List ℕ) × IsReading start now name r.source.file (bytes ++ more) × (0 < length (r.reader.left ++ more))
Peeks start now name r bytes stop.End = (r.reader.left ≡ []) × ReadsAll start.inputs now.inputs name bytes × IsReading start now name r.source.file bytes
Peeks start now name r bytes stop.Fault = (r.reader.left ≡ []) × Rose start.input_faults now.input_faults × IsReading start now name r.source.file bytes
Peeks start now name r bytes (stop.Bad bad) = ⊥
