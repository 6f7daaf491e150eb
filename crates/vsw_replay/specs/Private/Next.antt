-- The next round, as it is read: nothing is said of rounds that were run or put.
use Rattle.std.specs.Prelude.{◌≡◌, ◌<◌, ℕ, List, ◌++◌, length, Result, Ok, Err}
use Rattle.vsw_base.specs.declared.fault.NoMemory.{NoMemory}
use Rattle.vsw_commandfile.specs.declared.line.Line.{Line}
use Rattle.vsw_host.specs.Outside.{Outside}
use Rattle.vsw_host.specs.Source.{IsReading}
use Rattle.vsw_pcap.specs.declared.capture.Record.{Record}
use Rattle.vsw_reading.specs.Passed.{IsPassed}
use Rattle.vsw_reading.specs.Reads.{IsRead}
use Rattle.vsw_reading.specs.declared.reading.Reading.{Reading}
use Rattle.vsw_replay.specs.Private.Cut.{IsNextCut}
use Rattle.vsw_replay.specs.Private.Going.{IsAsLong, ShowsStop}
use Rattle.vsw_replay.specs.declared.trace.Stretch.{Stretch}

-- the reading with another batch
abbrev pub in_batch : Reading → List Record → Reading
in_batch r batch = record { source = r.source; reader = r.reader; batch = batch; seen = r.seen }

-- these records were read before, and those of the round that begins behind them are in the batch
pub record IsReadUpTo (commands : List Line) (start now : Outside) (name : List ℕ) (r : Reading) (given : List Record) (t : Stretch) : Type 0 where
  pub bytes : List ℕ
  pub reading : IsReading start now name r.source.file bytes
  pub passed : IsPassed bytes (given ++ r.batch)
  pub next : IsNextCut commands t.first t.next
  pub long : IsAsLong t.stop t.next (length (given ++ r.batch))
  pub shows : ShowsStop start now name r bytes (given ++ r.batch) t.stop

-- these records were read before, and there was no memory for those behind them
pub record IsReadShort (start now : Outside) (name : List ℕ) (r : Reading) (given : List Record) : Type 0 where
  pub bytes : List ℕ
  pub reading : IsReading start now name r.source.file bytes
  pub passed : IsPassed bytes given

abbrev pub ReadsOn : List Line → Outside → Outside → List ℕ → Reading → List Record → Result Stretch NoMemory → Type 0
ReadsOn commands start now name r given (Ok t) = IsReadUpTo commands start now name r given t
ReadsOn commands start now name r given (Err e) = IsReadShort start now name r given

-- the round that begins with this packet, which is not the first, is read, whatever was read before it
abbrev pub ReadsFrom : List Line → ℕ → Outside → Reading → Outside → Reading → Result Stretch NoMemory → Type 0
ReadsFrom commands first before old after new r = (start : Outside) (name : List ℕ) (bytes : List ℕ) (given : List Record) → IsRead start before name old bytes given → 0 < length given → length given ≡ first
    → ReadsOn commands start after name new given r
