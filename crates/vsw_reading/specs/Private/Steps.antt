-- A piece more of a trace, or a record more.
use Rattle.std.specs.Prelude.{◌≡◌, ◌<◌, ℕ, ◌+◌, List, [], ◌++◌, length, take, min, Bool, true, false, Option, Some, None, Result, Ok, Err}
use Rattle.vsw_base.specs.declared.fault.NoMemory.{NoMemory}
use Rattle.vsw_host.specs.Outside.{Outside, Rose}
use Rattle.vsw_host.specs.Source.{NextPiece}
use Rattle.vsw_host.specs.declared.host.Failed.{Failed}
use Rattle.vsw_pcap.specs.Progress.{Progress}
use Rattle.vsw_pcap.specs.Reader.{Stands, fed_with}
use Rattle.vsw_pcap.specs.declared.capture.Record.{Record}
use Rattle.vsw_reading.specs.declared.reading.Reading.{Reading}
use Rattle.vsw_reading.specs.declared.reading.Stop.{Stop}
use Rattle.vsw_reading.specs.Reads.{IsRead, IsBehind, Holds, StopsSo}

-- the reader was fed what was read to the front of some room; or the host couldn't read; or there was no room, and nothing was done
abbrev pub ReadsBehind : Outside → Outside → ℕ → Progress → Progress → Result (Result ℕ Failed) NoMemory → Type 0
ReadsBehind old now file p q (Ok (Ok n)) = (room : List ℕ) × NextPiece old now file room (Ok n) × (q ≡ fed_with (take n room) p)
ReadsBehind old now file p q (Ok (Err failed)) = NextPiece old now file [] (Err failed) × (q ≡ p)
ReadsBehind old now file p q (Err e) = (now ≡ old) × (q ≡ p)

-- so many bytes more were counted, and the reader was told of the end if there was none
pub record Counts (old new : Reading) (count : ℕ) : Type 0 where
  pub stands : (bytes : List ℕ) (records : List Record) → Stands old.reader bytes records → Stands new.reader bytes records
  pub seen : (size : ℕ) → old.seen ≡ min 24 size → new.seen ≡ min 24 (size + count)
  pub end : new.reader.finished ≡ true → count ≡ 0

-- a piece was read, or the host couldn't
abbrev pub TakesPiece : Outside → Outside → List ℕ → Reading → List ℕ → List Record → Result Bool NoMemory → Type 0
TakesPiece start now name r bytes records (Ok true) = (more : List ℕ) × IsRead start now name r (bytes ++ more) records
TakesPiece start now name r bytes records (Ok false) = IsRead start now name r bytes records × Rose start.input_faults now.input_faults
TakesPiece start now name r bytes records (Err e) = IsBehind start now name r records

-- a step of the reading: it goes on while there is room, or stops
abbrev pub Steps : Outside → Outside → List ℕ → Reading → List Record → ℕ → Result (Option Stop) NoMemory → Type 0
Steps start now name r given most (Ok None) = Holds start now name r given × (length r.batch < most)
Steps start now name r given most (Ok (Some s)) = StopsSo start now name r given most s
Steps start now name r given most (Err e) = IsBehind start now name r (given ++ r.batch)
