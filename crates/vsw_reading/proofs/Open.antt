-- A reading that can be read on: nothing was read of it yet, or its batch was cleared.
use Rattle.std.proofs.Common.{◌≡◌, ℕ, Result, List, [], ◌++◌, sym, subst, append-nil}
use Rattle.vsw_base.specs.declared.fault.NoMemory.{NoMemory}
use Rattle.vsw_host.specs.Outside.{Outside}
use Rattle.vsw_pcap.specs.declared.capture.Record.{Record}
use Rattle.vsw_reading.specs.declared.reading.Reading.{Reading}
use Rattle.vsw_reading.specs.declared.reading.Stop.{Stop}
use Rattle.vsw_reading.specs.Reads.{IsRead, IsOpen, Holds, Fills, Peeks}

-- nothing was read of it yet
pub open_begun : (start now : Outside) (name : List ℕ) (r : Reading) → r.batch ≡ [] → IsRead start now name r [] [] → IsOpen now r
open_begun start now name r e read = record { start = start; name = name; given = []; reads = record { bytes = []; read = subst (λ (b : List Record). IsRead start now name r [] b) (sym e) read } }

-- the reading of which the batch was cleared
abbrev pub cleared : Reading → Reading
cleared r = record { source = r.source; reader = r.reader; batch = []; seen = r.seen }

pub holds_cleared : (start now : Outside) (name : List ℕ) (r : Reading) (bytes : List ℕ) (records : List Record) → IsRead start now name r bytes records → Holds start now name (cleared r) records
holds_cleared start now name r bytes records h = record { bytes = bytes; read = subst (λ w. IsRead start now name (cleared r) bytes w) (sym (append-nil records)) (record { reading = h.reading; stands = h.stands; seen = h.seen; end = h.end }) }

pub open_cleared : (now : Outside) (r : Reading) → IsOpen now r → IsOpen now (cleared r)
open_cleared now r o = record { start = o.start; name = o.name; given = o.given ++ r.batch; reads = holds_cleared o.start now o.name r o.reads.bytes (o.given ++ r.batch) o.reads.read }

-- ---- what a call promises of it

-- the reading, whatever was given before
abbrev pub FillsSo : Outside → Outside → Reading → Reading → ℕ → Result Stop NoMemory → Type 0
FillsSo old now r new most result = (start : Outside) (name : List ℕ) (given : List Record) → Holds start old name r given → Fills start now name new given most result

-- the same of what follows the last record
abbrev pub PeeksSo : Outside → Outside → Reading → Reading → Stop → Type 0
PeeksSo old now r new st = (start : Outside) (name : List ℕ) (bytes : List ℕ) (records : List Record) → IsRead start old name r bytes records → Peeks start now name new bytes st

-- the batch after the call that cleared it
abbrev pub with_batch : Reading → List Record → Reading
with_batch r batch = record { source = r.source; reader = r.reader; batch = batch; seen = r.seen }

pub open_with : (now : Outside) (r : Reading) (batch : List Record) → batch ≡ [] → IsOpen now r → IsOpen now (with_batch r batch)
open_with now r batch e o = subst (λ w. IsOpen now (with_batch r w)) (sym e) (open_cleared now r o)

pub fills_with : (old now : Outside) (r new : Reading) (batch : List Record) (most : ℕ) (result : Result Stop NoMemory) → batch ≡ [] → FillsSo old now (with_batch r batch) new most result → FillsSo old now (cleared r) new most result
fills_with old now r new batch most result e fills = subst (λ w. FillsSo old now (with_batch r w) new most result) e fills

pub peeks_with : (old now : Outside) (r new : Reading) (batch : List Record) (st : Stop) → batch ≡ [] → PeeksSo old now (with_batch r batch) new st → PeeksSo old now (cleared r) new st
peeks_with old now r new batch st e peeks = subst (λ w. PeeksSo old now (with_batch r w) new st) e peeks
