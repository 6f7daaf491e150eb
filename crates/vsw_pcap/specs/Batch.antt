-- Reading records into a batch.
use Rattle.std.specs.Prelude.{◌≡◌, ℕ, List, [], ◌∷◌, ◌++◌, length, true, false, Some, None}
use Rattle.vsw_pcap.specs.Capture.{IsCapture}
use Rattle.vsw_pcap.specs.Decides.{Decides}
use Rattle.vsw_pcap.specs.Progress.{Progress}
use Rattle.vsw_pcap.specs.Reader.{Advances, Stands, Waits}
use Rattle.vsw_pcap.specs.declared.batch.Captured.{Captured}
use Rattle.vsw_pcap.specs.declared.batch.Found.{Found}
use Rattle.vsw_pcap.specs.declared.batch.Found.TheVariants as found
use Rattle.vsw_pcap.specs.declared.capture.Record.{Record}
use Rattle.vsw_pcap.specs.declared.reader.Next.{Next}
use Rattle.vsw_pcap.specs.declared.reader.Next.TheVariants as next

-- the record that a batch lends
abbrev pub lent_record : Captured → Record
lent_record c = record { moment = c.moment; original = c.original; bytes = c.bytes.now }

-- what is found, by what the reader answers, and what a batch then holds
abbrev pub found_of : Next → Found
found_of (next.Record r) = found.Record
found_of next.More = found.More
found_of next.End = found.End
found_of (next.Bad bad) = found.Bad bad

abbrev pub with_next : Next → List Record → List Record
with_next (next.Record r) batch = batch ++ r ∷ []
with_next next.More batch = batch
with_next next.End batch = batch
with_next (next.Bad bad) batch = batch

-- a record is consumed, and nothing else changes the reader
abbrev pub MovesTo : Progress → Progress → Found → Type 0
MovesTo old new found.Record = Advances old new
MovesTo old new found.More = new ≡ old
MovesTo old new found.End = new ≡ old
MovesTo old new (found.Bad bad) = new ≡ old

-- what a reader that was fed these bytes, and had given these records, found next, and what the batch holds after it
abbrev pub ReadsInto : Progress → List ℕ → List Record → List Record → List Record → Found → Type 0
ReadsInto p bytes records old new found.Record = (r : Record) × (new ≡ old ++ r ∷ []) × Stands p bytes (records ++ r ∷ [])
ReadsInto p bytes records old new found.More = (new ≡ old) × Stands p bytes records × (p.finished ≡ false) × Waits bytes records
ReadsInto p bytes records old new found.End = (new ≡ old) × Stands p bytes records × (p.finished ≡ true) × IsCapture bytes records None
ReadsInto p bytes records old new (found.Bad bad) = (new ≡ old) × Stands p bytes records × IsCapture bytes records (Some bad) × Decides bad p.finished (length bytes)
