-- A run that answers a trace from a rows file alone: what it opens and reads, and what it puts.
use Rattle.std.specs.Prelude.{◌≡◌, ◌≢◌, ◌⊎◌, ◌<◌, ◌≤◌, ◌+◌, ℕ, List, [], ◌∷◌, ◌++◌, length, drop, Option, Some, None, Ok}
use Rattle.vsw_host.specs.Outside.{Inputs, Opened, Outside, Rose}
use Rattle.vsw_host.specs.Reading.{piece}
use Rattle.vsw_host.specs.Told.{TellsHeld, TellsSince}
use Rattle.vsw_offload.specs.Bad.{IsBadRows}
use Rattle.vsw_offload.specs.Rows.{AreRows, rows_bytes}
use Rattle.vsw_offload.specs.declared.fault.BadRows.TheVariants.{Memory}
use Rattle.vsw_offload.specs.declared.port_rows.PortRows.{PortRows}
use Rattle.vsw_pcap.specs.Capture.{header_of, IsCapture, Splits, Stops}
use Rattle.vsw_pcap.specs.declared.capture.Form.{Form}
use Rattle.vsw_pcap.specs.declared.capture.Front.{Front}
use Rattle.vsw_pcap.specs.declared.capture.Front.TheVariants.{Part}
use Rattle.vsw_pcap.specs.declared.capture.Record.{Record}
use Rattle.vsw_pcap.specs.declared.fault.BadTrace.{BadTrace}
use Rattle.vsw_pcap.specs.declared.fault.BadTrace.TheVariants.{NotPcap, Version, LinkType, Cut, Huge}
use Rattle.vsw_policy.specs.Sound.{Each}
use Rattle.vsw_run.specs.declared.ending.Ending.{Ending}
use Rattle.vsw_run.specs.declared.ending.Ending.TheVariants as ending
use Rattle.vsw_run.specs.declared.ending.RowsFault.{RowsFault}
use Rattle.vsw_run.specs.declared.ending.RowsFault.TheVariants as rows
use Rattle.vsw_run.specs.ByTrace.{Puts, PutsFront, PutsNothing, StopsUnput}
use Rattle.vsw_run.specs.Engine.{AreEngineLines, engine_head}
use Rattle.vsw_run.specs.Files.{IsReadOf, IsWhole}
use Rattle.vsw_run.specs.Trace.{All, Fault, Trace, most_records}
use Rattle.vsw_run.specs.Words.{Query}

-- ---- the files

-- the most bytes of a rows file. No rows file has so many
abbrev pub most_rows : ℕ
most_rows = 160000000

-- the file of this name was read to its end, and is the rows file of these ports
pub record IsRowsFile (name : List ℕ) (f : Opened) (ports : List PortRows) : Type 0 where
  pub named : f.name ≡ name
  pub whole : IsWhole f
  pub few : length f.bytes ≤ most_rows
  pub are : AreRows ports
  pub is : f.bytes ≡ rows_bytes ports

-- the rows are opened first; the trace only once they were read and are good
abbrev pub InTurn : Query → List Opened → Type 0
InTurn q [] = Unit {0}
InTurn q (r ∷ []) = r.name ≡ q.rows
InTurn q (r ∷ t ∷ []) = (ports : List PortRows) × IsRowsFile q.rows r ports × (t.name ≡ q.trace)
InTurn q _ = ⊥

-- these files were opened since, and no other, in this order; the host held them, where it tells that
pub record Opens (old new : Outside) (q : Query) (files : List Opened) : Type 0 where
  pub since : TellsSince old.inputs new.inputs files
  pub held : Each (λ f. TellsHeld old.inputs f.name f.bytes) files
  pub within : Each (λ f. f.read ≤ length f.bytes) files
  pub in_turn : InTurn q files

-- the trace wasn't opened, and no more was read of the rows than the limit and one piece
abbrev pub LacksTrace : List Opened → Type 0
LacksTrace [] = Unit {0}
LacksTrace (r ∷ []) = r.read ≤ most_rows + piece
LacksTrace _ = ⊥

-- rows over their limit are read no further than one piece past it; any other fault is shown by the whole file
abbrev pub ShowsRows : RowsFault → Opened → Type 0
ShowsRows rows.RowsLimit f = (most_rows < f.read) × (f.read ≤ most_rows + piece)
ShowsRows (rows.Bad why) f = IsWhole f × (length f.bytes ≤ most_rows) × IsBadRows f.bytes why × (why ≢ Memory)

-- the rows are refused, or over their limit, and the trace wasn't opened
pub record HasBadRows (files : List Opened) (why : RowsFault) : Type 0 where
  pub rows : Opened
  pub only : files ≡ rows ∷ []
  pub shown : ShowsRows why rows

-- ---- the trace

-- behind these records a rest that may become a record; after as many records as there may be, none
pub record Pauses (bytes : List ℕ) (records : List Record) : Type 0 where
  pub at : ℕ
  pub stops : Stops bytes records at Part
  pub few : length records ≤ most_records
  pub last : length records ≡ most_records → at ≡ length bytes

-- a byte stands after as many records as a trace may have
pub record HasMore (bytes : List ℕ) (records : List Record) : Type 0 where
  pub at : ℕ
  pub front : Front
  pub stops : Stops bytes records at front
  pub more : at < length bytes
  pub full : length records ≡ most_records

-- a bad header is shown by its 24 bytes, or by the end before them
abbrev pub HasBadHeader : Trace → BadTrace → Type 0
HasBadHeader t bad = IsCapture t.bytes [] (Some bad) × ((t.reach ≡ All) ⊎ (24 ≤ length t.bytes))

-- what was read of a trace, by how the run ends: these records behind an accepted header, or no such header. The end alone shows that a record is cut
abbrev pub EndsBehind : Trace → Ending → Option (List Record) → Type 0
EndsBehind t ending.Done (Some records) = (t.reach ≡ All) × IsCapture t.bytes records None × (length records ≤ most_records)
EndsBehind t (ending.Trace NotPcap) None = HasBadHeader t NotPcap
EndsBehind t (ending.Trace Version) None = HasBadHeader t Version
EndsBehind t (ending.Trace LinkType) None = HasBadHeader t LinkType
EndsBehind t (ending.Trace (Cut at)) (Some records) = (t.reach ≡ All) × IsCapture t.bytes records (Some (Cut at)) × (length records < most_records)
EndsBehind t (ending.Trace (Huge at)) (Some records) = IsCapture t.bytes records (Some (Huge at)) × (length records < most_records)
EndsBehind t ending.Records (Some records) = HasMore t.bytes records
EndsBehind t ending.ReadFault None = (t.reach ≡ Fault) × (length t.bytes < 24)
EndsBehind t ending.ReadFault (Some records) = (t.reach ≡ Fault) × Pauses t.bytes records
EndsBehind t _ _ = ⊥

-- the first of its records, behind an accepted header
pub record HasFirst (bytes : List ℕ) (records : List Record) : Type 0 where
  pub form : Form
  pub rest : List ℕ
  pub header : header_of bytes ≡ Ok form
  pub splits : Splits form (drop 24 bytes) records rest

-- ---- what is put

-- the head and the lines of these records, or nothing where no header was accepted
abbrev pub TellsLines : List PortRows → Option (List Record) → List ℕ → Type 0
TellsLines ports None text = text ≡ []
TellsLines ports (Some records) text = (lines : List ℕ) × AreEngineLines ports 0 records lines × (text ≡ engine_head ++ lines)

-- what was read of the trace gives this ending, and its lines were put. `Reads t` says that t was read of the trace
pub record EndsSo (ports : List PortRows) (Reads : Trace → Type 0) (old new : Outside) (end : Ending) : Type 0 where
  pub trace : Trace
  pub reads : Reads trace
  pub records : Option (List Record)
  pub ends : EndsBehind trace end records
  pub text : List ℕ
  pub tells : TellsLines ports records text
  pub puts : Puts old new text

-- the run broke off, and put a front of the lines of the first of the trace's records
pub record BreaksOff (ports : List PortRows) (Reads : Trace → Type 0) (old new : Outside) : Type 0 where
  pub trace : Trace
  pub reads : Reads trace
  pub records : List Record
  pub first : HasFirst trace.bytes records
  pub text : List ℕ
  pub tells : TellsLines ports (Some records) text
  pub puts : PutsFront old new text

-- what is put of a trace, by how the run ended. It ends by a read fault or a write fault only if the host counted one
abbrev pub TraceEnds : List PortRows → (Trace → Type 0) → Outside → Outside → Ending → Type 0
TraceEnds ports Reads old new ending.Done = EndsSo ports Reads old new ending.Done
TraceEnds ports Reads old new (ending.Trace bad) = EndsSo ports Reads old new (ending.Trace bad)
TraceEnds ports Reads old new ending.Records = EndsSo ports Reads old new ending.Records
TraceEnds ports Reads old new ending.ReadFault = Rose old.input_faults new.input_faults × EndsSo ports Reads old new ending.ReadFault
TraceEnds ports Reads old new ending.WriteFault = Rose old.put_faults new.put_faults × BreaksOff ports Reads old new
TraceEnds ports Reads old new ending.Memory = StopsUnput Reads old new ⊎ BreaksOff ports Reads old new
TraceEnds ports Reads old new _ = ⊥

-- why a run ends before it opened its trace. Want of memory needs no sign, and may come later
abbrev pub IsEarly : Outside → Outside → List Opened → Ending → Type 0
IsEarly old new files (ending.Rows why) = HasBadRows files why
IsEarly old new files ending.ReadFault = Rose old.input_faults new.input_faults × LacksTrace files
IsEarly old new files ending.Memory = Unit {0}
IsEarly old new files _ = ⊥

-- the trace was opened behind the rows of these ports, and what was read of it gives this ending
pub record EndsByTrace (q : Query) (old new : Outside) (files : List Opened) (end : Ending) : Type 0 where
  pub rows : Opened
  pub file : Opened
  pub all : files ≡ rows ∷ file ∷ []
  pub ports : List PortRows
  pub are : IsRowsFile q.rows rows ports
  pub ends : TraceEnds ports (IsReadOf old new file) old new end

-- what a run put: nothing before it opened its trace, or what is put of the trace
abbrev pub Ends : Query → Outside → Outside → List Opened → Ending → Type 0
Ends q old new files end = (IsEarly old new files end × PutsNothing old new) ⊎ EndsByTrace q old new files end

-- the words ask for a run that answers a trace from rows
pub record RunsByRows (q : Query) (old new : Outside) (end : Ending) : Type 0 where
  pub files : List Opened
  pub opens : Opens old new q files
  pub ends : Ends q old new files end

-- the host holds the two files: a rows file, and a sound trace within its limit
pub record AreGood (q : Query) (inputs : Option Inputs) : Type 0 where
  pub files : Inputs
  pub told : inputs ≡ Some files
  pub ports : List PortRows
  pub are : AreRows ports
  pub rows_held : files.files q.rows ≡ Some (rows_bytes ports)
  pub few : length (rows_bytes ports) ≤ most_rows
  pub trace : List ℕ
  pub trace_held : files.files q.trace ≡ Some trace
  pub records : List Record
  pub trace_good : IsCapture trace records None
  pub short : length records ≤ most_records
