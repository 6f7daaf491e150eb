-- What a run puts of its trace.
use Rattle.std.specs.Prelude.{◌≡◌, ◌<◌, ◌≤◌, ◌⊎◌, ℕ, List, [], length, Bool, true, false, Some, None}
use Rattle.vsw_pcap.specs.Capture.{Stops, IsCapture}
use Rattle.vsw_pcap.specs.declared.capture.Front.{Front}
use Rattle.vsw_pcap.specs.declared.capture.Front.TheVariants.{Part}
use Rattle.vsw_pcap.specs.declared.capture.Record.{Record}
use Rattle.vsw_pcap.specs.declared.fault.BadTrace.{BadTrace}
use Rattle.vsw_pcap.specs.declared.fault.BadTrace.TheVariants.{NotPcap, Version, LinkType, Cut, Huge}
use Rattle.vsw_run.specs.declared.ending.Ending.{Ending}
use Rattle.vsw_run.specs.declared.ending.Ending.TheVariants as ending
use Rattle.vsw_report.specs.declared.round.Round.{Round}
use Rattle.vsw_promise.specs.Jobs.{Setting, cuts, cuts_within}
use Rattle.vsw_report.specs.Print.{report_text}
use Rattle.vsw_report.specs.Short.{are_short}
use Rattle.vsw_promise.specs.Rounds.{AreRounds}

-- the most records of a trace
abbrev pub most_records : ℕ
most_records = 1048576

-- where the reading of a file ended: at the file's end, at a fault of the host, or where the run stopped by itself
pub data Reach : Type 0 where
  All : Reach
  Fault : Reach
  Stopped : Reach

-- what was read of a trace
pub record Trace : Type 0 where
  pub bytes : List ℕ
  pub reach : Reach

-- the trace ended cleanly after these records: all rounds are told
pub record TellsAll (s : Setting) (t : Trace) (short : Bool) (text : List ℕ) : Type 0 where
  pub read : t.reach ≡ All
  pub records : List Record
  pub capture : IsCapture t.bytes records None
  pub few : length records ≤ most_records
  pub rounds : List Round
  pub are : AreRounds s records (cuts s.commands (length records)) rounds
  pub short_is : are_short rounds ≡ short
  pub text_is : text ≡ report_text rounds

-- it ended otherwise after these records: the rounds are told that begin at one of them
pub record TellsWithin (s : Setting) (records : List Record) (text : List ℕ) : Type 0 where
  pub rounds : List Round
  pub are : AreRounds s records (cuts_within s.commands (length records)) rounds
  pub text_is : text ≡ report_text rounds

-- a bad header is shown by its 24 bytes, or by the end before them. Nothing is told
pub record HasBadHeader (t : Trace) (bad : BadTrace) (text : List ℕ) : Type 0 where
  pub refused : IsCapture t.bytes [] (Some bad)
  pub shown : (t.reach ≡ All) ⊎ (24 ≤ length t.bytes)
  pub nothing : text ≡ []

-- a bad record stands after fewer records than a trace may have
pub record HasBadRecord (s : Setting) (t : Trace) (bad : BadTrace) (text : List ℕ) : Type 0 where
  pub records : List Record
  pub refused : IsCapture t.bytes records (Some bad)
  pub few : length records < most_records
  pub tells : TellsWithin s records text

-- the trace is refused. The end alone shows that a record is cut
abbrev pub IsRefused : Setting → Trace → BadTrace → List ℕ → Type 0
IsRefused s t NotPcap text = HasBadHeader t NotPcap text
IsRefused s t Version text = HasBadHeader t Version text
IsRefused s t LinkType text = HasBadHeader t LinkType text
IsRefused s t (Cut at) text = (t.reach ≡ All) × HasBadRecord s t (Cut at) text
IsRefused s t (Huge at) text = HasBadRecord s t (Huge at) text

-- a byte stands after as many records as a trace may have
pub record HasMore (s : Setting) (t : Trace) (text : List ℕ) : Type 0 where
  pub records : List Record
  pub at : ℕ
  pub front : Front
  pub stops : Stops t.bytes records at front
  pub more : at < length t.bytes
  pub full : length records ≡ most_records
  pub tells : TellsWithin s records text

-- the bytes that were read are no whole header. Nothing is told
pub record HasNoHeader (t : Trace) (text : List ℕ) : Type 0 where
  pub few : length t.bytes < 24
  pub nothing : text ≡ []

-- they are a good header and these records, and no whole record and nothing bad stands after them
pub record HasFront (s : Setting) (t : Trace) (text : List ℕ) : Type 0 where
  pub records : List Record
  pub at : ℕ
  pub stops : Stops t.bytes records at Part
  pub few : length records ≤ most_records
  pub last : length records ≡ most_records → at ≡ length t.bytes
  pub tells : TellsWithin s records text

-- what was read of the trace neither ends it nor is refused: the rounds are told that begin at its records
abbrev pub TellsFront : Setting → Trace → List ℕ → Type 0
TellsFront s t text = HasNoHeader t text ⊎ HasFront s t text

-- how a run over what was read of the trace ends, and what it puts, if the host puts all and memory suffices for all but pairs and commands
abbrev pub Tells : Setting → Trace → Ending → List ℕ → Type 0
Tells s t ending.Done text = TellsAll s t false text
Tells s t ending.Memory text = TellsAll s t true text
Tells s t (ending.Trace bad) text = IsRefused s t bad text
Tells s t ending.Records text = HasMore s t text
Tells s t ending.ReadFault text = (t.reach ≡ Fault) × TellsFront s t text
Tells s t _ text = ⊥

-- a text of which a run puts a front if a put fails or memory runs out: that of an ending, or, if it stopped reading by itself, that of
-- what it had read
abbrev pub MayTell : Setting → Trace → List ℕ → Type 0
MayTell s t text = ((end : Ending) × Tells s t end text) ⊎ ((t.reach ≡ Stopped) × TellsFront s t text)
