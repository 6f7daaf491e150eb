-- A capture of libpcap's classic file format, version 2.4. Its header has 24 bytes: the magic (4 bytes),
-- the version's two numbers (2 each), 12 bytes that aren't read, and the link type (4). The magic tells
-- the order of the bytes of every number, and what fractions of seconds count. Records follow: seconds,
-- fraction, captured length and original length (4 bytes each), and then the captured bytes.
use Rattle.std.specs.Prelude.{◌≡◌, ◌<◌, ◌≤◌, ℕ, ◌+◌, ◌*◌, ◌/◌, ◌==◌, ◌&&◌, not, List, [], ◌∷◌, length, take, drop, nat_lt, if◌then◌else◌, Option, Some, None, option_map, Result, Ok, Err}
use Rattle.byteorder.specs.Endian.{little_number, big_number}
use Rattle.vsw_pcap.specs.declared.capture.Order.{Order}
use Rattle.vsw_pcap.specs.declared.capture.Order.TheVariants.{Little, Big}
use Rattle.vsw_pcap.specs.declared.capture.Fraction.{Fraction}
use Rattle.vsw_pcap.specs.declared.capture.Fraction.TheVariants.{Micros, Nanos}
use Rattle.vsw_pcap.specs.declared.capture.Form.{Form}
use Rattle.vsw_pcap.specs.declared.capture.Front.{Front}
use Rattle.vsw_pcap.specs.declared.capture.Front.TheVariants.{Whole, Part, Oversize}
use Rattle.vsw_pcap.specs.declared.capture.Record.{Record}
use Rattle.vsw_pcap.specs.declared.fault.BadTrace.{BadTrace}
use Rattle.vsw_pcap.specs.declared.fault.BadTrace.TheVariants.{NotPcap, Version, LinkType, Cut, Huge}

-- the number in the first n bytes
abbrev pub number : Order → ℕ → List ℕ → ℕ
number Little n bytes = little_number n bytes
number Big n bytes = big_number n bytes

-- in which fractions of a second the records of a file with this magic count
abbrev pub fraction_of : ℕ → Option Fraction
fraction_of magic = if magic == 0xa1b2c3d4 then Some Micros else if magic == 0xa1b23c4d then Some Nanos else None

-- the form that the magic tells, in whichever order it is one
abbrev pub form_of : List ℕ → Option Form
form_of bytes = elim (fraction_of (number Little 4 bytes)) [
  | Some f ↦ Some (record { order = Little; fraction = f })
  | None ↦ option_map (λ f. record { order = Big; fraction = f }) (fraction_of (number Big 4 bytes))
]

-- the tests of a header in this form
abbrev pub tested : List ℕ → Form → Result Form BadTrace
tested bytes form =
    if not ((number form.order 2 (drop 4 bytes) == 2) && (number form.order 2 (drop 6 bytes) == 4)) then Err Version
    else if not (number form.order 4 (drop 20 bytes) == 1) then Err LinkType
    else Ok form

-- the form of the capture that begins with these bytes, or the first fault of its header
abbrev pub header_of : List ℕ → Result Form BadTrace
header_of bytes = if nat_lt (length bytes) 24 then Err NotPcap
    else elim (form_of bytes) [ None ↦ Err NotPcap | Some form ↦ tested bytes form ]

-- bytes of the record at the front, without the 16 of its header
abbrev pub captured_of : Form → List ℕ → ℕ
captured_of form bytes = number form.order 4 (drop 8 bytes)

-- what stands at the front: a whole record with so many captured bytes, one whose captured length is too
-- great, or nothing whole
abbrev pub front_of : Form → List ℕ → Front
front_of form bytes = if nat_lt (length bytes) 16 then Part
    else if nat_lt 262144 (captured_of form bytes) then Oversize
    else if nat_lt (length bytes) (16 + captured_of form bytes) then Part
    else Whole (captured_of form bytes)

-- a fraction in microseconds, rounded down
abbrev pub micros_of : Fraction → ℕ → ℕ
micros_of Micros n = n
micros_of Nanos n = n / 1000

-- microseconds since the epoch
abbrev pub moment_of : Form → List ℕ → ℕ
moment_of form bytes = 1000000 * number form.order 4 bytes + micros_of form.fraction (number form.order 4 (drop 4 bytes))

-- the record at the front, with so many captured bytes
abbrev pub record_of : Form → List ℕ → ℕ → Record
record_of form bytes captured = record {
  moment = moment_of form bytes;
  original = number form.order 4 (drop 12 bytes);
  bytes = take captured (drop 16 bytes);
}

-- a whole record lies within so many bytes
abbrev pub FitsIn : Front → ℕ → Type 0
FitsIn (Whole captured) n = 16 + captured ≤ n
FitsIn Part n = Unit {0}
FitsIn Oversize n = Unit {0}

-- the bytes are these records, and then the rest
abbrev pub Splits : Form → List ℕ → List Record → List ℕ → Type 0
Splits form bytes [] rest = bytes ≡ rest
Splits form bytes (r ∷ rs) rest =
    (captured : ℕ) × (front_of form bytes ≡ Whole captured) × (r ≡ record_of form bytes captured)
    × Splits form (drop (16 + captured) bytes) rs rest

-- the bytes are an accepted header, these records, and from byte `at` on a rest that begins so
pub record Stops (bytes : List ℕ) (records : List Record) (at : ℕ) (front : Front) : Type 0 where
  pub form : Form
  pub rest : List ℕ
  pub header : header_of bytes ≡ Ok form
  pub splits : Splits form (drop 24 bytes) records rest
  pub place : at + length rest ≡ length bytes
  pub begins : front_of form rest ≡ front

-- the capture has these records, and ends after them, or in this fault
abbrev pub IsCapture : List ℕ → List Record → Option BadTrace → Type 0
IsCapture bytes records None = (form : Form) × (header_of bytes ≡ Ok form) × Splits form (drop 24 bytes) records []
IsCapture bytes records (Some (Cut at)) = Stops bytes records at Part × (at < length bytes)
IsCapture bytes records (Some (Huge at)) = Stops bytes records at Oversize
IsCapture bytes records (Some NotPcap) = (header_of bytes ≡ Err NotPcap) × (records ≡ [])
IsCapture bytes records (Some Version) = (header_of bytes ≡ Err Version) × (records ≡ [])
IsCapture bytes records (Some LinkType) = (header_of bytes ≡ Err LinkType) × (records ≡ [])
