-- What a reader holds, what it answers, and what that says of the bytes that it was fed.
use Rattle.std.specs.Prelude.{◌≡◌, ◌<◌, ◌≤◌, ℕ, ◌+◌, ◌==◌, ◌&&◌, ◌⊎◌, Bool, true, false, not, List, [], ◌∷◌, ◌++◌, length, drop, nat_lt, if◌then◌else◌, Option, Some, None, Result, Ok, Err}
use Rattle.vsw_pcap.specs.Capture.{header_of, front_of, record_of, Splits, Stops, IsCapture}
use Rattle.vsw_pcap.specs.Decides.{Decides}
use Rattle.vsw_pcap.specs.Progress.{Progress}
use Rattle.vsw_pcap.specs.declared.capture.Form.{Form}
use Rattle.vsw_pcap.specs.declared.capture.Front.{Front}
use Rattle.vsw_pcap.specs.declared.capture.Front.TheVariants.{Whole, Part, Oversize}
use Rattle.vsw_pcap.specs.declared.capture.Record.{Record}
use Rattle.vsw_pcap.specs.declared.fault.BadTrace.{BadTrace}
use Rattle.vsw_pcap.specs.declared.fault.BadTrace.TheVariants.{Cut, Huge}
use Rattle.vsw_pcap.specs.declared.reader.Start.{Start}
use Rattle.vsw_pcap.specs.declared.reader.Start.TheVariants.{Records, Unknown, Refused}
use Rattle.vsw_pcap.specs.declared.reader.Next.{Next}
use Rattle.vsw_pcap.specs.declared.reader.Next.TheVariants as next

-- the records begin after an accepted header
abbrev pub after_header : Result Form BadTrace → Start
after_header (Ok form) = Records form 24
after_header (Err bad) = Refused bad

-- where the next record begins: at the front, once a record was given, and else after the header
abbrev pub start_in : Option Form → List ℕ → Bool → Start
start_in (Some form) left finished = Records form 0
start_in None left finished = if nat_lt (length left) 24 && not finished then Unknown else after_header (header_of left)

abbrev pub start_of : Progress → Start
start_of p = start_in p.form p.left p.finished

-- the answer where no whole record stands at the front of these bytes
abbrev pub pause_of : ℕ → List ℕ → Bool → Next
pause_of at left finished = if not finished then next.More else if length left == 0 then next.End else next.Bad (Cut at)

-- the answer where this stands at the front of the bytes that are left, which begin at byte `at`
abbrev pub answer_at : Front → Form → ℕ → List ℕ → Bool → Next
answer_at (Whole captured) form at left finished = next.Record (record_of form left captured)
answer_at Oversize form at left finished = next.Bad (Huge at)
answer_at Part form at left finished = pause_of at left finished

abbrev pub answer_from : Start → Progress → Next
answer_from (Records form header) p = answer_at (front_of form (drop header p.left)) form (p.at + header) (drop header p.left) p.finished
answer_from Unknown p = next.More
answer_from (Refused bad) p = next.Bad bad

-- what the reader answers next
unfoldable pub next_of : Progress → Next
next_of p = answer_from (start_of p) p

-- what is held after that: a record's bytes are consumed, with those of a header before it, and else none
abbrev pub after_at : Front → Form → ℕ → Progress → Progress
after_at (Whole captured) form header p = record p { form = Some form; at = p.at + (header + (16 + captured)); left = drop (header + (16 + captured)) p.left }
after_at Oversize form header p = p
after_at Part form header p = p

abbrev pub after_from : Start → Progress → Progress
after_from (Records form header) p = after_at (front_of form (drop header p.left)) form header p
after_from Unknown p = p
after_from (Refused bad) p = p

-- what the reader holds after that answer
unfoldable pub after_next : Progress → Progress
after_next p = after_from (start_of p) p

-- where the next record begins, its header within the bytes in hand
abbrev pub BeginsIn : Start → ℕ → Type 0
BeginsIn (Records form header) n = header ≤ n
BeginsIn Unknown n = Unit {0}
BeginsIn (Refused bad) n = Unit {0}

-- a reader that was fed nothing
abbrev pub unfed : Progress
unfed = record { form = None; at = 0; left = []; finished = false }

abbrev pub fed_with : List ℕ → Progress → Progress
fed_with piece p = record p { left = p.left ++ piece }

abbrev pub finished_at : Progress → Progress
finished_at p = record p { finished = true }

-- of the bytes fed, these records were given and these bytes are left; without a form the header isn't
-- passed, and all bytes are left
abbrev pub Gave : Option Form → List ℕ → List Record → List ℕ → Type 0
Gave None bytes records left = (left ≡ bytes) × (records ≡ [])
Gave (Some form) bytes records left = (header_of bytes ≡ Ok form) × Splits form (drop 24 bytes) records left

-- the reader was fed these bytes, and gave these records
pub record Stands (p : Progress) (bytes : List ℕ) (records : List Record) : Type 0 where
  pub gave : Gave p.form bytes records p.left
  pub place : p.at + length p.left ≡ length bytes

-- the bytes so far hold no whole next part
abbrev pub Waits : List ℕ → List Record → Type 0
Waits bytes records = ((length bytes < 24) × (records ≡ [])) ⊎ ((at : ℕ) × Stops bytes records at Part)

-- some of the bytes in hand were consumed
pub record Advances (old new : Progress) : Type 0 where
  -- at least the 16 of a record's header
  pub shorter : length new.left + 16 ≤ length old.left
  pub place : new.at + length new.left ≡ old.at + length old.left
  pub finished : new.finished ≡ old.finished

-- a record is consumed, and no other answer changes the reader
abbrev pub Moves : Progress → Progress → Next → Type 0
Moves old new (next.Record r) = Advances old new
Moves old new next.More = new ≡ old
Moves old new next.End = new ≡ old
Moves old new (next.Bad bad) = new ≡ old

-- what an answer of a reader that was fed these bytes and had given these records says of them; p is what
-- the reader then holds
abbrev pub Tells : Progress → List ℕ → List Record → Next → Type 0
Tells p bytes records (next.Record r) = Stands p bytes (records ++ r ∷ [])
Tells p bytes records next.More = (p.finished ≡ false) × Waits bytes records
Tells p bytes records next.End = (p.finished ≡ true) × IsCapture bytes records None
Tells p bytes records (next.Bad bad) = IsCapture bytes records (Some bad) × Decides bad p.finished (length bytes)
