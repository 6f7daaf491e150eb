-- Runs of a reader: its calls in any order, with what they answered. How a capture is cut into pieces
-- shows in no answer but More.
use Rattle.std.specs.Prelude.{◌≡◌, false, List, [], ◌∷◌, ◌++◌, ℕ, Option, Some, None}
use Rattle.vsw_pcap.specs.Capture.{IsCapture}
use Rattle.vsw_pcap.specs.Progress.{Progress}
use Rattle.vsw_pcap.specs.Reader.{next_of, after_next, unfed, fed_with, finished_at}
use Rattle.vsw_pcap.specs.declared.capture.Record.{Record}
use Rattle.vsw_pcap.specs.declared.fault.BadTrace.{BadTrace}
use Rattle.vsw_pcap.specs.declared.reader.Next.{Next}
use Rattle.vsw_pcap.specs.declared.reader.Next.TheVariants as next

-- a call of `feed`, of `finish`, or of `next` with its answer; a call that wanted memory changes nothing and
-- is left out
pub data Call : Type 0 where
  Feed : List ℕ → Call
  Finish : Call
  Answer : Next → Call

-- these calls can be made one after the other, from here on, and are answered so
abbrev pub IsRun : Progress → List Call → Type 0
IsRun p [] = Unit {0}
IsRun p (Feed piece ∷ calls) = (p.finished ≡ false) × IsRun (fed_with piece p) calls
IsRun p (Finish ∷ calls) = IsRun (finished_at p) calls
IsRun p (Answer answer ∷ calls) = (answer ≡ next_of p) × IsRun (after_next p) calls

-- all bytes fed
abbrev pub bytes_of : List Call → List ℕ
bytes_of [] = []
bytes_of (Feed piece ∷ calls) = piece ++ bytes_of calls
bytes_of (Finish ∷ calls) = bytes_of calls
bytes_of (Answer answer ∷ calls) = bytes_of calls

-- the answers but for More, up to the first End or Bad
abbrev pub answers_of : List Call → List Next
answers_of [] = []
answers_of (Feed piece ∷ calls) = answers_of calls
answers_of (Finish ∷ calls) = answers_of calls
answers_of (Answer next.More ∷ calls) = answers_of calls
answers_of (Answer (next.Record r) ∷ calls) = next.Record r ∷ answers_of calls
answers_of (Answer next.End ∷ calls) = next.End ∷ []
answers_of (Answer (next.Bad bad) ∷ calls) = next.Bad bad ∷ []

-- the reader came to an End or a Bad
abbrev pub IsOver : List Call → Type 0
IsOver [] = ⊥
IsOver (Feed piece ∷ calls) = IsOver calls
IsOver (Finish ∷ calls) = IsOver calls
IsOver (Answer next.More ∷ calls) = IsOver calls
IsOver (Answer (next.Record r) ∷ calls) = IsOver calls
IsOver (Answer next.End ∷ calls) = Unit {0}
IsOver (Answer (next.Bad bad) ∷ calls) = Unit {0}

-- a capture's records and its end or fault, as answers
abbrev pub answers_for : List Record → Option BadTrace → List Next
answers_for [] None = next.End ∷ []
answers_for [] (Some bad) = next.Bad bad ∷ []
answers_for (r ∷ rs) fault = next.Record r ∷ answers_for rs fault

-- a run that is over gives what the bytes fed are as a capture
abbrev pub RunsRead : Type 0
RunsRead = (calls : List Call) → IsRun unfed calls → IsOver calls
    → (records : List Record) × (fault : Option BadTrace) × IsCapture (bytes_of calls) records fault × (answers_of calls ≡ answers_for records fault)

-- all bytes are a capture, sound or refused
abbrev pub EachIsACapture : Type 0
EachIsACapture = (bytes : List ℕ) → (records : List Record) × (fault : Option BadTrace) × IsCapture bytes records fault

-- and in one way only
abbrev pub CapturesAreUnique : Type 0
CapturesAreUnique = (bytes : List ℕ) (one two : List Record) (fault other : Option BadTrace)
    → IsCapture bytes one fault → IsCapture bytes two other → (one ≡ two) × (fault ≡ other)

-- two runs that are over and fed the same bytes, however cut, have the same answers
abbrev pub CuttingsAgree : Type 0
CuttingsAgree = (one two : List Call) → IsRun unfed one → IsRun unfed two → IsOver one → IsOver two
    → bytes_of one ≡ bytes_of two → answers_of one ≡ answers_of two
