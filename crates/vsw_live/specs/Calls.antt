-- What a caller's call on a shared port gives it.
use Rattle.std.specs.Prelude.{◌≡◌, ◌≢◌, ◌≤◌, ◌+◌, ◌++◌, ℕ, List, [], ◌∷◌, Bool, false, if◌then◌else◌, length, Option, Some, None}
use mathlib.Core.List.{IsPrefix}
use Rattle.vsw_answer.specs.Answers.{HitsInTime, HitsLate, Misses, Pass}
use Rattle.vsw_base.specs.declared.fate.Fate.{Fate}
use Rattle.vsw_base.specs.declared.flow.Crossing.{Crossing}
use Rattle.vsw_base.specs.declared.packet.Control.TheVariants as control
use Rattle.vsw_commandfile.specs.declared.line.Line.{Line}
use Rattle.vsw_flows.specs.Flows.{Looking, Writing}
use Rattle.vsw_policy.specs.declared.command.Command.{Command}
use Rattle.vsw_port.specs.declared.event.Event.{Event}
use Rattle.vsw_port.specs.Calls.{Asked, Call, Carried, HasBytes, IsCall, IsRead, entries_of, next_count}
use Rattle.vsw_port.specs.History.{Opening}
use Rattle.vsw_live.specs.declared.answer.Fast.{Fast}
use Rattle.vsw_live.specs.declared.answer.Fast.TheVariants.{Done, Slow}
use Rattle.vsw_live.specs.declared.answer.Told.{Told}
use Rattle.vsw_answer.specs.declared.told.Why.{Why}
use Rattle.vsw_answer.specs.declared.told.Why.TheVariants.{Control, Miss, Late, Light}
use Rattle.vsw_answer.specs.Seen.{AnswerSeen}
use Rattle.vsw_live.specs.Seen.{UnitSeen}
use Rattle.vsw_table.specs.Held as held
use Rattle.vsw_rows.specs.GoodRows.{opening_of}
use Rattle.vsw_answer.specs.Transit.{bytes_in, len_of}

-- the call of a packet that was answered so, with the bytes of its frame, or those at the front of a room
abbrev pub call_of : UnitSeen → AnswerSeen → List ℕ → Call
call_of u a out = record { deed = Carried u.crossing u.parts a.fate (bytes_in a.own u.parts a.fate out); entry = a.entry; count = a.count }

-- the call of a line that was told so
abbrev pub asked : Line → Told → Call
asked l t = record { deed = Asked l t.reply; entry = t.entry; count = t.count }

-- how many entries a call makes
abbrev pub one_if : Bool → ℕ
one_if entry = if entry then 1 else 0

-- a pass made a call: it is one of the history that the pass then has seen, with its bytes there, at a count that isn't below what the pass
-- had seen. The pass has seen the call and nothing after it. Its receipts grow by the call's entry, which takes a permit, and nothing else does
pub record Crosses (o : Opening) (p q : Writing) (c : Call) : Type 0 where
  pub table : q.table ≡ p.table
  pub number : q.view.number ≡ p.view.number
  pub opens : q.view.opening ≡ p.view.opening
  pub seen : IsPrefix p.view.front q.view.front
  pub call : IsCall o q.view.front c
  pub shows : HasBytes o q.view.front c
  pub low : length p.view.front ≤ c.count
  pub last : next_count c ≡ length q.view.front
  pub receipts : q.view.receipts ≡ p.view.receipts ++ entries_of (c ∷ [])
  pub permits : p.view.permits ≡ q.view.permits + one_if c.entry

-- a pass made the call of the line with this number, in which this controller asks this command, and which was told so
abbrev pub CrossesAsked : Opening → (line controller : ℕ) → Command → Told → Writing → Writing → Type 0
CrossesAsked o line controller command told p q = (l : Line) → l.number ≡ line → l.controller ≡ controller → l.command ≡ command → Crosses o p q (asked l told)

-- a pass has looked, and has seen no less
pub record Looks (p q : Writing) : Type 0 where
  pub table : q.table ≡ p.table
  pub reads : held.IsRead p.view q.view

-- why no row answers a packet, whose look had then seen this history: it has a control, and isn't looked for; or this call's look missed; or the row
-- that this look hit has an until below the packet's moment. A row is always looked for, also where a walk is light
abbrev pub Causes : Looking → Crossing → Pass → Pass → List Event → Why → Type 0
Causes l x p q h Control = (x.control ≢ control.None) × (q.looks ≡ p.looks)
Causes l x p q h Miss = Misses l x p q
Causes l x p q h Late = HitsLate l x p q h
Causes l x p q h Light = ⊥

-- a row answered the packet: it has no control, this call's look hit, and the until of the row that it hit isn't below the packet's moment
pub record IsByRow (l : Looking) (x : Crossing) (p q : Pass) (a : AnswerSeen) : Type 0 where
  pub control : x.control ≡ control.None
  pub hit : HitsInTime l x p q
  pub read : a.entry ≡ false

-- why a packet's answer is no row's, if it isn't, and what its look had seen
pub record HasCause (l : Looking) (x : Crossing) (p q : Pass) (why : Why) : Type 0 where
  pub history : List Event
  pub after : IsPrefix p.front history
  pub before : IsPrefix history q.front
  pub causes : Causes l x p q history why

abbrev pub TellsWhy : Looking → Crossing → Pass → Pass → AnswerSeen → Option Why → Type 0
TellsWhy l x p q a None = IsByRow l x p q a
TellsWhy l x p q a (Some why) = HasCause l x p q why

-- the pass has looked no further, and what its last look saw stays
pub record KeepsLook (p q : Pass) : Type 0 where
  pub looks : q.looks ≡ p.looks
  pub last : q.last ≡ p.last

-- a row answered the packet, as a read of the history that the pass then has seen; or none did, for this cause, and the pass has only looked
abbrev pub IsFast : Looking → UnitSeen → Writing → Writing → List ℕ → Fast → Type 0
IsFast l u p q out (Done a) =
    Crosses (opening_of l.1) p q (call_of u a out) × IsRead (opening_of l.1) q.view.front (call_of u a out) × (a.why ≡ None) × IsByRow l u.crossing p.view q.view a
IsFast l u p q out (Slow t) = Looks p q × (t.unit ≡ u) × Causes l u.crossing p.view q.view q.view.front t.why

-- a packet that passes fits the room
abbrev pub FitsRoom : Fate → Type 0
FitsRoom fate = len_of fate ≤ 65700

abbrev pub DoneFits : Fast → Type 0
DoneFits (Done a) = FitsRoom a.fate
DoneFits (Slow t) = Unit {0}
