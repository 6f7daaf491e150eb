-- What a row answers a packet, and why none does.
use Rattle.std.specs.Prelude.{◌≡◌, ◌≢◌, ◌<◌, ◌≤◌, ◌+◌, ◌%◌, ℕ, List, false, true, length}
use Rattle.vsw_answer.specs.declared.answer.RowAnswer.{RowAnswer}
use Rattle.vsw_answer.specs.declared.answer.RowAnswer.TheVariants.{Read, Control, Miss, Late}
use Rattle.vsw_base.specs.declared.flow.Crossing.{Crossing}
use Rattle.vsw_base.specs.declared.flow.Ufid.{Ufid}
use Rattle.vsw_base.specs.declared.header.Header.{Header}
use Rattle.vsw_base.specs.declared.packet.Control.TheVariants as control
use Rattle.vsw_base.specs.Frame.{Parts}
use Rattle.vsw_flows.specs.Flows.{Looking}
use Rattle.vsw_port.specs.declared.event.Event.{Event}
use Rattle.vsw_port.specs.Calls.{Carried, Reads}
use Rattle.vsw_port.specs.History.{replay}
use Rattle.vsw_rows.specs.Good.{Good, Row}
use Rattle.vsw_table.specs.declared.view.View.{View}
use Rattle.vsw_table.specs.Held.{Found, Missed}
use Rattle.vsw_policy.specs.Layers.{PolicySeen}
use Rattle.vsw_port.specs.declared.crossing.Outcome.{Outcome}
use Rattle.vsw_port.specs.Crossed.{EditsPass, IsOwn}
use Rattle.vsw_rows.specs.GoodRows.{opening_of, words_of}
use Rattle.vsw_words.specs.Key.{key_words}
use Rattle.vsw_words.specs.Row.{in_use}
use Rattle.vsw_words.specs.Slot.{slot}

abbrev pub Pass : Type 0
Pass = View PolicySeen Event

-- the outcome is that of the layers after the history which the pass then has seen, of so many entries. The packet changes nothing there
pub record Answers (l : Looking) (x : Crossing) (q : Pass) (edited : List Header) (outcome : Outcome) (count : ℕ) : Type 0 where
  pub control : x.control ≡ control.None
  pub counted : count ≡ length q.front
  pub reads : (p : Parts) (bytes : List ℕ) → Reads (replay (opening_of l.1) q.front) (Carried x p outcome.fate bytes)
  pub edits : EditsPass (replay (opening_of l.1) q.front) x edited outcome.kept outcome.fate
  pub own : outcome.own ≡ true → IsOwn x edited outcome.kept
  pub entry : outcome.entry ≡ false

-- the look of the pass that ended last tried one of the identity's eight rows, read these words of it, all that are in use, and loaded one stamp, not 0,
-- before and after
abbrev pub HasHit : Looking → Ufid → Pass → List ℕ → Type 0
HasHit l id q words = (j : ℕ) × (j < 8) × Found in_use words ((slot (key_words id.dir id.stack) l.2 + j) % l.2) q.last

-- this call's look hit a row, whose until isn't below the packet's moment. The row is of the packet's identity, and good after the history which
-- the pass then has seen
pub record HitsInTime (l : Looking) (x : Crossing) (p q : Pass) : Type 0 where
  pub begun : p.looks < q.looks
  pub row : Row
  pub hit : HasHit l x.id q (words_of row)
  pub id : row.id ≡ x.id
  pub good : Good (replay (opening_of l.1) q.front) row
  pub in_time : x.moment ≤ row.until

-- each of the packet's eight rows was tried since the call began, and its stamp was 0, or it has another key, or its stamp was another afterwards
pub record Misses (l : Looking) (x : Crossing) (p q : Pass) : Type 0 where
  pub control : x.control ≡ control.None
  pub begun : p.looks < q.looks
  pub missed : (j : ℕ) → j < 8 → Missed (key_words x.id.dir x.id.stack) ((slot (key_words x.id.dir x.id.stack) l.2 + j) % l.2) q.last

-- this call's look hit a row, whose until is below the packet's moment. The row is of the packet's identity, and good after this history, which the
-- look had seen
pub record HitsLate (l : Looking) (x : Crossing) (p q : Pass) (h : List Event) : Type 0 where
  pub control : x.control ≡ control.None
  pub begun : p.looks < q.looks
  pub row : Row
  pub hit : HasHit l x.id q (words_of row)
  pub id : row.id ≡ x.id
  pub good : Good (replay (opening_of l.1) h) row
  pub late : row.until < x.moment

abbrev pub Tells : Looking → Crossing → Pass → Pass → List Header → RowAnswer → Type 0
Tells l x p q edited (Read outcome count) = Answers l x q edited outcome count
Tells l x p q edited Control = (x.control ≢ control.None) × (q ≡ p)
Tells l x p q edited Miss = Misses l x p q
Tells l x p q edited Late = HitsLate l x p q q.front

-- what is known of this call's look where a row answers, beside what it tells
abbrev pub Sees : Looking → Crossing → Pass → Pass → RowAnswer → Type 0
Sees l x p q (Read outcome count) = HitsInTime l x p q
Sees l x p q answer = Unit {0}
