-- Each packet has its line.
use Rattle.std.specs.Prelude.{◌≡◌, ◌≤◌, ◌<◌, ℕ, ◌==◌, List, length, filter, false, if◌then◌else◌, Some, Result, Ok, Err}
use Rattle.std.specs.List.{flat_map, slice_get}
use Rattle.vsw_base.specs.declared.flow.Place.{Place}
use Rattle.vsw_base.specs.Frame.{Parts}
use Rattle.vsw_history_law.specs.Cover.{AreCovered}
use Rattle.vsw_history_law.specs.Law.{AreServed}
use Rattle.vsw_pcap.specs.declared.capture.Record.{Record}
use Rattle.vsw_promise.specs.Agree.{lines_at}
use Rattle.vsw_promise.specs.Jobs.{Setting, aim_of, macs_of}
use Rattle.vsw_promise.specs.Ports.{ports_of}
use Rattle.vsw_promise.specs.Rounds.{AreRounds}
use Rattle.vsw_promise.specs.Told.{fates_in}
use Rattle.vsw_report.specs.declared.round.LooseCause.{LooseCause}
use Rattle.vsw_report.specs.declared.round.Round.{Round}

-- how many lines of the port at a place tell of packet n, and how often it stands among the loose packets
abbrev pub times_at : ℕ → ℕ → List Round → ℕ
times_at place n rounds = length (fates_in n (lines_at place rounds))

abbrev pub times_loose : ℕ → List Round → ℕ
times_loose n rounds = length (filter (λ l. l.packet == n) (flat_map (λ r. r.loose) rounds))

-- one for the place to which a packet goes, and one for a loose packet
abbrev pub at_aim : ℕ → Result (Place × Parts) LooseCause → ℕ
at_aim place (Err why) = 0
at_aim place (Ok a) = if a.0.port == place then 1 else 0

abbrev pub if_loose : Result (Place × Parts) LooseCause → ℕ
if_loose (Err why) = 1
if_loose (Ok a) = 0

-- a packet has one line where it goes: at its port, or among the loose packets. No port has two, and where no packet is handed on there is no other
pub record HasItsLine (s : Setting) (rounds : List Round) (n : ℕ) (aim : Result (Place × Parts) LooseCause) : Type 0 where
  pub loose : times_loose n rounds ≡ if_loose aim
  pub own : (place : ℕ) → place < length (ports_of s.policy) → at_aim place aim ≡ 1 → times_at place n rounds ≡ 1
  pub most : (place : ℕ) → times_at place n rounds ≤ 1
  pub only : s.local ≡ false → (place : ℕ) → place < length (ports_of s.policy) → times_at place n rounds ≡ at_aim place aim

-- so it is of each packet of a trace that rounds cover
abbrev pub EachHasItsLine : Type 0
EachHasItsLine = (s : Setting) (records : List Record) (cuts : List ℕ) (rounds : List Round) (n : ℕ) (r : Record) → AreServed s → AreCovered cuts records → AreRounds s records cuts rounds → slice_get records n ≡ Some r
    → HasItsLine s rounds n (aim_of (macs_of s.policy) r)
