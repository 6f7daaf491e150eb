-- A port as one thread has it.
use Rattle.std.specs.Prelude.{◌≡◌, ◌≢◌, ℕ, Bool, false, List, Option, Some, None}
use Rattle.vsw_answer.specs.declared.told.Why.{Why}
use Rattle.vsw_answer.specs.declared.told.Why.TheVariants as cause
use Rattle.vsw_base.specs.declared.flow.Crossing.{Crossing}
use Rattle.vsw_base.specs.declared.header.Header.{Header}
use Rattle.vsw_base.specs.declared.packet.Control.TheVariants as control
use Rattle.vsw_port.specs.declared.event.Event.{Event}
use Rattle.vsw_port.specs.History.{Opening, replay}
use Rattle.vsw_policy.specs.Layer.{LayerSeen}

-- what a port began with, its history since, how many more entries each of its callers may make, the headers with which the walk of the
-- last packet ended, why no row answered that packet, if none did, and how many workers bring packets
pub record SoleSeen : Type 0 where
  pub opening : Opening
  pub journal : List Event
  pub room : ℕ
  pub edited : List Header
  pub why : Option Why
  pub workers : ℕ

-- the layers that stand: those that the history leaves
abbrev pub layers_of : SoleSeen → List LayerSeen
layers_of s = replay s.opening s.journal

-- a packet that a row answered has no control and is no entry. No row is looked for where the packet has one, or where the layers are light
abbrev pub IsWhy : Crossing → Bool → Option Why → Type 0
IsWhy x entry None = (x.control ≡ control.None) × (entry ≡ false)
IsWhy x entry (Some cause.Control) = x.control ≢ control.None
IsWhy x entry (Some cause.Miss) = x.control ≡ control.None
IsWhy x entry (Some cause.Late) = x.control ≡ control.None
IsWhy x entry (Some cause.Light) = Unit {0}
