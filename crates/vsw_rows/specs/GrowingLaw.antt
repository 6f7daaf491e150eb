-- What holds of rows while a port's history grows.
use Rattle.std.specs.Prelude.{ℕ, List}
use Rattle.vsw_port.specs.declared.event.Event.{Event}
use Rattle.vsw_port.specs.History.{AreRight, IsRight, after, after_all}
use Rattle.vsw_policy.specs.Layer.{LayerSeen}
use Rattle.vsw_rows.specs.Good.{IsGoodLeaning, LeaningRow}
use Rattle.vsw_rows.specs.Entries.{ShakeNone, ShakesNone}
use Rattle.vsw_policy.specs.Sound.{Each}

-- an entry that shakes no row leaves every good row good, and leaning on what it leant on
abbrev pub EntryLeaves : Type 0
EntryLeaves = (cs : List ℕ) (ls : List LayerSeen) (e : Event) (ks : List LeaningRow) → IsRight cs ls e → ShakesNone ls e ks → Each (IsGoodLeaning ls) ks → Each (IsGoodLeaning (after cs ls e)) ks

-- so do entries of which none shakes a row, one after the other
abbrev pub EntriesLeave : Type 0
EntriesLeave = (cs : List ℕ) (ls : List LayerSeen) (es : List Event) (ks : List LeaningRow) → AreRight cs ls es → ShakeNone cs ls es ks → Each (IsGoodLeaning ls) ks → Each (IsGoodLeaning (after_all cs ls es)) ks
