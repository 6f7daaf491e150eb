-- Which entries of a port's history shake a row.
use Rattle.std.specs.Prelude.{◌≡◌, ℕ, List, [], ◌∷◌, Bool, true, false}
use Rattle.vsw_port.specs.Cross.{made_by}
use Rattle.vsw_port.specs.declared.event.Event.{Event}
use Rattle.vsw_port.specs.declared.event.Event.TheVariants as event
use Rattle.vsw_port.specs.History.{after}
use Rattle.vsw_policy.specs.Layer.{LayerSeen}
use Rattle.vsw_rows.specs.Good.{LeaningRow, shaken}
use Rattle.vsw_policy.specs.declared.refusal.Reply.{Reply}
use Rattle.vsw_policy.specs.declared.refusal.Reply.TheVariants.{Ok, Refused}
use Rattle.vsw_policy.specs.Sound.{Each}

-- the command was obeyed
abbrev pub is_obeyed : Reply → Bool
is_obeyed Ok = true
is_obeyed (Refused why) = false

-- an entry at these layers shakes a row: a command that was obeyed shakes any, a refused one none, and a packet shakes it where one of the
-- changes of its crossing shakes a look on which the row leans
abbrev pub entry_shakes : List LayerSeen → Event → LeaningRow → Bool
entry_shakes ls (event.Command controller line command reply) k = is_obeyed reply
entry_shakes ls (event.Crossing x fate) k = shaken ls (made_by ls x) k

-- an entry shakes none of the rows
abbrev pub ShakesNone : List LayerSeen → Event → List LeaningRow → Type 0
ShakesNone ls e ks = Each (λ k. entry_shakes ls e k ≡ false) ks

-- none of these entries does, each at the layers that those before it leave
abbrev pub ShakeNone : List ℕ → List LayerSeen → List Event → List LeaningRow → Type 0
ShakeNone cs ls [] ks = Unit {0}
ShakeNone cs ls (e ∷ es) ks = ShakesNone ls e ks × ShakeNone cs (after cs ls e) es ks
