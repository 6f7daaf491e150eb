-- Controllers apart: what a command finds and leaves of the layers of its own controller and of others.
use Rattle.std.specs.Prelude.{◌≡◌, ◌↔◌, ℕ, ◌==◌, List, true, false, filter, Result, Ok, Err}
use Rattle.vsw_rule.specs.declared.rule.Rule.{Rule}
use Rattle.vsw_policy.specs.Layer.{LayerSeen}
use Rattle.vsw_policy.specs.Staying.{same_rule}
use Rattle.vsw_policy.specs.declared.command.Command.{Command}
use Rattle.vsw_policy.specs.declared.refusal.Refusal.{Refusal}
use Rattle.vsw_policy.specs.Layers.{is_of}
use Rattle.vsw_policy.specs.Obey.{obey}
use Rattle.vsw_policy.specs.Sound.{AreInOrder}

-- the layers of every other controller are as they were
abbrev pub OthersStay : ℕ → List LayerSeen → List LayerSeen → Type 0
OthersStay c old new = (d : ℕ) → (d == c) ≡ false → filter (is_of d) new ≡ filter (is_of d) old

-- an answer, with the layers of one controller alone
abbrev pub of_own : ℕ → Result (List LayerSeen) Refusal → Result (List LayerSeen) Refusal
of_own c (Ok ls) = Ok (filter (is_of c) ls)
of_own c (Err e) = Err e

-- a controller is answered, and finds its layers afterwards, as if there were no others
abbrev pub ObeysAlone : Type 0
ObeysAlone = (cs : List ℕ) (ls : List LayerSeen) (c : ℕ) (m : Command) → AreInOrder cs ls → of_own c (obey cs ls c m) ≡ obey cs (filter (is_of c) ls) c m

-- rules compare as equal exactly where they are one
abbrev pub SameIsEqual : Type 0
SameIsEqual = (r s : Rule) → (same_rule r s ≡ true) ↔ (r ≡ s)
