-- Tests in the order of their refusals' numbers.
use Rattle.std.specs.Prelude.{◌≡◌, ℕ, ◌≤◌, ◌<◌, List, [], ◌∷◌, Bool, true, Err}
use Rattle.vsw_policy.specs.Layer.{LayerSeen}
use Rattle.vsw_policy.specs.declared.command.Command.{Command}
use Rattle.vsw_policy.specs.declared.refusal.Refusal.{Refusal}
use Rattle.vsw_policy.specs.Obey.{tests, obey}
use Rattle.vsw_policy.specs.Refusals.{refusal_number}
use Rattle.vsw_policy.specs.Sound.{Each}

-- each test's refusal has a lesser number than those behind it
abbrev pub AreAscending : List (Bool × Refusal) → Type 0
AreAscending [] = Unit {0}
AreAscending (t ∷ ts) = Each (λ (u : Bool × Refusal). refusal_number t.1 < refusal_number u.1) ts × AreAscending ts

-- the tests of every command stand in the order of the numbers
abbrev pub TestsAscend : Type 0
TestsAscend = (ls : List LayerSeen) (c : ℕ) (m : Command) → AreAscending (tests ls c m)

-- a command is refused by the least number of all tests that apply
abbrev pub LeastIsTold : Type 0
LeastIsTold = (cs : List ℕ) (ls : List LayerSeen) (c : ℕ) (m : Command) (e : Refusal) → obey cs ls c m ≡ Err e → Each (λ (t : Bool × Refusal). t.0 ≡ true → refusal_number e ≤ refusal_number t.1) (tests ls c m)
