-- How a machine is held: a front as the number of its entries, the log with the oldest load first, and room for steps.
use Rattle.std.specs.Prelude.{ℕ, ◌≡◌, ◌+◌, ◌≤◌, Bool, true, false, MatchBool, List, [], ◌∷◌, take}
use Rattle.vsw_stamps.specs.declared.step.Step.{Step}
use Rattle.vsw_stamps.specs.declared.scan.Sight.{Sight}
use Rattle.vsw_stamps.specs.Machine.{State, Actor, can, next}

-- a machine, and how many further steps it has room for
pub record Stored (E : Type 0) : Type 0 where
  pub state : State E
  pub room : ℕ

abbrev pub actor_of : {E : Type 0} → List E → Sight → Actor E
actor_of h s = record { live = s.live; front = take s.count h }

abbrev pub actors_of : {E : Type 0} → List E → List Sight → List (Actor E)
actors_of h [] = []
actors_of h (s ∷ ss) = actor_of h s ∷ actors_of h ss

-- each actor has seen at most n entries
abbrev pub AllWithinFirst : ℕ → List Sight → Type 0
AllWithinFirst n [] = Unit {0}
AllWithinFirst n (s ∷ ss) = (s.count ≤ n) × AllWithinFirst n ss

-- the step was made and took room for one, or its condition doesn't hold and nothing changed
abbrev pub Made : {E : Type 0} → (List E → List ℕ → Bool) → Step E → Stored E → Stored E → Bool → Type 0
Made test s old new made = MatchBool made ((can test old.state s ≡ true) × (new.state ≡ next old.state s) × (new.room + 1 ≡ old.room)) ((can test old.state s ≡ false) × (new ≡ old))
