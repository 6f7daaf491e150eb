-- A port's layers and its history under one owner.
use Rattle.std.specs.Prelude.{◌≡◌, ◌≤◌, ℕ, List, [], ◌∷◌, length, Bool, true, false}
use Rattle.vsw_base.specs.declared.header.Header.{Header}
use Rattle.vsw_port.specs.declared.event.Event.{Event}
use Rattle.vsw_port.specs.History.{Opening, AllRight, replay}
use Rattle.vsw_policy.specs.Layer.{LayerSeen}
use Rattle.vsw_policy.specs.Layers.{PolicySeen}
use Rattle.vsw_policy.specs.Sound.{Each}

-- what a port began with, its history since, for how many more entries its journal has room, and the headers with which the walk of the
-- last packet ended
pub record CoreSeen : Type 0 where
  pub opening : Opening
  pub journal : List Event
  pub room : ℕ
  pub edited : List Header

-- the layers that stand: those that the history leaves
abbrev pub layers_of : CoreSeen → List LayerSeen
layers_of c = replay c.opening c.journal

-- a port begins with the controllers and the layers of its policy
abbrev pub opening_of : PolicySeen → Opening
opening_of p = record { controllers = p.controllers; layers = p.layers }

-- the next pair of each layer has at most this number
abbrev pub AreAtMost : ℕ → List LayerSeen → Type 0
AreAtMost n ls = Each (λ l. l.next_pair ≤ n) ls

-- a policy is what this history leaves of the opening, and each entry of it is right. Each entry makes one pair of a layer at most
pub record IsHeld (o : Opening) (h : List Event) (p : PolicySeen) : Type 0 where
  pub layers : p.layers ≡ replay o h
  pub controllers : p.controllers ≡ o.controllers
  pub right : AllRight o h
  pub numbers : AreAtMost (length h) p.layers

-- what stands in the journal behind a call: its entry, where it is one
abbrev pub entered : Bool → Event → List Event
entered true e = e ∷ []
entered false e = []
