-- The ports of a run, and what each is when it is opened.
use Rattle.std.specs.Prelude.{◌≡◌, ◌+◌, ℕ, List, [], ◌∷◌, Some, Vec}
use Rattle.std.specs.List.{slice_get}
use Rattle.vsw_flows.specs.Flows.{IsOf, Looking, Writing}

-- a port as contracts see it: its lookup, and how many passes it has
pub record PortSeen : Type 0 where
  pub looking : Looking
  pub passes : ℕ

-- this port stands at that place in the run's list
abbrev pub StandsAt : List PortSeen → ℕ → PortSeen → Type 0
StandsAt ports place port = slice_get ports place ≡ Some port

-- a pass that has seen nothing and made nothing, and may make nothing
pub record IsNewPass (l : Looking) (n : ℕ) (p : Writing) : Type 0 where
  pub of : IsOf l p
  pub number : p.view.number ≡ n
  pub front : p.view.front ≡ []
  pub receipts : p.view.receipts ≡ []
  pub permits : p.view.permits ≡ 0

-- so are all of these, whose numbers go on from this one
abbrev pub AreNewPasses : Looking → ℕ → List Writing → Type 0
AreNewPasses l n [] = Unit {0}
AreNewPasses l n (p ∷ ps) = IsNewPass l n p × AreNewPasses l (n + 1) ps

-- a port without a name: the port, and its passes
pub record OpenSeen : Type 0 where
  pub port : PortSeen
  pub passes : List Writing

-- the ports that were opened, in order
abbrev pub ports_of : List OpenSeen → List PortSeen
ports_of [] = []
ports_of (o ∷ os) = o.port ∷ ports_of os

-- and the passes of each
abbrev pub passes_of : List OpenSeen → List (List Writing)
passes_of [] = []
passes_of (o ∷ os) = o.passes ∷ passes_of os

abbrev pub items_of : {G : Type 0} → List (Vec Writing G) → List (List Writing)
items_of [] = []
items_of (v ∷ vs) = v.items ∷ items_of vs
