-- The history of a port: the layers after it, and when its entries are right.
use Rattle.std.specs.Prelude.{◌≡◌, ℕ, List, [], ◌∷◌, true, Result, Ok, Err}
use Rattle.vsw_port.specs.Cross.{cross_of}
use Rattle.vsw_port.specs.Fate.{fate_at}
use Rattle.vsw_policy.specs.Layer.{LayerSeen}
use Rattle.vsw_policy.specs.declared.refusal.Refusal.{Refusal}
use Rattle.vsw_policy.specs.declared.refusal.Reply.{Reply}
use Rattle.vsw_policy.specs.declared.refusal.Reply.TheVariants as reply
use Rattle.vsw_policy.specs.Obey.{obey}
use Rattle.vsw_port.specs.declared.event.Event.{Event}
use Rattle.vsw_port.specs.declared.event.Event.TheVariants as event

-- what a port begins with: the controllers, in the policy's order, and the layers that the policy gives it, without pairs
pub record Opening : Type 0 where
  pub controllers : List ℕ
  pub layers : List LayerSeen

-- the reply that an obeyed or refused command gets
abbrev pub reply_in : Result (List LayerSeen) Refusal → Reply
reply_in (Ok ls) = reply.Ok
reply_in (Err why) = reply.Refused why

-- a refused command leaves the layers as they were
abbrev pub left_by : List LayerSeen → Result (List LayerSeen) Refusal → List LayerSeen
left_by ls (Ok new) = new
left_by ls (Err why) = ls

-- the layers after an entry
abbrev pub after : List ℕ → List LayerSeen → Event → List LayerSeen
after cs ls (event.Command controller line command reply) = left_by ls (obey cs ls controller command)
after cs ls (event.Crossing x fate) = (cross_of ls x).layers

-- the layers after entries, one after the other
abbrev pub after_all : List ℕ → List LayerSeen → List Event → List LayerSeen
after_all cs ls [] = ls
after_all cs ls (e ∷ es) = after_all cs (after cs ls e) es

-- the layers of a port after a history
abbrev pub replay : Opening → List Event → List LayerSeen
replay o h = after_all o.controllers o.layers h

-- a command has the reply that its controller gets at the layers before it. A packet has the fate of its crossing there, and this changes something
abbrev pub IsRight : List ℕ → List LayerSeen → Event → Type 0
IsRight cs ls (event.Command controller line command reply) = reply ≡ reply_in (obey cs ls controller command)
IsRight cs ls (event.Crossing x fate) = (fate ≡ fate_at ls x) × ((cross_of ls x).changed ≡ true)

-- each entry is right at the layers that those before it leave
abbrev pub AreRight : List ℕ → List LayerSeen → List Event → Type 0
AreRight cs ls [] = Unit {0}
AreRight cs ls (e ∷ es) = IsRight cs ls e × AreRight cs (after cs ls e) es

-- so is each entry of a port's history
abbrev pub AllRight : Opening → List Event → Type 0
AllRight o h = AreRight o.controllers o.layers h
