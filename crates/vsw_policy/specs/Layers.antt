-- The layers of a port, what names one, and the order in which they stand.
use Rattle.std.specs.Prelude.{ℕ, zero, suc, ◌==◌, ◌&&◌, ◌||◌, List, [], ◌∷◌, Bool, nat_lt, get_or, if◌then◌else◌}
use Rattle.vsw_policy.specs.Layer.{LayerSeen}

-- the controllers of a port, its layers, and for how many more pairs each of these has room
pub record PolicySeen : Type 0 where
  pub controllers : List ℕ
  pub layers : List LayerSeen
  pub rooms : List ℕ

-- for how many more pairs the layer at a place has room
abbrev pub room_at : PolicySeen → ℕ → ℕ
room_at p place = get_or p.rooms place 0

-- P holds of the layer at a place, and there is one
abbrev pub At : ℕ → (LayerSeen → Type 0) → List LayerSeen → Type 0
At n P [] = ⊥
At zero P (l ∷ ls) = P l
At (suc n) P (l ∷ ls) = At n P ls

-- the layer at a place is changed, and the others stay
abbrev pub changed_at : ℕ → (LayerSeen → LayerSeen) → List LayerSeen → List LayerSeen
changed_at n f [] = []
changed_at zero f (l ∷ ls) = f l ∷ ls
changed_at (suc n) f (l ∷ ls) = l ∷ changed_at n f ls

-- the layer is this controller's
abbrev pub is_of : ℕ → LayerSeen → Bool
is_of c l = c == l.controller

-- the layer of this name
abbrev pub is_layer : ℕ → ℕ → LayerSeen → Bool
is_layer c n l = c == l.controller && n == l.spec.layer

-- the place of a controller in the list
abbrev pub place_of : ℕ → List ℕ → ℕ
place_of c [] = 0
place_of c (d ∷ ds) = if c == d then 0 else suc (place_of c ds)

-- less, or equal and less by what comes next
abbrev pub less_or : ℕ → ℕ → Bool → Bool
less_or a b next = nat_lt a b || (a == b && next)

-- layers stand by their order, then by the place of their controller, then by their number
abbrev pub is_before : List ℕ → LayerSeen → LayerSeen → Bool
is_before cs a b = less_or a.spec.order b.spec.order (less_or (place_of a.controller cs) (place_of b.controller cs) (nat_lt a.spec.layer b.spec.layer))
