-- When changes can be made of layers, one after the other.
use Rattle.std.specs.Prelude.{◌≡◌, ◌<◌, ◌≤◌, ◌==◌, ℕ, List, [], ◌∷◌, false, length}
use Rattle.vsw_port.specs.Cross.{done}
use Rattle.vsw_port.specs.WalkWanted.{Wanted}
use Rattle.vsw_port.specs.WalkWanted.TheVariants.{Make, Touch, Leave}
use Rattle.vsw_policy.specs.Layer.{LayerSeen, CanTake}
use Rattle.vsw_policy.specs.Layers.{PolicySeen, At, room_at}
use Rattle.vsw_policy.specs.Sound.{Each}

-- the layer is there, and can take the pair that is made
abbrev pub CanDo : Wanted → List LayerSeen → Type 0
CanDo (Make place p) ls = At place (CanTake p) ls
CanDo (Touch place number state last) ls = place < length ls
CanDo (Leave place number) ls = place < length ls

abbrev pub CanAll : List Wanted → List LayerSeen → Type 0
CanAll [] ls = Unit {0}
CanAll (w ∷ ws) ls = CanDo w ls × CanAll ws (done w ls)

-- the change is in one of so many layers
abbrev pub IsWithin : ℕ → Wanted → Type 0
IsWithin count (Make place p) = place < count
IsWithin count (Touch place number state last) = place < count
IsWithin count (Leave place number) = place < count

-- there is room for the pair that is made
abbrev pub HasRoom : Wanted → PolicySeen → Type 0
HasRoom (Make place p) s = 1 ≤ room_at s place
HasRoom (Touch place number state last) s = Unit {0}
HasRoom (Leave place number) s = Unit {0}

abbrev pub AllRoom : List Wanted → PolicySeen → Type 0
AllRoom ws s = Each (λ w. HasRoom w s) ws

-- no pair is made in the layer at this place
abbrev pub NotMade : ℕ → Wanted → Type 0
NotMade k (Make place p) = (k == place) ≡ false
NotMade k (Touch place number state last) = Unit {0}
NotMade k (Leave place number) = Unit {0}

-- no layer has two pairs made
abbrev pub AreApart : List Wanted → Type 0
AreApart [] = Unit {0}
AreApart (Make place p ∷ ws) = Each (NotMade place) ws × AreApart ws
AreApart (Touch place number state last ∷ ws) = AreApart ws
AreApart (Leave place number ∷ ws) = AreApart ws
