-- Lists that are changed element by element.
use Rattle.std.specs.Prelude.{◌≡◌, List, [], ◌∷◌, drop}
use Rattle.vsw_flows.specs.Flows.{Writing}

-- passes of which the first was taken at each port
abbrev pub AreLater : List (List Writing) → List (List Writing) → Type 0
AreLater [] [] = Unit {0}
AreLater (ps ∷ pss) (qs ∷ qss) = (qs ≡ drop 1 ps) × AreLater pss qss
AreLater _ _ = ⊥
