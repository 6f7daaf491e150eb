-- The parts of a frame tile it: headers, payload, slacks and trailers are its bytes, in order, none of
-- them twice and none left out.
use Rattle.std.specs.Prelude.{◌≡◌, ℕ, List, [], ◌∷◌, ◌++◌}
use Rattle.vsw_base.specs.Frame.{Level, Parts}

-- headers, then these bytes, then the level's slack and its trailer
abbrev pub Surrounds : Level → List ℕ → Type 0
Surrounds l inner = (headers : List ℕ) × (l.bytes ≡ headers ++ (inner ++ (l.slack ++ l.trailer)))

-- each level surrounds the next one, and the innermost the payload
abbrev pub TilesAt : List Level → List ℕ → Type 0
TilesAt [] payload = ⊥
TilesAt (l ∷ []) payload = Surrounds l payload
TilesAt (l ∷ m ∷ ls) payload = Surrounds l m.bytes × TilesAt (m ∷ ls) payload

-- bytes of the outermost level
abbrev pub outermost : List Level → List ℕ
outermost [] = []
outermost (l ∷ ls) = l.bytes

pub record Tiles (bytes : List ℕ) (p : Parts) : Type 0 where
  pub whole : outermost p.levels ≡ bytes
  pub tiled : TilesAt p.levels p.payload
