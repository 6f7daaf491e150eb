-- What stands in slacks and trailers is not read: other bytes there, as many, change nothing that a frame
-- says but its levels' bytes.
use Rattle.std.specs.Prelude.{◌≡◌, ℕ, List, [], ◌∷◌, ◌++◌, length, Result, Ok, Err}
use Rattle.vsw_base.specs.declared.fault.BadFrame.{BadFrame}
use Rattle.vsw_base.specs.Frame.{Level, Parts, frame_of}

-- the other bytes are as many, begin with the level's headers, and have `new` where the level has `inner`
abbrev pub SameHeaders : Level → List ℕ → List ℕ → List ℕ → Type 0
SameHeaders l inner new other =
    (headers : List ℕ) × (ends : List ℕ)
    × (l.bytes ≡ headers ++ (inner ++ (l.slack ++ l.trailer)))
    × (other ≡ headers ++ (new ++ ends))
    × (length other ≡ length l.bytes)

-- the other bytes differ from those of the first level in slacks and trailers alone
abbrev pub OtherEnds : List Level → List ℕ → List ℕ → Type 0
OtherEnds [] payload other = ⊥
OtherEnds (l ∷ []) payload other = SameHeaders l payload payload other
OtherEnds (l ∷ m ∷ ls) payload other = (new : List ℕ) × SameHeaders l m.bytes new other × OtherEnds (m ∷ ls) payload new

abbrev pub lengths : List Level → List ℕ
lengths [] = []
lengths (l ∷ ls) = length l.bytes ∷ lengths ls

-- the same headers, control and payload, and levels of the same lengths
pub record SaysAs (p q : Parts) : Type 0 where
  pub stack : q.stack ≡ p.stack
  pub control : q.control ≡ p.control
  pub payload : q.payload ≡ p.payload
  pub sizes : lengths q.levels ≡ lengths p.levels

abbrev pub IsReadAs : Parts → Result Parts BadFrame → Type 0
IsReadAs p (Ok q) = SaysAs p q
IsReadAs p (Err e) = ⊥

abbrev pub EndsAreUnread : Type 0
EndsAreUnread = (bytes other : List ℕ) (p : Parts) → frame_of bytes ≡ Ok p → OtherEnds p.levels p.payload other → IsReadAs p (frame_of other)
