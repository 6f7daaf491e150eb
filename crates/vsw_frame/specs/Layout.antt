-- Where the headers of a frame's levels stand.
use Rattle.std.specs.Prelude.{◌≡◌, ◌≤◌, ℕ, ◌+◌, List, [], ◌∷◌, ◌++◌, length, take, drop}
use Rattle.vsw_base.specs.declared.header.Header.{Header}
use Rattle.vsw_base.specs.Frame.{Level}
use Rattle.vsw_frame.specs.Kept.{udp_at}
use Rattle.vsw_frame.specs.Room.{HasFrame}

-- Ethernet, IPv4, UDP and VXLAN, then the inner bytes, then slack and trailer
pub record IsAround (l : Level) (inner : List ℕ) : Type 0 where
  pub ether : 15 ≤ length l.bytes
  pub ip : 34 ≤ udp_at l.bytes
  pub room : udp_at l.bytes + 16 + length inner ≤ length l.bytes
  pub inside : take (length inner) (drop (udp_at l.bytes + 16) l.bytes) ≡ inner
  pub behind : drop (udp_at l.bytes + 16 + length inner) l.bytes ≡ l.slack ++ l.trailer

-- levels, outermost first, the last of which has room for these headers
abbrev pub AreLaid : List Header → List Level → Type 0
AreLaid hs [] = ⊥
AreLaid hs (l ∷ []) = HasFrame hs l.bytes
AreLaid hs (l ∷ m ∷ ls) = IsAround l m.bytes × AreLaid hs (m ∷ ls)
