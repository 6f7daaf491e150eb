-- Levels of a frame, in the words of the definition of a frame.
use Rattle.std.specs.Prelude.{ℕ, ◌≤◌, length, List, [], ◌∷◌, ◌++◌, Option, Some, None, Result, Ok, Err}
use Rattle.vsw_base.specs.declared.fault.BadFrame.{BadFrame}
use Rattle.vsw_base.specs.Frame as frame
use Rattle.vsw_frame.specs.declared.frame.Level.{Level}
use Rattle.vsw_frame.specs.declared.frame.Levels.{Levels}
use Rattle.vsw_base.specs.declared.header.Header.{Header}
use Rattle.vsw_frame.specs.Layout.{AreLaid}

abbrev pub trailer_in : Result frame.Opened BadFrame → List ℕ
trailer_in (Ok o) = o.trailer
trailer_in (Err e) = []

abbrev pub slack_in : Result frame.Opened BadFrame → List ℕ
slack_in (Ok o) = frame.slack_in o.end
slack_in (Err e) = []

-- what stands in a frame after the length that IPv4 or IPv6 says, and after the UDP length
unfoldable pub trailer_of : List ℕ → List ℕ
trailer_of bytes = trailer_in (frame.opened_of bytes)

unfoldable pub slack_of : List ℕ → List ℕ
slack_of bytes = slack_in (frame.opened_of bytes)

abbrev pub level_fields : Level → frame.Level
level_fields l = record { bytes = l.bytes.now; trailer = trailer_of l.bytes.now; slack = slack_of l.bytes.now }

abbrev pub more_levels : Option Level → List frame.Level
more_levels None = []
more_levels (Some l) = level_fields l ∷ []

-- levels, outermost first
abbrev pub levels_in : Level → Option Level → Option Level → List frame.Level
levels_in first second third = level_fields first ∷ (more_levels second ++ more_levels third)

abbrev pub levels_of : Levels → List frame.Level
levels_of l = levels_in l.first l.second l.third

-- where the third is there, the second is
abbrev pub IsInOrder : Levels → Type 0
IsInOrder l = length (more_levels l.third) ≤ length (more_levels l.second)

-- levels in their order, the last of which has room for these headers
pub record Stand (hs : List Header) (l : Levels) : Type 0 where
  pub in_order : IsInOrder l
  pub laid : AreLaid hs (levels_of l)
  pub short : length l.first.bytes.now ≤ 65600
