-- What stands after the lengths of a frame that was opened.
use Rattle.std.proofs.Common.{◌≡◌, ℕ, List, ◌∷◌, ◌++◌, Option, Some, None, Ok, sym, ap}
use Rattle.vsw_base.specs.Frame.{Opened, opened_of}
use Rattle.vsw_base.specs.Frame as frame
use Rattle.vsw_frame.specs.declared.frame.Level.{Level}
use Rattle.vsw_frame.specs.Levels.{level_fields, more_levels, trailer_in, trailer_of, slack_in, slack_of}

pub trailer_is : (bytes : List ℕ) (o : Opened) → Ok o ≡ opened_of bytes → trailer_of bytes ≡ o.trailer
unfolding trailer_of
trailer_is bytes o e = ap trailer_in (sym e)

pub slack_is : (bytes : List ℕ) (o : Opened) → Ok o ≡ opened_of bytes → slack_of bytes ≡ frame.slack_in o.end
unfolding slack_of
slack_is bytes o e = ap slack_in (sym e)

-- the level of a frame that was opened
pub level_is : (bytes : List ℕ) (o : Opened) → Ok o ≡ opened_of bytes → record { bytes = bytes; trailer = trailer_of bytes; slack = slack_of bytes } ≡ frame.level_of bytes o
level_is bytes o e = λ j. record { bytes = bytes; trailer = trailer_is bytes o e j; slack = slack_is bytes o e j }

-- a third level that isn't there
pub two_levels : (second third : Option Level) → third ≡ None → more_levels second ≡ more_levels second ++ more_levels third
two_levels None third e = ap more_levels (sym e)
two_levels (Some l) third e = ap (λ (t : Option Level). level_fields l ∷ more_levels t) (sym e)
