-- What is known of a frame that was read.
use Rattle.std.specs.Prelude.{◌≡◌, ℕ, List, Option, None, Ok}
use Rattle.vsw_base.specs.declared.header.Header.{Header}
use Rattle.vsw_base.specs.declared.packet.Control.{Control}
use Rattle.vsw_base.specs.declared.packet.Sizes.{Sizes}
use Rattle.vsw_base.specs.Frame.{frame_of, sizes_of}
use Rattle.vsw_frame.specs.Levels.{levels_in}
use Rattle.vsw_frame.specs.declared.frame.Level.{Level}

-- the parts are what the first level's bytes say, the sizes are those of the levels, and no level is left out
pub record IsRead (stack : List Header) (control : Control) (sizes : Sizes) (first : Level) (second third : Option Level) (payload : List ℕ) : Type 0 where
  pub parts : frame_of first.bytes.now ≡ Ok (record { stack = stack; control = control; levels = levels_in first second third; payload = payload })
  pub size : sizes ≡ sizes_of (levels_in first second third)
  pub in_order : second ≡ None → third ≡ None
