-- What a frame that was read says.
use Rattle.std.specs.Prelude.{◌∷◌, ◌++◌, Result, Ok, Err}
use Rattle.vsw_base.specs.declared.fault.BadFrame.{BadFrame}
use Rattle.vsw_base.specs.Frame as definition
use Rattle.vsw_frame.specs.Levels.{level_fields, more_levels}
use Rattle.vsw_frame.specs.declared.frame.Frame.{Frame}

abbrev pub parts : Frame → definition.Parts
parts f = record { stack = f.stack.now; control = f.control; levels = level_fields f.first ∷ (more_levels f.second ++ more_levels f.third); payload = f.payload.now }

abbrev pub seen : Result Frame BadFrame → Result definition.Parts BadFrame
seen (Ok f) = Ok (parts f)
seen (Err e) = Err e
