-- A frame for another port, as the code has it.
use Rattle.std.specs.Prelude.{ℕ}
use Rattle.vsw_frame.specs.declared.frame.Frame.{Frame}
use Rattle.vsw_frame.specs.Frame.{parts}
use Rattle.vsw_promise.specs.Jobs.{Hop}

-- the place of a port, and a frame for it, as the packet that is handed on there
abbrev pub hop_in : ℕ × Frame → Hop
hop_in r = record { port = r.0; parts = parts r.1 }
