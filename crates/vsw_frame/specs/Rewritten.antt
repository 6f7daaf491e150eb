-- A frame that was read and rewritten, and what holds of its checksums.
use Rattle.std.specs.Prelude.{◌≡◌, ℕ, List, take, Option, Some, None, Result, Ok, Err, if◌then◌else◌}
use Rattle.vsw_base.specs.declared.fault.BadFrame.{BadFrame}
use Rattle.vsw_base.specs.declared.fault.Long.{Long}
use Rattle.vsw_base.specs.declared.header.Header.{Header}
use Rattle.vsw_base.specs.Frame.{Parts}
use Rattle.vsw_base.specs.Shape.{inner}
use Rattle.vsw_transpose.specs.declared.act.Act.{Act}
use Rattle.vsw_transpose.specs.Apply.{apply}
use Rattle.vsw_transpose.specs.Fits.{fits, kept}
use Rattle.vsw_frame.specs.Bytes.{answer, outgoing}
use Rattle.vsw_frame.specs.RoundTrip.{IsRewriting, levels_written}
use Rattle.vsw_frame.specs.Sums.{HasNoSum, IsEndRight, IsIpRight, innermost}

abbrev pub length_answered : Result ℕ Long → Option ℕ
length_answered (Ok n) = Some n
length_answered (Err long) = None

-- the bytes of what is written for a frame; nothing is where there is none, the acts don't fit it, or it gets too long
abbrev pub length_written : Result Parts BadFrame → List Act → Option ℕ
length_written (Err fault) acts = None
length_written (Ok p) acts = if fits acts p.stack then length_answered (answer p (apply acts p.stack) (kept acts)) else None

-- what holds of the inner frame holds of it as it is written
abbrev pub StaysSo : (List Header → List ℕ → Type 0) → Parts → List Header → ℕ → Type 0
StaysSo Right p edited kept = Right (inner p.stack) (innermost p.levels) → Right (inner edited) (innermost (levels_written p edited kept))

-- n bytes at the front of `out` are what the acts make of the frame. Right checksums are right, and UDP without one has none
pub record IsRewritten (bytes : List ℕ) (acts : List Act) (out : List ℕ) (n : ℕ) : Type 0 where
  pub parts : Parts
  pub rewriting : IsRewriting bytes parts (apply acts parts.stack) (kept acts) n
  pub written : take n out ≡ outgoing parts (apply acts parts.stack) (kept acts)
  pub ip : StaysSo IsIpRight parts (apply acts parts.stack) (kept acts)
  pub end : StaysSo IsEndRight parts (apply acts parts.stack) (kept acts)
  pub none : StaysSo HasNoSum parts (apply acts parts.stack) (kept acts)
