-- What rows answer, with its bytes in a room.
use Rattle.std.proofs.Common.{◌≡◌, ◌≤◌, ℕ, List, ◌++◌, Bool, true, false, nat_lt, length, take, if◌then◌else◌, Option, Some, None, Ok, Err, refl, ap, arith, length-take, true≢false}
use Rattle.std.specs.Prelude.{IfSome, get_or}
use Rattle.vsw_base.specs.declared.fate.Fate.{Fate}
use Rattle.vsw_base.specs.declared.fate.Fate.TheVariants.{Pass, Drop}
use Rattle.vsw_base.specs.declared.fate.Verdict.{Verdict}
use Rattle.vsw_base.specs.declared.fate.Verdict.TheVariants as verdict
use Rattle.vsw_base.specs.declared.flow.Crossing.{Crossing}
use Rattle.vsw_base.specs.declared.flow.Place.{Place}
use Rattle.vsw_base.specs.Frame.{Parts}
use Rattle.vsw_frame.specs.Bytes.{outer_total, outgoing}
use Rattle.vsw_offload.specs.Answered.{Answered, IsPacketOf, bytes_given, bytes_told, fate_by, fate_given, passed, rows_at}
use Rattle.vsw_offload.specs.declared.answer.Given.{Given}
use Rattle.vsw_offload.specs.Rows.{numbers_of}
use Rattle.vsw_offload.specs.declared.port_rows.PortRows.{PortRows}
use Rattle.vsw_promise.specs.Jobs.{crossing_by}
use Rattle.vsw_transpose.specs.Apply.{apply}
use Rattle.vsw_transpose.specs.Fits.{kept}
use Rattle.vsw_transpose.specs.declared.act.Act.{Act}
use Rattle.vsw_engine.specs.Private.Lines.{AddsAnswer, len_of, line_text}

-- packet n at a place and a moment is of its frame
pub is_packet : (n : ℕ) (place : Place) (moment : ℕ) (p : Parts) → IsPacketOf (crossing_by 0 n place moment p) place p moment
is_packet n place moment p = record { id = refl; control = refl; moment_is = refl }

-- a line was added, by what the rows answered
pub answer_added : (ports : List PortRows) (n moment : ℕ) (place : Place) (p : Parts) (port : ℕ) (fate : Option Fate) (bytes old new : List ℕ) → port ≡ get_or (numbers_of ports) place.port 0 → Answered (rows_at ports place.port) (crossing_by 0 n place moment p) p fate bytes → new ≡ old ++ line_text n port fate bytes
    → AddsAnswer ports n moment place p old new
answer_added ports n moment place p port fate bytes old new is answered told = (line_text n port fate bytes, told, record { fate = fate; bytes = bytes; answered = answered; line_is = ap (λ k. line_text n k fate bytes) is })

-- ---- a pass is no longer than its room

-- a pass has as many bytes as its length
pass_long : (acts : List Act) (p : Parts) (v : Verdict) (len : ℕ) → Pass len ≡ fate_by acts p v → len ≡ length (outgoing p (apply acts p.stack) (kept acts))
pass_long acts p (verdict.Rule controller layer group rule) len e = absurd (cc e)
pass_long acts p (verdict.Default controller layer dir) len e = absurd (cc e)
pass_long acts p verdict.Pass len e = by (nat_lt 65535 (outer_total p (apply acts p.stack) (kept acts))) e
  where
    by : (b : Bool) → Pass len ≡ passed (if b then Err (record { total = outer_total p (apply acts p.stack) (kept acts) }) else Ok (length (outgoing p (apply acts p.stack) (kept acts)))) → len ≡ length (outgoing p (apply acts p.stack) (kept acts))
    by true e = absurd (cc e)
    by false e = cc e

pass_short : (rows : List (List ℕ)) (x : Crossing) (p : Parts) (len : ℕ) (out : List ℕ) → Answered rows x p (Some (Pass len)) (take len out) → len ≤ length out
pass_short rows x p len out a =
    let long = pass_long a.row.acts p a.row.verdict len a.fate_is in
    omega (arith, long, ap length a.bytes_are, length-take len out)

pub all_short : (rows : List (List ℕ)) (x : Crossing) (p : Parts) (given : Option Given) (out : List ℕ) (most : ℕ) → length out ≤ most → Answered rows x p (fate_given given) (bytes_given p given out) → IfSome given (λ g. g.own ≡ false → len_of g.fate ≤ most)
all_short rows x p None out most h a = tt
all_short rows x p (Some g) out most h a = by g.own g.fate a
  where
    by : (own : Bool) (fate : Fate) → Answered rows x p (Some fate) (bytes_told own p fate out) → own ≡ false → len_of fate ≤ most
    by true fate a e = absurd (true≢false e)
    by false (Drop why) a e = omega arith
    by false (Pass len) a e = let short = pass_short rows x p len out a in omega (arith, short, h)
