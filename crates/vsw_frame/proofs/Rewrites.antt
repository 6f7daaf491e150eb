-- What holds of a frame that was read and rewritten.
use Rattle.std.proofs.Common.{◌≡◌, ◌∙◌, ℕ, Bool, true, false, List, ◌++◌, take, length, Result, Ok, Err, if◌then◌else◌, nat_lt, sym, ap}
use Rattle.std.proofs.Math.Seq.{take-append_seam}
use Rattle.vsw_base.specs.declared.fault.Long.{Long}
use Rattle.vsw_base.specs.declared.header.Header.{Header}
use Rattle.vsw_base.specs.Frame.{Parts, frame_of}
use Rattle.vsw_header.specs.Sum.{AreBytes}
use Rattle.vsw_transpose.specs.declared.act.Act.{Act}
use Rattle.vsw_transpose.specs.Apply.{apply}
use Rattle.vsw_transpose.specs.Fits.{fits, kept}
use Rattle.vsw_transpose.specs.Form.{is_form}
use Rattle.vsw_frame.specs.Bytes.{answer, outer_total, outgoing}
use Rattle.vsw_frame.specs.Rewritten.{IsRewritten}
use Rattle.vsw_frame.specs.RoundTrip.{ActsFit, IsRewriting}
use Rattle.vsw_frame.specs.Sums.{StayRight}
use Rattle.vsw_frame.proofs.ByActs.{by_acts}
use Rattle.vsw_frame.proofs.SumsTrip.{stay_right}

abbrev answered : Bool → ℕ → ℕ → Result ℕ Long
answered b total n = if b then Err (record { total = total }) else Ok n

abbrev ok_length : ℕ → Result ℕ Long
ok_length n = Ok n

length_is : (b : Bool) (total m n : ℕ) → ok_length n ≡ answered b total m → n ≡ m
length_is true total m n h = absurd (cc)
length_is false total m n h = cc

pub rewritten_is : (bytes : List ℕ) (p : Parts) (acts : List Act) (out rest : List ℕ) (n : ℕ) → AreBytes bytes → Ok p ≡ frame_of bytes → is_form acts ≡ true → fits acts p.stack ≡ true → ActsFit acts
    → Ok n ≡ answer p (apply acts p.stack) (kept acts) → out ≡ outgoing p (apply acts p.stack) (kept acts) ++ rest → IsRewritten bytes acts out n
rewritten_is bytes p acts out rest n are read form fit numbers a w =
    let edited : List Header = apply acts p.stack in
    let k : ℕ = kept acts in
    let written : List ℕ = outgoing p edited k in
    let r : IsRewriting bytes p edited k n = by_acts bytes p acts n are (sym read) form fit numbers (sym a) in
    let len : n ≡ length written = length_is (nat_lt 65535 (outer_total p edited k)) (outer_total p edited k) (length written) n a in
    let right : StayRight = stay_right in
    record {
      parts = p;
      rewriting = r;
      written = ap (take n) w ∙ ap (λ (m : ℕ). take m (written ++ rest)) len ∙ take-append_seam written rest;
      ip = right.ip bytes p edited k n are r;
      end = right.end bytes p edited k n are r;
      none = right.none bytes p edited k n are r;
    }
