-- When a capture is told to be bad.
use Rattle.std.proofs.Common.{◌≡◌, ℕ, ◌+◌, ◌==◌, ◌&&◌, List, inl, inr, Bool, true, false, not, if◌then◌else◌, Option, Some, None, Result, Ok, Err, length, drop, refl, sym, ◌∙◌, ap, subst, arith, nat_lt}
use Rattle.std.proofs.lemmas.Grind.{common_steps}
use Rattle.vsw_pcap.specs.Capture.{header_of, front_of}
use Rattle.vsw_pcap.specs.Decides.{Decides}
use Rattle.vsw_pcap.specs.Progress.{Progress}
use Rattle.vsw_pcap.specs.Reader.{Stands, Gave, next_of, answer_at, start_in, answer_from, after_header}
use Rattle.vsw_pcap.specs.declared.capture.Form.{Form}
use Rattle.vsw_pcap.specs.declared.capture.Front.{Front}
use Rattle.vsw_pcap.specs.declared.capture.Front.TheVariants.{Whole, Part, Oversize}
use Rattle.vsw_pcap.specs.declared.capture.Record.{Record}
use Rattle.vsw_pcap.specs.declared.fault.BadTrace.{BadTrace}
use Rattle.vsw_pcap.specs.declared.fault.BadTrace.TheVariants.{NotPcap, Version, LinkType, Cut, Huge}
use Rattle.vsw_pcap.specs.declared.reader.Start.TheVariants.{Unknown}
use Rattle.vsw_pcap.specs.declared.reader.Next.TheVariants as next

-- a record that is bad is told as such by what stands there, or by the end
part_decides : (finished empty : Bool) (at n : ℕ) (bad : BadTrace) → (if not finished then next.More else if empty then next.End else next.Bad (Cut at)) ≡ next.Bad bad → Decides bad finished n
part_decides false empty at n bad e = absurd (cc)
part_decides true true at n bad e = absurd (cc)
part_decides true false at n (Cut b) e = refl
part_decides true false at n (Huge b) e = absurd (cc)
part_decides true false at n NotPcap e = absurd (cc)
part_decides true false at n Version e = absurd (cc)
part_decides true false at n LinkType e = absurd (cc)

answer_decides : (front : Front) (form : Form) (at n : ℕ) (left : List ℕ) (finished : Bool) (bad : BadTrace) → answer_at front form at left finished ≡ next.Bad bad → Decides bad finished n
answer_decides (Whole c) form at n left finished bad e = absurd (cc)
answer_decides Oversize form at n left finished (Huge b) e = tt
answer_decides Oversize form at n left finished (Cut b) e = absurd (cc)
answer_decides Oversize form at n left finished NotPcap e = absurd (cc)
answer_decides Oversize form at n left finished Version e = absurd (cc)
answer_decides Oversize form at n left finished LinkType e = absurd (cc)
answer_decides Part form at n left finished bad e = part_decides finished (length left == 0) at n bad e

-- a header that is bad is told as such by its bytes, or by the end before them
header_decides : (left : List ℕ) (bad : BadTrace) (finished : Bool) → Err bad ≡ header_of left → (nat_lt (length left) 24 && not finished) ≡ false → Decides bad finished (length left)
header_decides left NotPcap true e t = inl refl
header_decides left NotPcap false e t = inr (grind (arith, common_steps))
header_decides left Version finished e t = grind (arith, common_steps)
header_decides left LinkType finished e t = grind (arith, common_steps)
header_decides left (Cut at) finished e t = absurd (grind (arith, common_steps))
header_decides left (Huge at) finished e t = absurd (grind (arith, common_steps))

from_header : (r : Result Form BadTrace) (p : Progress) (bad : BadTrace) → r ≡ header_of p.left → (nat_lt (length p.left) 24 && not p.finished) ≡ false → answer_from (after_header r) p ≡ next.Bad bad → Decides bad p.finished (length p.left)
from_header (Ok form) p bad h t e = answer_decides (front_of form (drop 24 p.left)) form (p.at + 24) (length p.left) (drop 24 p.left) p.finished bad e
from_header (Err b) p bad h t e = let same : b ≡ bad = cc in header_decides p.left bad p.finished (ap (λ (x : BadTrace). Err x) (sym same) ∙ h) t

from_test : (b : Bool) (p : Progress) (bad : BadTrace) → b ≡ (nat_lt (length p.left) 24 && not p.finished) → answer_from (if b then Unknown else after_header (header_of p.left)) p ≡ next.Bad bad → Decides bad p.finished (length p.left)
from_test true p bad t e = absurd (cc)
from_test false p bad t e = from_header (header_of p.left) p bad refl (sym t) e

from_start : (form : Option Form) (p : Progress) (bytes : List ℕ) (records : List Record) (bad : BadTrace) → Gave form bytes records p.left → answer_from (start_in form p.left p.finished) p ≡ next.Bad bad → Decides bad p.finished (length bytes)
from_start (Some form) p bytes records bad g e = answer_decides (front_of form (drop 0 p.left)) form (p.at + 0) (length bytes) (drop 0 p.left) p.finished bad e
from_start None p bytes records bad g e = let P : List ℕ → Type 0 = λ x. Decides bad p.finished (length x) in subst P g.0 (from_test (nat_lt (length p.left) 24 && not p.finished) p bad refl e)

pub decides : (p : Progress) (bytes : List ℕ) (records : List Record) (bad : BadTrace) → Stands p bytes records → next.Bad bad ≡ next_of p → Decides bad p.finished (length bytes)
unfolding next_of
decides p bytes records bad s e = from_start p.form p bytes records bad s.gave (sym e)
