-- A packet's fate by its frame and by its sizes.
use Rattle.std.proofs.Common.{◌≡◌, ℕ, List, length, Option, Some, None, ap, refl}
use Rattle.vsw_port.specs.declared.stop.Stop.{Stop}
use Rattle.vsw_port.specs.Admit.{stop_of}
use Rattle.vsw_port.specs.Long.{outgoing_size}
use Rattle.vsw_port.proofs.Alike.{sized}
use Rattle.vsw_base.specs.declared.fate.Fate.TheVariants.{Pass}
use Rattle.vsw_base.specs.declared.fate.Verdict.{Verdict}
use Rattle.vsw_base.specs.declared.fate.Verdict.TheVariants as verdict
use Rattle.vsw_base.specs.declared.flow.Crossing.{Crossing}
use Rattle.vsw_base.specs.declared.header.Header.{Header}
use Rattle.vsw_base.specs.Frame.{Parts}
use Rattle.vsw_port.specs.Cross.{fate_after}
use Rattle.vsw_walk.specs.Walk.{walk_of}
use Rattle.vsw_frame.specs.Bytes.{outgoing}
use Rattle.vsw_port.specs.Fate.{fate_by}
use Rattle.vsw_answer.specs.Fate.{Measures}
use Rattle.vsw_answer.specs.Transit.{fate_of}

after_measured : (x : Crossing) (p : Parts) (v : Verdict) (o : Option Stop) (hs : List Header) (kept : ℕ) → length (outgoing p hs kept) ≡ outgoing_size x hs kept
    → fate_of p (fate_after v o hs kept) ≡ fate_by x (fate_after v o hs kept)
after_measured x p verdict.Pass None hs kept e = ap Pass e
after_measured x p verdict.Pass (Some stop) hs kept e = refl
after_measured x p (verdict.Rule controller layer group rule) o hs kept e = refl
after_measured x p (verdict.Default controller layer dir) o hs kept e = refl

pub measures : Measures
measures ls x p frame h of =
    after_measured x p (walk_of ls x).verdict (stop_of ls x (walk_of ls x)) (walk_of ls x).stack (walk_of ls x).kept (sized ls x p frame h of.stack of.sizes)
