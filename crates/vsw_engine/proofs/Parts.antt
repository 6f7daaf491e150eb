-- The end of a report's line.
use Rattle.std.proofs.Common.{◌≡◌, ℕ, List, [], ◌++◌, false, drop, Result, Ok, Err, ap, ◌∙◌}
use Rattle.std.specs.Fmt.{digits}
use Rattle.std.specs.Prelude.{OnOk, codes}
use Rattle.vsw_base.specs.declared.fate.Fate.{Fate}
use Rattle.vsw_report.specs.Print.{fate_text, line_text}
use Rattle.vsw_report.specs.declared.told.By.TheVariants as by
use Rattle.vsw_report.specs.declared.told.What.TheVariants as what

pub on_ok : {A E : Type 0} (r : Result A E) (P Q : Type 0) → (P → Q) → OnOk r P → OnOk r Q
on_ok (Ok x) P Q f h = f h
on_ok (Err e) P Q f h = tt

-- behind its first eight bytes the line of worker 0 and packet 0 tells a fate alone
pub fate_part : (old new : List ℕ) (fate : Fate) (bytes : List ℕ) → old ≡ [] → new ≡ old ++ line_text (record { by = by.Worker 0; item = 0; entry = false; count = 0; what = what.Fate fate bytes }) → drop 8 new ≡ fate_text fate bytes ++ codes "\n"
unfolding digits
fate_part old new fate bytes none is = ap (drop 8) (is ∙ ap (λ (o : List ℕ). o ++ line_text (record { by = by.Worker 0; item = 0; entry = false; count = 0; what = what.Fate fate bytes })) none)
