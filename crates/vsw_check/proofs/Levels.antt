-- Levels of a line, each by what the one below it answers.
use Rattle.std.proofs.Common.{◌≡◌, ℕ, Bool, List, [], ◌∷◌, Option, Some, None, refl}
use Rattle.std.specs.Prelude.{option_map}
use Rattle.vsw_base.specs.declared.fate.Cause.{Cause}
use Rattle.vsw_base.specs.declared.fate.Cause.TheVariants.{Rule}
use Rattle.vsw_report.specs.Words.{layer_in, rule_in, told_with}
use Rattle.vsw_report.specs.declared.told.By.{By}
use Rattle.vsw_report.specs.declared.told.What.{What}
use Rattle.vsw_check.specs.Private.Words.{pair_in, four_in, at_with, told_at}

pub layer_is : (make : ℕ → ℕ → Cause) (ns : List (Option ℕ)) → layer_in make ns ≡ option_map (λ p. make p.0 p.1) (pair_in ns)
layer_is make [] = refl
layer_is make (None ∷ ns) = refl
layer_is make (Some c ∷ []) = refl
layer_is make (Some c ∷ None ∷ ns) = refl
layer_is make (Some c ∷ Some l ∷ []) = refl
layer_is make (Some c ∷ Some l ∷ n ∷ ns) = refl

pub rule_is : (ns : List (Option ℕ)) → rule_in ns ≡ option_map (λ p. Rule p.0 p.1 p.2 p.3) (four_in ns)
rule_is [] = refl
rule_is (None ∷ ns) = refl
rule_is (Some c ∷ []) = refl
rule_is (Some c ∷ None ∷ ns) = refl
rule_is (Some c ∷ Some l ∷ []) = refl
rule_is (Some c ∷ Some l ∷ None ∷ ns) = refl
rule_is (Some c ∷ Some l ∷ Some g ∷ []) = refl
rule_is (Some c ∷ Some l ∷ Some g ∷ None ∷ ns) = refl
rule_is (Some c ∷ Some l ∷ Some g ∷ Some r ∷ []) = refl
rule_is (Some c ∷ Some l ∷ Some g ∷ Some r ∷ n ∷ ns) = refl

pub told_is : (by : By) (item : Option ℕ) (entry : Option Bool) (count : Option ℕ) (what : Option What) → told_with (Some by) item entry count what ≡ told_at by (at_with item entry count) what
told_is by None entry count what = refl
told_is by (Some item) None count what = refl
told_is by (Some item) (Some entry) None what = refl
told_is by (Some item) (Some entry) (Some count) None = refl
told_is by (Some item) (Some entry) (Some count) (Some what) = refl
