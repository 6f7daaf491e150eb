-- What is free once a pair goes.
use Rattle.std.proofs.Common.{◌≡◌, ℕ, ◌==◌, true, not, List, Option, None, Some, refl, sym, ap, ◌∙◌, arith}
use Rattle.std.proofs.lemmas.Map.Entries.{option_filter}
use Rattle.vsw_layerflow.specs.declared.pair.Probe.{Probe}
use Rattle.vsw_layerflow.specs.declared.pair.Pair.{Pair}
use Rattle.vsw_layerflow.specs.Pairs.{AllApart, holder, without}
use Rattle.vsw_layerflow.proofs.Kept.{holder-filter}

-- what nobody else holds
pub free_but : (n : ℕ) (q : Probe) (ps : List Pair) (o : Option Pair) → AllApart ps → o ≡ holder q ps → ((r : Pair) → o ≡ Some r → r.number ≡ n) → holder q (without n ps) ≡ None
free_but n q ps o a e own = holder-filter (λ r. not (n == r.number)) q ps a ∙ ap (option_filter (λ r. not (n == r.number))) (sym e) ∙ by o own
  where
    by : (o : Option Pair) → ((r : Pair) → o ≡ Some r → r.number ≡ n) → option_filter (λ r. not (n == r.number)) o ≡ None
    by None h = refl
    by (Some r) h = let i : r.number ≡ n = h r refl in let w : (n == r.number) ≡ true = grind arith in rw w refl
