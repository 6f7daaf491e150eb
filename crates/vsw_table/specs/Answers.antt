-- What a look answers.
use Rattle.std.specs.Prelude.{ℕ}
use Rattle.vsw_table.specs.declared.lookup.Look.{Look}
use Rattle.vsw_table.specs.declared.lookup.Look.TheVariants.{Hit, Miss}

abbrev pub IfHit : Look → (ℕ → Type 0) → Type 0
IfHit (Hit n) F = F n
IfHit (Miss n) F = Unit {0}

abbrev pub IfMiss : Look → (ℕ → Type 0) → Type 0
IfMiss (Hit n) F = Unit {0}
IfMiss (Miss n) F = F n
