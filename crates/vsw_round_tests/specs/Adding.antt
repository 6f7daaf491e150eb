-- Shares of numbers that are added up.
use Rattle.std.specs.Prelude.{◌≡◌}
use Rattle.vsw_round_tests.specs.declared.adding.Part.{Part}
use Rattle.vsw_round_tests.specs.declared.adding.Sum.{Sum}

-- the same share, further on
abbrev pub IsOf : Part → Part → Type 0
IsOf was now = (now.round ≡ was.round) × (now.place ≡ was.place)

-- told of this share
abbrev pub IsSumOf : Part → Sum → Type 0
IsSumOf was sum = (sum.round ≡ was.round) × (sum.place ≡ was.place)
