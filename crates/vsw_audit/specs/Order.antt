-- Lines that one look finds in the order of counts are put as they stand.
use Rattle.std.specs.Prelude.{◌≡◌, ◌<◌, ◌≤◌, ◌-◌, ℕ, List, map, true}
use Rattle.vsw_policy.specs.Sound.{Each, is_listed}
use Rattle.vsw_port.specs.Calls.{Asked, Call, Carried, Deed}
use Rattle.vsw_promise.specs.Told.{line_of, lines_of}
use Rattle.vsw_check.specs.Report.{Tells}

-- one of the sixteen workers carried it, or one of the controllers asked
abbrev pub IsDeedOf : List ℕ → Deed → Type 0
IsDeedOf ns (Carried x p fate bytes) = x.caller < 16
IsDeedOf ns (Asked l reply) = is_listed ns l.controller ≡ true

abbrev pub IsOf : List ℕ → Call → Type 0
IsOf ns c = IsDeedOf ns c.deed

abbrev pub ToldIsAsItStands : Type 0
ToldIsAsItStands = (ns : List ℕ) (cs : List Call) (low high : ℕ) → low ≤ high → Tells low high 0 (map line_of cs) → Each (IsOf ns) cs → lines_of ns cs low (high - low) ≡ map line_of cs
