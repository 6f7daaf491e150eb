use Rattle.std.proofs.Common.{◌≡◌, true}
use Rattle.vsw_stamps.specs.Machine.{rows_good}
use Rattle.vsw_stamps.proofs.store.are_good.Given as goal

abbrev pub invariant-loop-row : goal.invariant-loop-row
invariant-loop-row g l = rows_good g.S.TestStory.test l.entries l.stamps l.rows l.row ≡ true
