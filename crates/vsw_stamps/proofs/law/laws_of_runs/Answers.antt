use Rattle.vsw_stamps.specs.Machine.{fresh, run}
use Rattle.vsw_stamps.proofs.Between.{all_between}
use Rattle.vsw_stamps.proofs.Keeps.{can_is, fresh_sound, is_can, run_sound}
use Rattle.vsw_stamps.proofs.law.laws_of_runs.Goals as goal

pub returns-clause-conditions : goal.returns-clause-conditions
returns-clause-conditions g c = λ o m step. (can_is (g.S.Story.good o) g.S.TestStory.test (λ h row. (g.met.S.TestStory.judges o h row).0) m step, is_can (g.S.Story.good o) g.S.TestStory.test (λ h row. (g.met.S.TestStory.judges o h row).1) m step)

pub returns-clause-sound : goal.returns-clause-sound
returns-clause-sound g c = λ o rows steps. run_sound (g.S.Story.good o) g.S.TestStory.test (λ h row. (g.met.S.TestStory.judges o h row).0) steps (fresh rows) (fresh_sound (g.S.Story.good o) rows)

pub returns-clause-lookups : goal.returns-clause-lookups
returns-clause-lookups g c = λ o rows steps. (
  (run_sound (g.S.Story.good o) g.S.TestStory.test (λ h row. (g.met.S.TestStory.judges o h row).0) steps (fresh rows) (fresh_sound (g.S.Story.good o) rows)).lookups,
  all_between (run g.S.TestStory.test (fresh rows) steps).log,
)
