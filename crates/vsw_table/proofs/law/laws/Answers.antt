use Rattle.vsw_stamps.specs.Machine.{finished}
use Rattle.vsw_stamps.proofs.Between.{all_between}
use Rattle.vsw_stamps.proofs.Whole.{all_good}
use Rattle.vsw_table.proofs.Shows.{sound_of}
use Rattle.vsw_table.proofs.law.laws.Goals as goal

pub returns-clause-sound : goal.returns-clause-sound
returns-clause-sound g c = λ o rows s k. sound_of (g.S.Story.good o) rows k.seat s k.shown

pub returns-clause-lookups : goal.returns-clause-lookups
returns-clause-lookups g c = λ o rows s k. ((sound_of (g.S.Story.good o) rows k.seat s k.shown).lookups, all_between k.shown.machine.log)

pub returns-clause-whole : goal.returns-clause-whole
returns-clause-whole g c = λ o rows s k. all_good (g.S.Story.good o) g.S.Story.used (λ h row. g.met.S.Story.zeros_beyond o h row) k.shown.machine.history (finished k.shown.machine.log) (sound_of (g.S.Story.good o) rows k.seat s k.shown).lookups
