use Rattle.vsw_stamps.specs.Machine.{finished, fresh}
use Rattle.vsw_stamps.proofs.Between.{all_between}
use Rattle.vsw_stamps.proofs.Keeps.{fresh_sound, leads_sound}
use Rattle.vsw_stamps.proofs.Whole.{all_good}
use Rattle.vsw_stamps.proofs.law.laws.Goals as goal

pub returns-clause-sound : goal.returns-clause-sound
returns-clause-sound g c = λ o rows steps m leads. leads_sound (g.S.Story.good o) steps (fresh rows) m leads (fresh_sound (g.S.Story.good o) rows)

pub returns-clause-lookups : goal.returns-clause-lookups
returns-clause-lookups g c = λ o rows steps m leads. ((leads_sound (g.S.Story.good o) steps (fresh rows) m leads (fresh_sound (g.S.Story.good o) rows)).lookups, all_between m.log)

pub returns-clause-whole : goal.returns-clause-whole
returns-clause-whole g c = λ o rows steps m leads. all_good (g.S.Story.good o) g.S.Story.used (λ h row. g.met.S.Story.zeros_beyond o h row) m.history (finished m.log) (leads_sound (g.S.Story.good o) steps (fresh rows) m leads (fresh_sound (g.S.Story.good o) rows)).lookups
