use Rattle.vsw_stamps.proofs.Keeps.{made_sound}
use Rattle.vsw_stamps.proofs.machine.Machine.step.Goals as goal

pub invariant_of-self : goal.invariant_of-self
invariant_of-self g c o = made_sound (g.S.Story.good o) g.S.TestStory.test (λ h row. (g.met.S.TestStory.judges o h row).0) c.args.step.now c.self.inside.store c.step-made.new.self c.step-made.result c.step-made.ensures (c.self.invariant o)

pub returns-clause-sound : goal.returns-clause-sound
returns-clause-sound g c o = made_sound (g.S.Story.good o) g.S.TestStory.test (λ h row. (g.met.S.TestStory.judges o h row).0) c.args.step.now c.self.inside.store c.step-made.new.self c.step-made.result c.step-made.ensures (c.self.invariant o)
