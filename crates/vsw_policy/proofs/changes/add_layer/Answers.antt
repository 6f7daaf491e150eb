use Rattle.vsw_policy.specs.Obey.{empty_layer}
use Rattle.vsw_policy.proofs.Firsts.{inserted}
use Rattle.vsw_policy.proofs.changes.add_layer.Goals as goal
use Rattle.vsw_policy.proofs.changes.add_layer.Goals.{in-Ok, in-Err}

pub returns-clause-ok : goal.returns-clause-ok
returns-clause-ok c = elim c.match-insert.branch [
  | in-Ok w ↦ rw w.result-is (inserted c.args.controllers.now (empty_layer c.args.controller c.args.spec.now) c.args.layers.now.items _ c.insert.new.self.items _ c.place_for-place.result (rw w.in-Ok.is at c.insert.ensures.items) c.place_for-place.ensures.place c.deref.ensures.value c.empty_layer.ensures)
  | in-Err w ↦ rw w.result-is tt
]
