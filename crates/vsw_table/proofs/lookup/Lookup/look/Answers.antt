use Rattle.vsw_table.proofs.Tries.{not_so}
use Rattle.vsw_table.proofs.lookup.Lookup.look.Goals as goal
use Rattle.vsw_table.proofs.lookup.Lookup.look.Goals.{then-found, else-found}

pub returns-clause-miss : goal.returns-clause-miss
returns-clause-miss g c =
    elim c.if-found.branch [
      | then-found w ↦ rw w.result-is tt
      | else-found w ↦ let m = not_so _ _ c.look_from-found.result.0 w.if-found.false c.look_from-found.ensures.found in rw (w.result-is, ← c.self.view_is) (c.look_from-found.ensures.count.0, m)
    ]
