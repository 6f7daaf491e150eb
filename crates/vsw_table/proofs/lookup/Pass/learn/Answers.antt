use Rattle.std.proofs.Common.{arith, ap}
use Rattle.vsw_table.proofs.Keeps.{informs}
use Rattle.vsw_table.proofs.lookup.Pass.learn.Goals as goal

pub join_seat-requires : goal.join_seat-requires
join_seat-requires g c =
    let v = c.self.inside.seat in
    let w = c.note.inside.seat in
    let is = c.self.invariant.0 in (
      grind (arith, c.requires, c.self.view_is, c.lookup.view_is),
      grind (arith, c.requires, c.note.view_is, c.lookup.view_is),
      c.note.invariant.1,
      omega (arith, c.lookup.invariant.0),
      informs g.S.Story.who g.S.Story.good c.lookup.inside.table.shared.key.opening.value c.lookup.inside.table.shared.key.rows v.id v.me.0 w.id w.me.0 (ap (λ u. u.live) is) (ap (λ u. u.writes) is) (ap (λ u. u.told) is) c.note.invariant.0.0 c.note.invariant.0.1 c.note.invariant.0.2,
    )
