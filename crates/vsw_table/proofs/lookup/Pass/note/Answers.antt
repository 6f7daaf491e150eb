use Rattle.std.proofs.Common.{arith, ap}
use Rattle.vsw_table.proofs.Keeps.{tells}
use Rattle.vsw_table.proofs.lookup.Pass.note.Goals as goal

pub split_seat-requires : goal.split_seat-requires
split_seat-requires g c =
    let is = c.self.invariant.0 in (
      grind (arith, c.requires, c.self.view_is, c.lookup.view_is),
      omega (arith, c.lookup.invariant.0),
      tells g.S.Story.who g.S.Story.good c.lookup.inside.table.shared.key.opening.value c.lookup.inside.table.shared.key.rows c.self.inside.seat.id c.self.inside.seat.me.0 (ap (λ u. u.live) is) (ap (λ u. u.writes) is) (ap (λ u. u.told) is),
    )
