use Rattle.std.proofs.Common.{arith, ap}
use Rattle.vsw_table.proofs.Keeps.{enters}
use Rattle.vsw_table.proofs.lookup.Writer.pass.Goals as goal

pub split_seat-requires : goal.split_seat-requires
split_seat-requires g c = (
  grind (arith, c.requires, c.self.view_is, c.lookup.view_is),
  omega (arith, c.lookup.invariant.0),
  enters g.S.Story.who g.S.Story.good c.lookup.inside.table.shared.key.opening.value c.lookup.inside.table.shared.key.rows c.self.inside.seat.id c.self.inside.seat.me.0 c.self.invariant.0.0 c.self.invariant.6 c.self.invariant.0.1 (rw (ap (λ h. h.view.passes) c.self.view_is) c.requires.1),
)
