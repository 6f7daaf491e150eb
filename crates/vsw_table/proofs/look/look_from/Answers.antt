use Rattle.std.proofs.Common.{arith, subst, sym, ◌≡◌, ◌∷◌, ◌∙◌, ◌+◌, ◌%◌}
use Rattle.vsw_table.specs.declared.view.Tried.{Tried}
use Rattle.vsw_table.specs.Held.{IsMissed, Missed}
use Rattle.vsw_table.proofs.Tries.{read_trans, missed_next, ended_last}
use Rattle.vsw_table.proofs.look.look_from.Goals as goal

pub loop-i-preserved : goal.loop-i-preserved
loop-i-preserved g c =
    let s = c.in_default.ensures.same in
    let found = subst (λ r. (x : Tried) × (c.try_row.new.seat.me.0.tried ≡ x ∷ c.loop-i.seat.me.0.tried) × IsMissed c.args.key.now r x) c.row_behind-row.ensures.row c.in_default.ensures.found in (
      c.in_default.ensures.table ∙ c.loop-i.invariant.0,
      read_trans c.args.seat.now.me.0 c.loop-i.seat.me.0 c.try_row.new.seat.me.0 c.loop-i.invariant.1 s.0,
      s.1,
      missed_next c.args.key.now c.args.rows c.args.slot c.loop-i.i c.loop-i.seat.me.0 c.try_row.new.seat.me.0 c.loop-i.invariant.3 found,
    )

pub returns-clause-found : goal.returns-clause-found
returns-clause-found g c =
    let v = c.loop-i.seat.me.0 in
    λ j lt. subst (λ xs. Missed c.args.key.now ((c.args.slot + j) % c.args.rows) xs) (sym (ended_last v c.end.result c.end.new.seat.me.0 c.end.ensures.2)) (c.loop-i.invariant.3 j (omega (arith, lt, c.loop-i-test.false)))
