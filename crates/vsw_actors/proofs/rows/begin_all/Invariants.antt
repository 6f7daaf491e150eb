use Rattle.std.proofs.Common.{◌≡◌, ◌++◌, vec_len}
use Rattle.vsw_actors.specs.Private.Rows.{begun_rows}
use Rattle.vsw_actors.specs.Rows.{MayBegin}
use Rattle.vsw_actors.proofs.rows.begin_all.Given as goal

abbrev pub invariant-loop-alloc : goal.invariant-loop-alloc
invariant-loop-alloc g l = record {
  begin : MayBegin g.P.Port.port_in g.P.Port.locals g.P.Port.pass_in g.P.Port.job_in g.P.Port.tells g.P.Port.is_of g.P.Port.permits g.P.Port.takes (vec_len l.actors) l.ports l.rows.items l.shares.items;
  begun : l.actors.items ++ begun_rows g.P.Port.pass_in (vec_len l.actors) l.ports l.rows.items l.shares.items ≡ begun_rows g.P.Port.pass_in 0 l.fn.ports l.fn.rows.items l.fn.shares.items;
}

abbrev pub decreases-loop-alloc : goal.decreases-loop-alloc
decreases-loop-alloc g l = vec_len l.rows
