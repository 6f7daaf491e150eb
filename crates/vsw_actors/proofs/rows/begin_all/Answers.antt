use Rattle.std.proofs.Common.{arith, ap, length, vec_len}
use Rattle.vsw_actors.proofs.Rounds.{begun_on, next_set_up, others_begin, shares_left}
use Rattle.vsw_actors.specs.Private.Rows.{begun_rows}
use Rattle.vsw_actors.proofs.rows.begin_all.Goals as goal

pub first-jobs-requires : goal.first-jobs-requires
first-jobs-requires g c =
    omega (arith, ap length c.first-lanes.ensures, shares_left g.P.Port.port_in g.P.Port.locals g.P.Port.pass_in g.P.Port.job_in g.P.Port.tells g.P.Port.is_of g.P.Port.permits g.P.Port.takes (vec_len c.loop-alloc.actors) c.args.ports.now c.loop-alloc.rows.items c.loop-alloc.shares.items c.loop-alloc.invariant.begin)

pub begin-requires-clause-ports : goal.begin-requires-clause-ports
begin-requires-clause-ports g c = (
  (next_set_up g.P.Port.port_in g.P.Port.locals g.P.Port.pass_in g.P.Port.job_in g.P.Port.tells g.P.Port.is_of g.P.Port.permits g.P.Port.takes (vec_len c.loop-alloc.actors) c.len-number.result c.args.ports.now c.loop-alloc.rows.items c.first-lanes.new.all.items c.first-lanes.result c.loop-alloc.shares.items c.first-jobs.new.all.items c.first-jobs.result
      c.len-number.ensures c.first-lanes.ensures c.first-jobs.ensures c.loop-alloc.invariant.begin).same,
  (next_set_up g.P.Port.port_in g.P.Port.locals g.P.Port.pass_in g.P.Port.job_in g.P.Port.tells g.P.Port.is_of g.P.Port.permits g.P.Port.takes (vec_len c.loop-alloc.actors) c.len-number.result c.args.ports.now c.loop-alloc.rows.items c.first-lanes.new.all.items c.first-lanes.result c.loop-alloc.shares.items c.first-jobs.new.all.items c.first-jobs.result
      c.len-number.ensures c.first-lanes.ensures c.first-jobs.ensures c.loop-alloc.invariant.begin).small,
)

pub begin-requires-clause-few : goal.begin-requires-clause-few
begin-requires-clause-few g c =
    (next_set_up g.P.Port.port_in g.P.Port.locals g.P.Port.pass_in g.P.Port.job_in g.P.Port.tells g.P.Port.is_of g.P.Port.permits g.P.Port.takes (vec_len c.loop-alloc.actors) c.len-number.result c.args.ports.now c.loop-alloc.rows.items c.first-lanes.new.all.items c.first-lanes.result c.loop-alloc.shares.items c.first-jobs.new.all.items c.first-jobs.result
    c.len-number.ensures c.first-lanes.ensures c.first-jobs.ensures c.loop-alloc.invariant.begin).few

pub begin-requires-clause-begins : goal.begin-requires-clause-begins
begin-requires-clause-begins g c =
    (next_set_up g.P.Port.port_in g.P.Port.locals g.P.Port.pass_in g.P.Port.job_in g.P.Port.tells g.P.Port.is_of g.P.Port.permits g.P.Port.takes (vec_len c.loop-alloc.actors) c.len-number.result c.args.ports.now c.loop-alloc.rows.items c.first-lanes.new.all.items c.first-lanes.result c.loop-alloc.shares.items c.first-jobs.new.all.items c.first-jobs.result
    c.len-number.ensures c.first-lanes.ensures c.first-jobs.ensures c.loop-alloc.invariant.begin).begins

pub begin-requires-clause-fit : goal.begin-requires-clause-fit
begin-requires-clause-fit g c =
    (next_set_up g.P.Port.port_in g.P.Port.locals g.P.Port.pass_in g.P.Port.job_in g.P.Port.tells g.P.Port.is_of g.P.Port.permits g.P.Port.takes (vec_len c.loop-alloc.actors) c.len-number.result c.args.ports.now c.loop-alloc.rows.items c.first-lanes.new.all.items c.first-lanes.result c.loop-alloc.shares.items c.first-jobs.new.all.items c.first-jobs.result
    c.len-number.ensures c.first-lanes.ensures c.first-jobs.ensures c.loop-alloc.invariant.begin).fit

pub begin-requires-clause-mine : goal.begin-requires-clause-mine
begin-requires-clause-mine g c =
    (next_set_up g.P.Port.port_in g.P.Port.locals g.P.Port.pass_in g.P.Port.job_in g.P.Port.tells g.P.Port.is_of g.P.Port.permits g.P.Port.takes (vec_len c.loop-alloc.actors) c.len-number.result c.args.ports.now c.loop-alloc.rows.items c.first-lanes.new.all.items c.first-lanes.result c.loop-alloc.shares.items c.first-jobs.new.all.items c.first-jobs.result
    c.len-number.ensures c.first-lanes.ensures c.first-jobs.ensures c.loop-alloc.invariant.begin).mine

pub loop-alloc-preserved : goal.loop-alloc-preserved
loop-alloc-preserved g c = record {
  begin = others_begin g.P.Port.port_in g.P.Port.locals g.P.Port.pass_in g.P.Port.job_in g.P.Port.tells g.P.Port.is_of g.P.Port.permits g.P.Port.takes (vec_len c.loop-alloc.actors) (vec_len c.put.new.all) c.args.ports.now c.loop-alloc.rows.items c.first-lanes.new.all.items c.first-lanes.result c.loop-alloc.shares.items c.first-jobs.new.all.items c.first-jobs.result
      c.in_ok-put.ensures.len c.first-lanes.ensures c.first-jobs.ensures c.loop-alloc.invariant.begin;
  begun = begun_on g.P.Port.pass_in (vec_len c.loop-alloc.actors) (vec_len c.put.new.all) c.len-number.result c.args.ports.now c.loop-alloc.rows.items c.first-lanes.new.all.items c.first-lanes.result c.loop-alloc.shares.items c.first-jobs.new.all.items c.first-jobs.result
      c.loop-alloc.actors.items c.put.new.all.items (begun_rows g.P.Port.pass_in 0 c.args.ports.now c.args.rows.items c.args.shares.items) c.begin.result
      c.in_ok-put.ensures.len c.len-number.ensures c.first-lanes.ensures c.first-jobs.ensures c.in_ok-put.ensures.items c.begin.ensures c.loop-alloc.invariant.begun;
}
