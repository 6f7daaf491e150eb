use Rattle.vsw_host.proofs.Written.{cut, more, kept, prefix}
use Rattle.vsw_host.proofs.retrying.write_whole.Goals as goal

pub returns-in_default : goal.returns-in_default
returns-in_default g c = prefix _ _ _ _ (kept _ _ _ _ _ c.loop-rest.invariant c.in_default.ensures.err)

pub returns-then-count-eq0 : goal.returns-then-count-eq0
returns-then-count-eq0 g c = prefix _ _ _ _ (more _ _ _ _ _ _ c.loop-rest.invariant c.in-Ok.ensures.ok)

pub loop-rest-preserved : goal.loop-rest-preserved
loop-rest-preserved g c = rw (cut c.loop-rest.rest.now c.in-Ok.count) (more _ _ _ _ _ _ c.loop-rest.invariant c.in-Ok.ensures.ok)
