use Rattle.std.proofs.Common.{sym, subst}
use Rattle.vsw_replay.proofs.Leading.{ahead_unpicked}
use Rattle.vsw_replay.specs.Private.Ahead.{IsOwing, with_batch}
use Rattle.vsw_replay.specs.Private.Leading.{left_by}
use Rattle.vsw_replay.proofs.ahead.Ahead.go_on.Goals as goal

pub returns-in-Err-pick-clause-ahead : goal.returns-in-Err-pick-clause-ahead
returns-in-Err-pick-clause-ahead g c = λ s start name packets switch e some o.
    let a = c.args.self.now in
    let old = g.H.Host.outside c.args.host.now in
    ahead_unpicked s start (g.H.Host.outside c.read_meanwhile.new.host) name c.read_meanwhile.new.run switch a.stretch.first packets c.in-Ok.next c.in-Err-pick.end c.in-Err-pick.ensures.end
    (c.in-Ok.ensures.ahead s start name packets switch e some (subst (λ w. IsOwing s start old name (with_batch a.run packets) switch (left_by a.crew.harbour w) a.stretch) (sym c.take-owed.ensures.value) o))

pub returns-in-Err-clause-ahead : goal.returns-in-Err-clause-ahead
returns-in-Err-clause-ahead g c = λ s start name packets switch e some o.
    let a = c.args.self.now in
    let old = g.H.Host.outside c.args.host.now in
    c.in-Err.ensures.ahead s start name packets switch e some (subst (λ w. IsOwing s start old name (with_batch a.run packets) switch (left_by a.crew.harbour w) a.stretch) (sym c.take-owed.ensures.value) o)
