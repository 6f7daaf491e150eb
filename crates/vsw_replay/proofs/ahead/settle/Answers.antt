use Rattle.std.proofs.Common.{Ok, Err, ap, subst}
use Rattle.vsw_replay.proofs.Leading.{paid_settles}
use Rattle.vsw_replay.specs.Private.Ahead.{IsOwing, with_batch}
use Rattle.vsw_replay.specs.Private.Leading.{left_by}
use Rattle.vsw_replay.specs.Private.Next.{in_batch}
use Rattle.vsw_replay.proofs.ahead.settle.Goals as goal

pub returns-in-Ok-clause-settles : goal.returns-in-Ok-clause-settles
returns-in-Ok-clause-settles g c = λ s start name packets switch t o.
    let old = g.H.Host.outside c.args.host.now in
    let h = c.args.crew.now.harbour in
    paid_settles s start old (g.H.Host.outside c.pay.new.host) name (with_batch c.args.run.now packets) (with_batch c.pay.new.run packets) switch h c.in-Some.owed t (Ok _) (ap (λ r. in_batch r packets) c.pay.ensures.reading) (λ text short owes. c.in-Ok.ensures.pays text short owes)
    (subst (λ w. IsOwing s start old name (with_batch c.args.run.now packets) switch (left_by h w) t) c.in-Some.is o)

pub returns-in-Err-clause-settles : goal.returns-in-Err-clause-settles
returns-in-Err-clause-settles g c = λ s start name packets switch t o.
    let old = g.H.Host.outside c.args.host.now in
    let h = c.args.crew.now.harbour in
    paid_settles s start old (g.H.Host.outside c.pay.new.host) name (with_batch c.args.run.now packets) (with_batch c.pay.new.run packets) switch h c.in-Some.owed t (Err c.in-Err.end) (ap (λ r. in_batch r packets) c.pay.ensures.reading) (λ text short owes. c.in-Err.ensures.pays text short owes)
    (subst (λ w. IsOwing s start old name (with_batch c.args.run.now packets) switch (left_by h w) t) c.in-Some.is o)
