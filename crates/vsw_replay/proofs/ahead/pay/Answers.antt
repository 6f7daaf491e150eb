use Rattle.std.proofs.Common.{Ok, Err, subst}
use Rattle.vsw_host.specs.Outside.{DoesPut}
use Rattle.vsw_replay.proofs.ahead.pay.Goals as goal

pub returns-in-Ok-put_text-clause-pays : goal.returns-in-Ok-put_text-clause-pays
returns-in-Ok-put_text-clause-pays g c = λ text short owes.
    let t = c.in-Ok.ensures.tells text short owes in
    (subst (λ w. DoesPut (g.H.Host.outside c.args.host.now) (g.H.Host.outside c.put_text.new.host) w (Ok _)) t.0 c.in-Ok-put_text.ensures, t.1)

pub returns-in-Err-put_text-clause-pays : goal.returns-in-Err-put_text-clause-pays
returns-in-Err-put_text-clause-pays g c = λ text short owes.
    let t = c.in-Ok.ensures.tells text short owes in
    (_, subst (λ w. DoesPut (g.H.Host.outside c.args.host.now) (g.H.Host.outside c.put_text.new.host) w (Err _)) t.0 c.in-Err-put_text.ensures)
