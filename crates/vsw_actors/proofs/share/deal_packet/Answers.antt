use Rattle.std.proofs.Common.{◌≡◌, ◌<◌, ◌++◌, [], length, IfOk, OnOk, append-nil, ap, sym, subst, refl, ◌∙◌}
use Rattle.vsw_actors.specs.Deal.{dealt, shared}
use Rattle.vsw_actors.specs.Private.Aims.{IsCarried, loose_in, placed_in}
use Rattle.vsw_actors.proofs.Steps.{always, deals_none}
use Rattle.vsw_actors.proofs.share.deal_packet.Goals as goal

pub returns-in-Ok-clause-dealt : goal.returns-in-Ok-clause-dealt
returns-in-Ok-clause-dealt c = λ cs js e.
    subst (λ w. OnOk c.give_packet.result (shared c.give_packet.new.shares.items ≡ dealt cs (js ++ w))) (ap placed_in (sym c.in-Ok.is) ∙ c.aim.ensures.placed) (c.give_packet.ensures.dealt cs js e)

pub returns-in-Ok-clause-work : goal.returns-in-Ok-clause-work
returns-in-Ok-clause-work c = λ cs before.
    let fit = subst (λ r. IfOk r (IsCarried (length c.args.macs.now))) c.in-Ok.is c.aim.ensures.fit in
    c.give_packet.ensures.work (length c.args.macs.now) cs (fit.1, refl, (fit.0, fit.2, fit.3)) before

pub returns-in-Ok-clause-loose : goal.returns-in-Ok-clause-loose
returns-in-Ok-clause-loose c =
    let old = c.args.loose.now.items in
    subst (λ w. OnOk c.give_packet.result (old ≡ old ++ w)) (ap (loose_in c.args.number) (sym c.in-Ok.is) ∙ c.aim.ensures.loose) (always (old ≡ old ++ []) c.give_packet.result (sym (append-nil old)))

pub returns-in-Err-clause-dealt : goal.returns-in-Err-clause-dealt
returns-in-Err-clause-dealt c = λ cs js e.
    let s = shared c.args.shares.now.items in
    subst (λ w. OnOk c.tell.result (s ≡ dealt cs (js ++ w))) (ap placed_in (sym c.in-Err.is) ∙ c.aim.ensures.placed) (always (s ≡ dealt cs (js ++ [])) c.tell.result (deals_none cs s js e))

pub returns-in-Err-clause-loose : goal.returns-in-Err-clause-loose
returns-in-Err-clause-loose c =
    subst (λ w. OnOk c.tell.result (c.tell.new.loose.items ≡ c.args.loose.now.items ++ w)) (ap (loose_in c.args.number) (sym c.in-Err.is) ∙ c.aim.ensures.loose) c.tell.ensures
