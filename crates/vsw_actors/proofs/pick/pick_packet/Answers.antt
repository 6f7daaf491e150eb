use Rattle.std.proofs.Common.{◌≡◌, ◌<◌, ◌+◌, ◌++◌, ◌∷◌, [], length, IfOk, OnOk, append-nil, ap, refl, sym, subst, ◌∙◌}
use Rattle.vsw_actors.specs.Picks.{AtMost, dealt_to, picked}
use Rattle.vsw_actors.specs.Private.Aims.{IsBrought, IsCarried, loose_in, placed_in}
use Rattle.vsw_actors.proofs.Picking.{is_pick, most_more, pick_is}
use Rattle.vsw_actors.proofs.Steps.{always}
use Rattle.vsw_actors.proofs.pick.pick_packet.Goals as goal

pub give_pick-requires : goal.give_pick-requires
give_pick-requires c =
    let is = subst (λ r. IfOk r (IsBrought c.args.workers (c.args.first + c.args.at) c.args.captured.now)) c.in-Ok.is c.aim.ensures.brought in
    record { worker = subst (λ n. c.in-Ok.packet.worker < n) (sym c.requires.workers) is.worker }

pub returns-in-Ok-clause-dealt : goal.returns-in-Ok-clause-dealt
returns-in-Ok-clause-dealt c = λ packets cs js there e.
    let is = subst (λ r. IfOk r (IsBrought c.args.workers (c.args.first + c.args.at) c.args.captured.now)) c.in-Ok.is c.aim.ensures.brought in
    let p = c.in-Ok.packet in
    let job = pick_is p.worker c.args.first c.args.captured.now p packets (record { at = c.args.at; place = p.place }) refl is.number refl is.moment is.bytes there in
    subst (λ w. OnOk c.give_pick.result (picked 0 c.args.first packets c.give_pick.new.picks.items ≡ dealt_to c.args.workers cs (js ++ w)))
    (ap (λ j. j ∷ []) (sym job) ∙ (ap placed_in (sym c.in-Ok.is) ∙ c.aim.ensures.placed))
    (c.give_pick.ensures.dealt c.args.first packets c.args.workers cs js e)

pub returns-in-Ok-clause-fit : goal.returns-in-Ok-clause-fit
returns-in-Ok-clause-fit c = λ packets there before.
    let is = subst (λ r. IfOk r (IsBrought c.args.workers (c.args.first + c.args.at) c.args.captured.now)) c.in-Ok.is c.aim.ensures.brought in
    let fit = subst (λ r. IfOk r (IsCarried (length c.args.macs.now))) c.in-Ok.is c.aim.ensures.fit in
    c.give_pick.ensures.fit (length c.args.macs.now) packets (is_pick (length c.args.macs.now) c.args.workers (c.args.first + c.args.at) c.args.at c.args.captured.now c.in-Ok.packet packets there is fit) before

pub returns-in-Ok-clause-loose : goal.returns-in-Ok-clause-loose
returns-in-Ok-clause-loose c =
    let old = c.args.loose.now.items in
    subst (λ w. OnOk c.give_pick.result (old ≡ old ++ w)) (ap (loose_in (c.args.first + c.args.at)) (sym c.in-Ok.is) ∙ c.aim.ensures.loose) (always (old ≡ old ++ []) c.give_pick.result (sym (append-nil old)))

pub returns-in-Err-clause-dealt : goal.returns-in-Err-clause-dealt
returns-in-Err-clause-dealt c = λ packets cs js there e.
    let s = picked 0 c.args.first packets c.args.picks.now.items in
    subst (λ w. OnOk c.tell.result (s ≡ dealt_to c.args.workers cs (js ++ w))) (ap placed_in (sym c.in-Err.is) ∙ c.aim.ensures.placed)
    (always (s ≡ dealt_to c.args.workers cs (js ++ [])) c.tell.result (subst (λ w. s ≡ dealt_to c.args.workers cs w) (sym (append-nil js)) e))

pub returns-in-Err-clause-few : goal.returns-in-Err-clause-few
returns-in-Err-clause-few c = λ n before. always (AtMost (n + 1) c.args.picks.now.items) c.tell.result (most_more n c.args.picks.now.items before)

pub returns-in-Err-clause-loose : goal.returns-in-Err-clause-loose
returns-in-Err-clause-loose c =
    subst (λ w. OnOk c.tell.result (c.tell.new.loose.items ≡ c.args.loose.now.items ++ w)) (ap (loose_in (c.args.first + c.args.at)) (sym c.in-Err.is) ∙ c.aim.ensures.loose) c.tell.ensures
