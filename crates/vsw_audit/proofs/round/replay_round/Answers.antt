use Rattle.std.proofs.Common.{◌≡◌, ◌∙◌, IfOk, ap, sym, subst}
use Rattle.vsw_promise.specs.Jobs.{loose_among, macs_of, packets_between}
use Rattle.vsw_promise.specs.Ports.{ports_of}
use Rattle.vsw_audit.specs.Private.Rounds.{AllReplay, Finds, aims_of, histories}
use Rattle.vsw_audit.proofs.Dealt.{stand_all}
use Rattle.vsw_audit.proofs.Rounding.{round_so}
use Rattle.vsw_audit.proofs.round.replay_round.Goals as goal

pub replay_seats-requires-clause-dealt : goal.replay_seats-requires-clause-dealt
replay_seats-requires-clause-dealt c =
    let rs = c.args.files.now.records.now in
    (c.as_slice-macs.result.now, packets_between rs c.args.first c.args.end, c.deref-2.ensures.value ∙ c.in_ok-deal.ensures.aims, stand_all rs c.args.first c.args.end)

pub returns-clause-finds : goal.returns-clause-finds
returns-clause-finds c = λ policy next are macs same.
    let rs = c.args.files.now.records.now in
    let packets = packets_between rs c.args.first c.args.end in
    let ms : c.as_slice-macs.result.now ≡ macs_of policy = c.as_slice-macs.ensures ∙ macs in
    let aims = c.deref-2.ensures.value ∙ (c.in_ok-deal.ensures.aims ∙ ap (λ m. aims_of c.args.bench.now.workers m packets) ms) in
    let loose = sym c.as_slice-loose.ensures ∙ (c.same_loose-same.ensures.told c.if-not-same.false ∙ (c.deref.ensures.value ∙ (c.in_ok-deal.ensures.loose ∙ ap (λ m. loose_among m packets) ms))) in
    round_so c.args.bench.now.workers policy c.args.files.now.commands.now rs c.args.first next packets (histories c.args.bench.now.seats.items) (histories c.replay_seats.new.seats.items) c.args.told.now c.replay_seats.result (c.is_first-begins.ensures.told c.if-not-begins.false) same loose
    (subst (λ ps. IfOk c.replay_seats.result (λ answer. Finds (AllReplay c.args.files.now.commands.now c.args.bench.now.workers (macs_of policy) c.args.first packets 0 (ports_of policy) (histories c.args.bench.now.seats.items) ps) (histories c.replay_seats.new.seats.items) answer)) c.as_slice-ports.ensures
    (c.replay_seats.ensures.finds (ports_of policy) (macs_of policy) packets are aims (stand_all rs c.args.first c.args.end)))
