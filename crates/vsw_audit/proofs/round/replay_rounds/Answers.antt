use Rattle.std.proofs.Common.{ℕ, ◌≡◌, ◌∙◌, ◌+◌, suc, arith, ap, drop, refl, sym, subst, length}
use Rattle.vsw_promise.specs.Jobs.{cuts, packets_between}
use Rattle.vsw_check.specs.Report.{IsTold}
use Rattle.vsw_policy.specs.Sound.{Each}
use Rattle.vsw_audit.specs.Audit.{RoundReplays}
use Rattle.vsw_audit.specs.Check.{checked}
use Rattle.vsw_audit.specs.Private.Rounds.{Finds, histories}
use Rattle.vsw_audit.proofs.Cutting.{all_left, cuts_left}
use Rattle.vsw_audit.proofs.Rounding.{each_get, left_all, left_over, not_some, rounds_on, rounds_stop}
use Rattle.vsw_audit.proofs.Tasks.{at_of}
use Rattle.vsw_audit.proofs.round.replay_rounds.Goals as goal

pub loop-place-init : goal.loop-place-init
loop-place-init c = record {
  same = c.requires.same;
  long = refl;
  macs = refl;
  workers = refl;
  seats = λ policy are. are;
  left = λ policy are macs. left_all (checked c.args.bench.now.workers policy c.args.files.now.commands.now) c.args.files.now.records.now (histories c.args.bench.now.seats.items) (cuts c.args.files.now.commands.now (length c.args.files.now.records.now)) _ c.args.rounds.now (ap (cuts c.args.files.now.commands.now) (sym c.len-total.ensures) ∙ all_left c.args.files.now.commands.now c.len-total.result);
}

pub returns-in_default : goal.returns-in_default
returns-in_default c = record {
  finds = λ policy are macs.
      let f = c.args.files.now in
      let s = checked c.args.bench.now.workers policy f.commands.now in
      let i = c.loop-place.invariant in
      let t = at_of c.args.rounds.now c.loop-place.place c.loop-place-test.true in
      left_over s f.records.now (histories c.args.bench.now.seats.items) (cuts f.commands.now (length f.records.now)) c.args.rounds.now (histories c.loop-place.bench.seats.items) (cuts_left f.commands.now c.len-total.result c.loop-place.cut) (drop c.loop-place.place c.args.rounds.now) t.0 (drop (suc c.loop-place.place) c.args.rounds.now) (ap (cuts_left f.commands.now c.len-total.result) (not_some c.loop-place.cut c.in_default.not-Some)) t.1.rest (i.left policy are macs) _;
}

pub replay_round-requires-clause-told : goal.replay_round-requires-clause-told
replay_round-requires-clause-told c = each_get (λ r. Each IsTold r.ports) c.args.rounds.now c.loop-place.place c.round_at-told.result.now c.round_at-told.ensures c.requires.told

pub returns-then-not-answer : goal.returns-then-not-answer
returns-then-not-answer c = record {
  finds = λ policy are macs.
      let f = c.args.files.now in
      let i = c.loop-place.invariant in
      let now = histories c.loop-place.bench.seats.items in
      let new = histories c.replay_round.new.bench.seats.items in
      let r = c.round_at-told.result.now in
      let one : (next : ℕ) → packets_between f.records.now c.in-Some.first next ≡ packets_between f.records.now c.in-Some.first c.end_of-end.result → Finds (λ gs. RoundReplays (checked c.args.bench.now.workers policy f.commands.now) f.records.now c.in-Some.first next now gs r) new c.in_ok-answer.answer = λ next e. subst (λ w. Finds (λ gs. RoundReplays (checked w policy f.commands.now) f.records.now c.in-Some.first next now gs r) new c.in_ok-answer.answer) i.workers (c.in_ok-answer.ensures.finds policy next (i.seats policy are) (i.macs ∙ macs) e) in
      rounds_stop c.args.bench.now.workers policy f.commands.now f.records.now (histories c.args.bench.now.seats.items) (cuts f.commands.now (length f.records.now)) c.args.rounds.now c.loop-place.place c.in-Some.first c.end_of-end.result c.len-total.result c.loop-place.cut c.next_cut-cut.result now new _ r c.in_ok-answer.answer c.in-Some.is c.round_at-told.ensures c.if-not-answer.true c.len-total.ensures c.next_cut-cut.ensures c.end_of-end.ensures.value one (i.left policy are macs);
}

pub loop-place-preserved : goal.loop-place-preserved
loop-place-preserved c =
    let f = c.args.files.now in
    let i = c.loop-place.invariant in
    let g = c.replay_round.ensures in
    record {
      same = g.same;
      long = g.long ∙ i.long;
      macs = g.macs ∙ i.macs;
      workers = g.workers ∙ i.workers;
      seats = λ policy are. g.seats policy (i.seats policy are);
      left = λ policy are macs.
          let now = histories c.loop-place.bench.seats.items in
          let new = histories c.replay_round.new.bench.seats.items in
          let r = c.round_at-told.result.now in
          let next : c.loop-place.place + 1 ≡ suc c.loop-place.place = omega arith in
          let one : (next : ℕ) → packets_between f.records.now c.in-Some.first next ≡ packets_between f.records.now c.in-Some.first c.end_of-end.result → Finds (λ gs. RoundReplays (checked c.args.bench.now.workers policy f.commands.now) f.records.now c.in-Some.first next now gs r) new c.in_ok-answer.answer = λ next e. subst (λ w. Finds (λ gs. RoundReplays (checked w policy f.commands.now) f.records.now c.in-Some.first next now gs r) new c.in_ok-answer.answer) i.workers (c.in_ok-answer.ensures.finds policy next (i.seats policy are) (i.macs ∙ macs) e) in
          rounds_on c.args.bench.now.workers policy f.commands.now f.records.now (histories c.args.bench.now.seats.items) (cuts f.commands.now (length f.records.now)) c.args.rounds.now c.loop-place.place (c.loop-place.place + 1) c.in-Some.first c.end_of-end.result c.len-total.result c.loop-place.cut c.next_cut-cut.result now new r c.in_ok-answer.answer next c.in-Some.is c.round_at-told.ensures c.if-not-answer.false c.len-total.ensures c.next_cut-cut.ensures c.end_of-end.ensures.value one (i.left policy are macs);
    }
