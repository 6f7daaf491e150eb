use Rattle.std.proofs.Common.{◌≡◌, ◌-◌, ap, arith, length, sym, ◌∙◌}
use Rattle.vsw_harbour.specs.Harbour.{HarbourSeen}
use Rattle.vsw_harbour.proofs.Gathering.{harbour_is}
use Rattle.vsw_crew.specs.Private.Round.{macs_in}
use Rattle.vsw_crew.proofs.Handing.{fed_on, given_so, may_push, rings_many}
use Rattle.vsw_crew.proofs.stream_shift.feed_last.Goals as goal

pub push_to-requires-clause-open : goal.push_to-requires-clause-open
push_to-requires-clause-open g c =
    let x = c.requires.feeding in
    let f = c.args.feeding.now in
    may_push (f.most - f.fed) f.feeds.items x.5 (omega (arith, x.7.count, x.9)) (x.7.rings (f.most - f.fed) (omega (arith, x.7.within)))

pub push_to-requires-clause-given : goal.push_to-requires-clause-given
push_to-requires-clause-given g c =
    let x = c.requires.feeding in
    let f = c.args.feeding.now in
    let many : length f.feeds.items ≡ length x.5 = rings_many (f.most - f.fed) f.feeds.items x.5 (x.7.rings (f.most - f.fed) (omega (arith, x.7.within))) in
    let workers : c.harbour.inside.workers ≡ length f.feeds.items = ap (λ (w : HarbourSeen). w.workers) (c.harbour.view_is ∙ sym x.6) ∙ (sym x.7.workers ∙ sym many) in
    given_so c.harbour.inside.workers (length f.feeds.items) f.underway.first c.args.packets.now f.picks.items c.hand_over.new.picks.items c.in_ok-given.given workers (c.in_ok-given.ensures.handed c.args.packets.now c.at-captured.ensures)

pub returns-clause-feeding : goal.returns-clause-feeding
returns-clause-feeding g c = λ crew lines first before last out same x e lt.
    let h : HarbourSeen = c.args.harbour.now in
    let i = harbour_is _ h _ _ _ _ c.harbour.view_is c.harbour.invariant in
    let packets = c.args.packets.now in
    let macs : c.as_slice.result.now ≡ macs_in h = c.as_slice.ensures ∙ i.macs_are in
    fed_on crew h c.harbour.inside.workers c.as_slice.result.now lines first before packets last out c.args.feeding.now c.hand_over.new.loose c.push_to.new.feeds c.hand_over.new.picks _ c.in_ok-given.given same (ap (λ (w : HarbourSeen). w.workers) c.harbour.view_is) macs x e lt (record {
      there = c.at-captured.ensures;
      dealt = λ cs js so_far. c.in_ok-given.ensures.dealt packets cs js c.at-captured.ensures so_far;
      fit = λ before. c.in_ok-given.ensures.fit packets c.at-captured.ensures before;
      many = c.hand_over.ensures.workers;
      handed = c.in_ok-given.ensures.handed packets c.at-captured.ensures;
      pushed = c.push_to.ensures.pushed;
      loose = c.in_ok-given.ensures.loose;
    })
