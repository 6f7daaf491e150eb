use Rattle.std.proofs.Common.{◌∙◌, ap, length}
use Rattle.vsw_harbour.specs.HarbourOpening.{rows_in}
use Rattle.vsw_harbour.specs.Harbour.{HarbourSeen, asks_of}
use Rattle.vsw_harbour.proofs.Gathering.{harbour_is}
use Rattle.vsw_crew.proofs.Doing.{did_beside, may_meet, may_work, met_for, shares_many}
use Rattle.vsw_crew.proofs.beside.do_beside.Goals as goal

pub meet_for-requires-clause-shares : goal.meet_for-requires-clause-shares
meet_for-requires-clause-shares g c = ap length c.deref.ensures.value ∙ shares_many c.args.harbour.now c.requires.dealt.0 c.args.shares.items c.requires.dealt.1

pub work-requires-clause-begin : goal.work-requires-clause-begin
work-requires-clause-begin g c = λ κs within.
    let h : HarbourSeen = c.args.harbour.now in
    let met = met_for h c.args.shares.items c.deref.result.now (rows_in c.args.rows.items) (rows_in c.meet_for.new.rows.items) c.deref.ensures.value c.in_ok-meet_for.ensures.met in
    may_work h _ _ _ _ c.requires.stand.0 c.requires.dealt.0 c.args.rows.items c.meet_for.new.rows.items c.args.shares.items (harbour_is _ h _ _ _ _ c.harbour.view_is c.harbour.invariant) c.requires.size c.requires.stand.1 c.requires.dealt.1 c.requires.fit c.requires.few met

pub meet_after-requires-clause-lanes : goal.meet_after-requires-clause-lanes
meet_after-requires-clause-lanes g c =
    let h : HarbourSeen = c.args.harbour.now in
    let met = met_for h c.args.shares.items c.deref.result.now (rows_in c.args.rows.items) (rows_in c.meet_for.new.rows.items) c.deref.ensures.value c.in_ok-meet_for.ensures.met in
    (may_meet h _ _ _ _ c.requires.stand.0 c.requires.dealt.0 c.args.rows.items c.meet_for.new.rows.items c.args.shares.items c.in_ok-after.after.items (harbour_is _ h _ _ _ _ c.harbour.view_is c.harbour.invariant) c.requires.size c.requires.stand.1 c.requires.dealt.1 met c.in_ok-after.ensures.done).0

pub meet_after-requires-clause-size : goal.meet_after-requires-clause-size
meet_after-requires-clause-size g c =
    let h : HarbourSeen = c.args.harbour.now in
    let met = met_for h c.args.shares.items c.deref.result.now (rows_in c.args.rows.items) (rows_in c.meet_for.new.rows.items) c.deref.ensures.value c.in_ok-meet_for.ensures.met in
    (may_meet h _ _ _ _ c.requires.stand.0 c.requires.dealt.0 c.args.rows.items c.meet_for.new.rows.items c.args.shares.items c.in_ok-after.after.items (harbour_is _ h _ _ _ _ c.harbour.view_is c.harbour.invariant) c.requires.size c.requires.stand.1 c.requires.dealt.1 met c.in_ok-after.ensures.done).1

pub returns : goal.returns
returns g c =
    let h : HarbourSeen = c.args.harbour.now in
    let met = met_for h c.args.shares.items c.deref.result.now (rows_in c.args.rows.items) (rows_in c.meet_for.new.rows.items) c.deref.ensures.value c.in_ok-meet_for.ensures.met in
    record {
      did = λ hs js s e. did_beside h _ _ _ _ (asks_of h) hs js c.args.rows.items c.meet_for.new.rows.items c.args.shares.items c.in_ok-after.after.items c.meet_after.new.rows.items (harbour_is _ h _ _ _ _ c.harbour.view_is c.harbour.invariant) c.requires.size s e met c.in_ok-after.ensures.done c.in_ok-meet_after.ensures.met;
    }
