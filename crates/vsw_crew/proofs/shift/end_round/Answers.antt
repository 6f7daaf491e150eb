use Rattle.std.proofs.Common.{◌∙◌, List, ap, length, sym, subst}
use Rattle.vsw_harbour.specs.Lane.{Lane}
use Rattle.vsw_harbour.specs.HarbourOpening.{rows_in}
use Rattle.vsw_harbour.specs.Harbour.{HarbourSeen, asks_of}
use Rattle.vsw_harbour.specs.Meeting.{AllMeet, AreLanesAt}
use Rattle.vsw_harbour.specs.Seen.{StationSeen}
use Rattle.vsw_policy.specs.Sound.{Each}
use Rattle.vsw_crew.proofs.Meets.{rows_back}
use Rattle.vsw_crew.proofs.Returning.{back_meet, back_worked, is_back}
use Rattle.vsw_crew.proofs.shift.end_round.Goals as goal

pub meet_after-requires-clause-lanes : goal.meet_after-requires-clause-lanes
meet_after-requires-clause-lanes g c =
    let h : HarbourSeen = c.args.harbour.now in
    let o = c.requires.out in
    let b = is_back c.args.underway o.4 c.args.tolds.items c.as_mut_slice-2.result.now c.as_mut_slice.result.now c.put_back.new.rows c.as_mut_slice-2.ensures.value c.as_mut_slice.ensures.value o.6 c.in_ok-put_back.ensures.put in
    let same = rows_back c.args.underway.rows.len c.args.underway.rows.items c.put_back.new.rows c.args.underway.rows.ok.0 (c.put_back.ensures.many ∙ ap length c.as_mut_slice.ensures.value) in
    subst (λ (w : List (List (Lane StationSeen))). Each (AreLanesAt h.docks) w) (sym same) (back_meet h o.0 o.1 o.2 o.3 c.args.underway o.4 c.put_back.new.rows o.5 b).lanes

pub meet_after-requires-clause-size : goal.meet_after-requires-clause-size
meet_after-requires-clause-size g c =
    let h : HarbourSeen = c.args.harbour.now in
    let o = c.requires.out in
    let b = is_back c.args.underway o.4 c.args.tolds.items c.as_mut_slice-2.result.now c.as_mut_slice.result.now c.put_back.new.rows c.as_mut_slice-2.ensures.value c.as_mut_slice.ensures.value o.6 c.in_ok-put_back.ensures.put in
    let same = rows_back c.args.underway.rows.len c.args.underway.rows.items c.put_back.new.rows c.args.underway.rows.ok.0 (c.put_back.ensures.many ∙ ap length c.as_mut_slice.ensures.value) in
    ap length same ∙ (back_meet h o.0 o.1 o.2 o.3 c.args.underway o.4 c.put_back.new.rows o.5 b).size

pub returns : goal.returns
returns g c = record {
  worked = λ out done hs lines first packets o s run same.
      let h : HarbourSeen = c.args.harbour.now in
      let b = is_back c.args.underway out c.args.tolds.items c.as_mut_slice-2.result.now c.as_mut_slice.result.now c.put_back.new.rows c.as_mut_slice-2.ensures.value c.as_mut_slice.ensures.value done c.in_ok-put_back.ensures.put in
      let back = rows_back c.args.underway.rows.len c.args.underway.rows.items c.put_back.new.rows c.args.underway.rows.ok.0 (c.put_back.ensures.many ∙ ap length c.as_mut_slice.ensures.value) in
      let met : AllMeet h.docks (asks_of h) (rows_in c.put_back.new.rows) (rows_in c.meet_after.new.rows.items) = subst (λ (w : List (List (Lane StationSeen))). AllMeet h.docks (asks_of h) w (rows_in c.meet_after.new.rows.items)) back c.in_ok-meet_after.ensures.met in
      back_worked h _ _ _ _ hs lines first packets c.args.underway out c.put_back.new.rows c.meet_after.new.rows.items c.requires.harbour.4 o b met s run same;
}
