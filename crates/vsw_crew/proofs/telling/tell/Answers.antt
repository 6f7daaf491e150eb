use Rattle.std.proofs.Common.{refl, ap, sym, ◌∙◌, length, subst}
use Rattle.vsw_report.specs.Whole.{whole_text}
use Rattle.vsw_harbour.specs.HarbourOpening.{rows_in}
use Rattle.vsw_harbour.specs.Harbour.{HarbourSeen}
use Rattle.vsw_harbour.proofs.Gathering.{harbour_is}
use Rattle.vsw_crew.specs.Private.Round.{numbers_in}
use Rattle.vsw_crew.specs.Private.Rows.{AreGone, lines_of}
use Rattle.vsw_crew.proofs.Gone.{all_gone, all_many, rows_many}
use Rattle.vsw_crew.proofs.Taking.{cleared_many}
use Rattle.vsw_policy.specs.Sound.{Each}
use Rattle.vsw_crew.proofs.Told.{map_many, has_told, is_rising, is_sized, is_taken, plainly, whole_back}
use Rattle.vsw_crew.proofs.telling.tell.Goals as goal

pub say-requires-clause-sizes : goal.say-requires-clause-sizes
say-requires-clause-sizes g c =
    let h : HarbourSeen = c.args.harbour.now in
    let i = plainly h _ _ _ _ (harbour_is _ h _ _ _ _ c.harbour.view_is c.harbour.invariant) in
    let w = c.requires.worked in
    let t = is_taken h w.0 w.1 c.args.first w.2 c.args.worked.befores.items c.deref-3.result.now c.in_ok-afters.afters.items c.deref-4.result.now c.in_ok-lines.lines.items c.args.worked.firsts.items c.args.worked.loose.items c.deref-5.result.now c.args.worked.rows.items c.deref-2.result.now
    c.deref-3.ensures.value c.deref-4.ensures.value c.deref-5.ensures.value c.deref-2.ensures.value c.in_ok-afters.ensures c.in_ok-lines.ensures.lines w.3 in
    is_sized h (numbers_in h) _ _ _ w.0 w.1 c.args.first w.2 c.deref-3.result.now c.deref-4.result.now c.in_ok-lines.lines.items c.args.worked.firsts.items c.deref-5.result.now (rows_in c.args.worked.rows.items) i t

pub say-requires-clause-grows : goal.say-requires-clause-grows
say-requires-clause-grows g c =
    let h : HarbourSeen = c.args.harbour.now in
    let w = c.requires.worked in
    let t = is_taken h w.0 w.1 c.args.first w.2 c.args.worked.befores.items c.deref-3.result.now c.in_ok-afters.afters.items c.deref-4.result.now c.in_ok-lines.lines.items c.args.worked.firsts.items c.args.worked.loose.items c.deref-5.result.now c.args.worked.rows.items c.deref-2.result.now
    c.deref-3.ensures.value c.deref-4.ensures.value c.deref-5.ensures.value c.deref-2.ensures.value c.in_ok-afters.ensures c.in_ok-lines.ensures.lines w.3 in
    is_rising h w.0 w.1 c.args.first w.2 c.deref-3.result.now c.deref-4.result.now c.in_ok-lines.lines.items c.args.worked.firsts.items c.deref-5.result.now (rows_in c.args.worked.rows.items) t

pub give_all-requires-clause-same : goal.give_all-requires-clause-same
give_all-requires-clause-same g c =
    ap length c.in_ok-short.ensures.taken ∙ (all_many c.in_ok-lines.lines.items ∙ (ap length c.in_ok-lines.ensures.lines ∙ (map_many lines_of (rows_in c.args.worked.rows.items) ∙ (sym (cleared_many (rows_in c.args.worked.rows.items)) ∙ (sym (ap length c.in_ok-lines.ensures.rows) ∙ rows_many c.take_all.new.rows.items)))))

pub give_all-requires-clause-gone : goal.give_all-requires-clause-gone
give_all-requires-clause-gone g c = subst (Each AreGone) (sym c.in_ok-short.ensures.taken) (all_gone c.in_ok-lines.lines.items)

pub returns : goal.returns
returns g c =
    let h : HarbourSeen = c.args.harbour.now in
    let i = plainly h _ _ _ _ (harbour_is _ h _ _ _ _ c.harbour.view_is c.harbour.invariant) in
    record {
      told = λ s hs packets asked w. has_told h _ _ s hs c.args.first packets c.deref-3.result.now c.deref-4.result.now c.in_ok-lines.lines.items c.args.worked.firsts.items c.deref-5.result.now (rows_in c.args.worked.rows.items) (rows_in c.take_all.new.rows.items) (rows_in c.give_all.new.rows.items) c.in_ok-short.short (whole_text c.args.out.now) (whole_text c.say.new.out) i
          (whole_back c.args.worked.rows.items c.deref.result.now c.deref.ensures.value (c.if-not-are_whole.ensures refl)) c.in_ok-lines.ensures.rows c.give_all.ensures c.in_ok-short.ensures.text c.in_ok-short.ensures.short asked
          (is_taken h s hs c.args.first packets c.args.worked.befores.items c.deref-3.result.now c.in_ok-afters.afters.items c.deref-4.result.now c.in_ok-lines.lines.items c.args.worked.firsts.items c.args.worked.loose.items c.deref-5.result.now c.args.worked.rows.items c.deref-2.result.now
          c.deref-3.ensures.value c.deref-4.ensures.value c.deref-5.ensures.value c.deref-2.ensures.value c.in_ok-afters.ensures c.in_ok-lines.ensures.lines w);
    }
