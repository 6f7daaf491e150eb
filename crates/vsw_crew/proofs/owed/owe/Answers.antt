use Rattle.std.proofs.Common.{refl}
use Rattle.vsw_harbour.specs.HarbourOpening.{rows_in}
use Rattle.vsw_harbour.specs.Harbour.{HarbourSeen}
use Rattle.vsw_harbour.proofs.Gathering.{harbour_is}
use Rattle.vsw_crew.proofs.Owing.{has_owed}
use Rattle.vsw_crew.proofs.Told.{is_taken, plainly, whole_back}
use Rattle.vsw_crew.proofs.owed.owe.Goals as goal

pub returns : goal.returns
returns g c =
    let h : HarbourSeen = c.args.harbour.now in
    let i = plainly h _ _ _ _ (harbour_is _ h _ _ _ _ c.harbour.view_is c.harbour.invariant) in
    record {
      owed = λ s hs packets asked w. has_owed h _ _ s hs c.args.first packets c.args.worked.befores c.in_ok-afters.afters c.in_ok-lines.lines c.args.worked.firsts c.args.worked.loose (rows_in c.args.worked.rows.items) (rows_in c.take_all.new.rows.items) (rows_in c.give_rooms.new.rows.items) i
          (whole_back c.args.worked.rows.items c.deref.result.now c.deref.ensures.value (c.if-not-are_whole.ensures refl)) c.in_ok-lines.ensures.rows c.give_rooms.ensures asked
          (is_taken h s hs c.args.first packets c.args.worked.befores.items c.args.worked.befores.items c.in_ok-afters.afters.items c.in_ok-afters.afters.items c.in_ok-lines.lines.items c.args.worked.firsts.items c.args.worked.loose.items c.args.worked.loose.items c.args.worked.rows.items c.deref-2.result.now
          refl refl refl c.deref-2.ensures.value c.in_ok-afters.ensures c.in_ok-lines.ensures.lines w);
    }
