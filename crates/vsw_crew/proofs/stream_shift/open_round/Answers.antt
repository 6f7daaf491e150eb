use Rattle.std.proofs.Common.{ℕ, [], ap, map, refl, replicate, subst, ◌≡◌, Vec, Global}
use Rattle.vsw_actors.specs.declared.pick.Pick.{Pick}
use Rattle.vsw_harbour.specs.HarbourOpening.{rows_in}
use Rattle.vsw_harbour.specs.Harbour.{HarbourSeen, callers}
use Rattle.vsw_harbour.proofs.Gathering.{harbour_is}
use Rattle.vsw_crew.proofs.Joining.{counts_back, is_with, run_with}
use Rattle.vsw_crew.proofs.Outgoing.{is_feeding, may_stream}
use Rattle.vsw_crew.proofs.stream_shift.open_round.Goals as goal

pub meet_for_most-requires-clause-stand : goal.meet_for_most-requires-clause-stand
meet_for_most-requires-clause-stand g c =
    let w = is_with c.args.harbour.now c.args.schedule.now c.requires.run.run c.requires.run.is in
    let b = c.in_ok-firsts.ensures.begun (run_with c.args.schedule.now c.requires.run.run) c.requires.ready.0 w.0 w.1 c.requires.ready.1 in
    (b.middles, b.stand)

pub meet_for_most-requires-clause-size : goal.meet_for_most-requires-clause-size
meet_for_most-requires-clause-size g c =
    let w = is_with c.args.harbour.now c.args.schedule.now c.requires.run.run c.requires.run.is in
    (c.in_ok-firsts.ensures.begun (run_with c.args.schedule.now c.requires.run.run) c.requires.ready.0 w.0 w.1 c.requires.ready.1).size

pub give_all_streams-requires-clause-begin : goal.give_all_streams-requires-clause-begin
give_all_streams-requires-clause-begin g c =
    let h : HarbourSeen = c.args.harbour.now in
    let w = is_with h c.args.schedule.now c.requires.run.run c.requires.run.is in
    let b = c.in_ok-firsts.ensures.begun (run_with c.args.schedule.now c.requires.run.run) c.requires.ready.0 w.0 w.1 c.requires.ready.1 in
    may_stream h _ _ _ _ c.args.most (callers h) b.middles (rows_in c.begin.new.rows.items) c.meet_for_most.new.rows.items (harbour_is _ h _ _ _ _ c.harbour.view_is c.harbour.invariant) b.size b.stand c.in_ok-meet_for_most.ensures.met

pub returns-clause-feeding : goal.returns-clause-feeding
returns-clause-feeding g c = λ hs ready.
    let h : HarbourSeen = c.args.harbour.now in
    let none : map (λ (v : Vec Pick Global). v.items) c.in_ok-picks.picks.items ≡ replicate h.workers [] = subst (λ (n : ℕ). map (λ (v : Vec Pick Global). v.items) c.in_ok-picks.picks.items ≡ replicate n []) (ap (λ (w : HarbourSeen). w.workers) c.harbour.view_is) c.in_ok-picks.ensures in
    is_feeding h _ _ _ _ c.args.schedule.now hs c.in_ok-befores.befores c.args.rows.items c.begin.new.rows.items c.meet_for_most.new.rows.items _ _ (harbour_is _ h _ _ _ _ c.harbour.view_is c.harbour.invariant) c.requires.run
    (record {
      ready = ready;
      may = c.requires.lines;
      quiet = c.requires.quiet;
      numbers = c.requires.numbers;
      counts = counts_back c.in_ok-befores.befores.items c.args.rows.items c.deref.result.now c.deref.ensures.value c.in_ok-befores.ensures;
      befores_are = refl;
      streamed = c.in_ok-feeds.ensures.given;
      none = none;
      nothing = refl;
      none_loose = c.new.ensures.items;
    })
    c.in_ok-firsts.ensures.begun c.in_ok-meet_for_most.ensures.met
