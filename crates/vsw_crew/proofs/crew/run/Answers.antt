use Rattle.vsw_harbour.specs.Harbour.{HarbourSeen}
use Rattle.vsw_crew.proofs.Between.{are_asked}
use Rattle.vsw_crew.proofs.Joining.{is_with, run_with}
use Rattle.vsw_crew.proofs.crew.run.Goals as goal

pub tell-requires : goal.tell-requires
tell-requires g c =
    let h : HarbourSeen = c.args.harbour.now in
    let w = is_with h c.args.schedule.now c.requires.run.run c.requires.run.is in
    record { worked = (run_with c.args.schedule.now c.requires.run.run, c.requires.ready.0, c.args.packets.now, c.in_ok-worked.ensures.worked (run_with c.args.schedule.now c.requires.run.run) c.requires.ready.0 w.0 w.1 c.requires.ready.1) }

pub returns : goal.returns
returns g c = record {
  told = λ s hs run same ready. c.in_ok-told.ensures.told s hs c.args.packets.now (are_asked c.args.harbour.now s c.args.schedule.now run same c.requires.lines) (c.in_ok-worked.ensures.worked s hs run same ready);
}
