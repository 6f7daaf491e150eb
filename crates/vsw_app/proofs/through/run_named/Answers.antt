use Rattle.std.proofs.Common.{[], map, refl, subst, sym}
use Rattle.vsw_harbour.specs.Mustered.{no_entries}
use Rattle.vsw_promise.specs.Ports.{ports_of}
use Rattle.vsw_promise.specs.Jobs.{Setting}
use Rattle.vsw_replay.specs.Switch.{AreServed, IsAt, SwitchNow}
use Rattle.vsw_app.proofs.Mustering.{crew_first, first_at, first_served, of_some, ready}
use Rattle.vsw_app.proofs.Running.{unstarted}
use Rattle.vsw_app.specs.Way.{is_local}
use Rattle.vsw_app.proofs.through.run_named.Goals as goal

pub new-crew-requires-clause-run : goal.new-crew-requires-clause-run
new-crew-requires-clause-run g c = of_some c.args.workers c.args.policy.now (is_local c.args.way) c.in-Ok.harbour _ (c.in-Ok.ensures c.args.workers c.args.policy.now (is_local c.args.way) c.requires.opened)

pub new-crew-requires-clause-ready : goal.new-crew-requires-clause-ready
new-crew-requires-clause-ready g c = (no_entries c.in-Ok.harbour.docks, ready c.args.workers c.args.policy.now (is_local c.args.way) c.in-Ok.harbour _ (c.in-Ok.ensures c.args.workers c.args.policy.now (is_local c.args.way) c.requires.opened))

pub run_crew-requires-clause-served : goal.run_crew-requires-clause-served
run_crew-requires-clause-served g c κs within =
    let h = c.in-Ok.harbour in
    let m = c.in-Ok.ensures c.args.workers c.args.policy.now (is_local c.args.way) c.requires.opened in
    let is = crew_first c.args.workers c.args.policy.now (is_local c.args.way) h _ c.new-crew.result m c.new-crew.ensures.now in
    subst (λ (w : SwitchNow). AreServed w c.args.schedule.now) (sym is) (first_served c.args.workers c.args.policy.now (is_local c.args.way) h _ c.args.schedule.now m c.requires.asked)

pub returns : goal.returns
returns g c =
    let h = c.in-Ok.harbour in
    let s : Setting = record { workers = c.args.workers; policy = c.args.policy.now; commands = c.args.schedule.now; local = is_local c.args.way } in
    let m = c.in-Ok.ensures c.args.workers c.args.policy.now (is_local c.args.way) c.requires.opened in
    let is = crew_first c.args.workers c.args.policy.now (is_local c.args.way) h _ c.new-crew.result m c.new-crew.ensures.now in
    let at = first_at c.args.workers c.args.policy.now (is_local c.args.way) c.args.schedule.now h _ c.requires.opened.more c.requires.opened.most m in
    c.run_crew.ensures.runs s refl (subst (λ (w : SwitchNow). IsAt s (map (λ p. []) (ports_of s.policy)) w) (sym is) at)

pub returns-in_default : goal.returns-in_default
returns-in_default g c = unstarted _ (g.H.Host.outside c.args.host.now) c.args.name.now.trace.now
