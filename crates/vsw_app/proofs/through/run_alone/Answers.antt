use Rattle.std.proofs.Common.{[], map, refl, subst, sym}
use Rattle.vsw_promise.specs.Ports.{ports_of}
use Rattle.vsw_promise.specs.Jobs.{Setting}
use Rattle.vsw_replay.specs.Switch.{AreServed, IsAt, SwitchNow}
use Rattle.vsw_app.proofs.Running.{unstarted}
use Rattle.vsw_replay.proofs.Asking.{all_listed, all_ports, all_rules}
use Rattle.vsw_app.proofs.through.run_alone.Goals as goal

pub returns-in_default : goal.returns-in_default
returns-in_default g c = unstarted _ (g.H.Host.outside c.args.host.now) c.args.trace.now

pub run_trace-requires-clause-served : goal.run_trace-requires-clause-served
run_trace-requires-clause-served g c κs within =
    let p = c.args.policy.now in
    let lines = c.args.schedule.now in
    subst (λ (w : SwitchNow). AreServed w lines) (sym c.alone-runner.ensures) (c.in-Ok.ensures.served lines (all_listed p lines c.requires.asked) (all_ports p lines c.requires.asked) (all_rules p lines c.requires.asked))

pub returns : goal.returns
returns g c =
    let s : Setting = record { workers = c.args.workers; policy = c.args.policy.now; commands = c.args.schedule.now; local = c.args.local } in
    c.run_trace.ensures.runs s refl (subst (λ (w : SwitchNow). IsAt s (map (λ p. []) (ports_of s.policy)) w) (sym c.alone-runner.ensures) (c.in-Ok.ensures.opens c.args.schedule.now))
