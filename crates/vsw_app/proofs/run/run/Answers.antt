use Rattle.std.proofs.Common.{sym}
use Rattle.vsw_run.specs.Seen.{asked_seen}
use Rattle.vsw_app.proofs.Finishing.{run_asked, run_unasked}
use Rattle.vsw_app.proofs.run.run.Goals as goal

pub returns-in-None : goal.returns-in-None
returns-in-None g c = run_unasked c.args.words.now (g.H.Host.outside c.args.host.now) (g.H.Host.outside c.finish.new.host) c.finish.result (sym c.in-None.ensures.asked) c.finish.ensures.status c.finish.ensures.complains c.finish.ensures.inputs c.finish.ensures.put

pub returns-in-Some : goal.returns-in-Some
returns-in-Some g c =
    run_asked c.args.words.now (asked_seen c.in-Some.asked) (g.H.Host.outside c.args.host.now) (g.H.Host.outside c.run_asked-end.new.host) (g.H.Host.outside c.finish-in-Some.new.host) c.run_asked-end.result c.finish-in-Some.result (sym c.in-Some.ensures.asked) c.run_asked-end.ensures c.finish-in-Some.ensures.status c.finish-in-Some.ensures.complains c.finish-in-Some.ensures.inputs c.finish-in-Some.ensures.put
