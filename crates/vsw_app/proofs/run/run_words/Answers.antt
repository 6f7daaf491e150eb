use Rattle.vsw_app.proofs.Completing.{complete_alone, complete_is}
use Rattle.vsw_app.proofs.Answered.{answered_is}
use Rattle.vsw_app.proofs.ByRows.{complete_by_rows}
use Rattle.vsw_app.proofs.Finishing.{usage_is, read_fault_is, write_fault_is}
use Rattle.vsw_app.proofs.run.run_words.Goals as goal

pub returns-clause-usage : goal.returns-clause-usage
returns-clause-usage g c = usage_is c.args.words.now (g.H.Host.outside c.args.host.now) (g.H.Host.outside c.run.new.host) c.run.result c.run.ensures

pub returns-clause-read_fault : goal.returns-clause-read_fault
returns-clause-read_fault g c = read_fault_is c.args.words.now (g.H.Host.outside c.args.host.now) (g.H.Host.outside c.run.new.host) c.run.result c.run.ensures

pub returns-clause-write_fault : goal.returns-clause-write_fault
returns-clause-write_fault g c = write_fault_is c.args.words.now (g.H.Host.outside c.args.host.now) (g.H.Host.outside c.run.new.host) c.run.result c.run.ensures

pub returns-clause-complete : goal.returns-clause-complete
returns-clause-complete g c = complete_is c.args.words.now (g.H.Host.outside c.args.host.now) (g.H.Host.outside c.run.new.host) c.run.result c.run.ensures

pub returns-clause-alone : goal.returns-clause-alone
returns-clause-alone g c = complete_alone c.args.words.now (g.H.Host.outside c.args.host.now) (g.H.Host.outside c.run.new.host) c.run.result c.run.ensures

pub returns-clause-answered : goal.returns-clause-answered
returns-clause-answered g c = answered_is c.args.words.now (g.H.Host.outside c.args.host.now) (g.H.Host.outside c.run.new.host) c.run.result c.run.ensures

pub returns-clause-by_rows : goal.returns-clause-by_rows
returns-clause-by_rows g c = complete_by_rows c.args.words.now (g.H.Host.outside c.args.host.now) (g.H.Host.outside c.run.new.host) c.run.result c.run.ensures
