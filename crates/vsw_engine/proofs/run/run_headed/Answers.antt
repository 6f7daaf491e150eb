use Rattle.std.proofs.Common.{sym}
use Rattle.vsw_engine.proofs.Beginning.{head_none, head_put, head_unput}
use Rattle.vsw_engine.proofs.Sources.{near_put}
use Rattle.vsw_engine.proofs.run.run_headed.Goals as goal

pub run_batches-requires-clause-near : goal.run_batches-requires-clause-near
run_batches-requires-clause-near g c = near_put (g.H.Host.outside c.args.host.now) (g.H.Host.outside c.put.new.self) c.args.reading.now 0 c.args.stop c.in-Ok.ensures.puts.inputs c.requires.near

pub returns-in-Ok : goal.returns-in-Ok
returns-in-Ok g c = record { answers = λ start name f. c.run_batches.ensures.answers start name (head_put c.args.rows.now start (g.H.Host.outside c.args.host.now) (g.H.Host.outside c.put.new.self) name c.args.reading.now c.args.stop _ (sym c.in-None.ensures) c.in-Ok.ensures.puts f) }

pub returns-in-Err : goal.returns-in-Err
returns-in-Err g c = record { answers = λ start name f. head_unput c.args.rows.now start (g.H.Host.outside c.args.host.now) (g.H.Host.outside c.put.new.self) name c.args.reading.now c.args.stop _ (sym c.in-None.ensures) c.in-Err.ensures.puts f }

pub returns-in-Some : goal.returns-in-Some
returns-in-Some g c = record { answers = λ start name f. head_none c.args.rows.now start (g.H.Host.outside c.args.host.now) name c.args.reading.now c.args.stop c.in-Some.end (sym c.in-Some.ensures) f }
