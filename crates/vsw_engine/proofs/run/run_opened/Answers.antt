use Rattle.std.proofs.Common.{arith}
use Rattle.vsw_engine.proofs.Batches.{near_filled}
use Rattle.vsw_engine.proofs.Beginning.{first_filled, first_unfilled}
use Rattle.vsw_engine.proofs.run.run_opened.Goals as goal

pub run_headed-requires-clause-near : goal.run_headed-requires-clause-near
run_headed-requires-clause-near g c = near_filled (g.H.Host.outside c.args.host.now) (g.H.Host.outside c.fill.new.host) c.args.reading.now c.fill.new.reading 0 c.in-Ok.stop (0, omega arith) (omega arith) c.requires.near c.in-Ok.ensures.fills

pub returns-in-Ok : goal.returns-in-Ok
returns-in-Ok g c = record { answers = λ start name o. c.run_headed.ensures.answers start name (first_filled start (g.H.Host.outside c.args.host.now) (g.H.Host.outside c.fill.new.host) name c.args.reading.now c.fill.new.reading c.in-Ok.stop c.fill.ensures.outputs c.in-Ok.ensures.fills o) }

pub returns-in-Err : goal.returns-in-Err
returns-in-Err g c = record { answers = λ start name o. first_unfilled c.args.rows.now start (g.H.Host.outside c.args.host.now) (g.H.Host.outside c.fill.new.host) name c.args.reading.now c.fill.new.reading _ c.fill.ensures.outputs c.in-Err.ensures.fills o }
