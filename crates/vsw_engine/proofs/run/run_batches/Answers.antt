use Rattle.vsw_engine.proofs.run.run_batches.Goals as goal

pub returns-in-Err : goal.returns-in-Err
returns-in-Err g c = record { answers = λ start name f. c.in-Err.ensures.goes start name (c.loop-next.invariant.filled start name f) }
