use Rattle.vsw_replay.proofs.stream.stream_opened.Goals as goal

pub returns-in-Err : goal.returns-in-Err
returns-in-Err g c = record { runs = λ s start name e o. c.in-Err.ensures.goes s start name c.args.runner e o }

pub returns-in-Ok : goal.returns-in-Ok
returns-in-Ok g c = record { runs = λ s start name e o. c.stream_rounds.ensures.runs s start name e (c.in-Ok.ensures.goes s start name c.args.runner e o) }
