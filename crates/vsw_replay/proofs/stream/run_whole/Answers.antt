use Rattle.vsw_replay.proofs.stream.run_whole.Goals as goal

pub returns-in-Ok-follow-clause-goes : goal.returns-in-Ok-follow-clause-goes
returns-in-Ok-follow-clause-goes g c = λ s start name e b. c.in-Ok-follow.ensures.goes s start name c.put_stretch.new.runner e (c.in-Ok-put_stretch.ensures.puts s start name e (c.in-Ok.ensures.goes s start name c.args.runner.now b))

pub returns-in-Err-follow-clause-goes : goal.returns-in-Err-follow-clause-goes
returns-in-Err-follow-clause-goes g c = λ s start name e b. c.in-Err-follow.ensures.goes s start name c.put_stretch.new.runner e (c.in-Ok-put_stretch.ensures.puts s start name e (c.in-Ok.ensures.goes s start name c.args.runner.now b))

pub returns-in-Err-put_stretch-clause-goes : goal.returns-in-Err-put_stretch-clause-goes
returns-in-Err-put_stretch-clause-goes g c = λ s start name e b. c.in-Err-put_stretch.ensures.puts s start name e (c.in-Ok.ensures.goes s start name c.args.runner.now b)

pub returns-in-Err-clause-goes : goal.returns-in-Err-clause-goes
returns-in-Err-clause-goes g c = λ s start name e b. c.in-Err.ensures.goes s start name c.args.runner.now b
