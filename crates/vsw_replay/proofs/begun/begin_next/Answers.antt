use Rattle.vsw_replay.proofs.Parts.{firsts_are, past_begins, past_near}
use Rattle.vsw_replay.proofs.begun.begin_next.Goals as goal

pub returns-then-first-eq-RECORDS_MOST-clause-goes : goal.returns-then-first-eq-RECORDS_MOST-clause-goes
returns-then-first-eq-RECORDS_MOST-clause-goes g c = λ s start name switch e b.
    past_begins s start (g.H.Host.outside c.read_past.new.host) name c.read_past.new.run switch c.read_past.result c.read_past.ensures.near (firsts_are c.read_past.result c.args.first c.if-first-eq-RECORDS_MOST.true c.read_past.ensures.first) (c.read_past.ensures.goes s start name switch e b)

pub returns-then-first-eq-RECORDS_MOST-clause-near : goal.returns-then-first-eq-RECORDS_MOST-clause-near
returns-then-first-eq-RECORDS_MOST-clause-near g c = past_near (g.H.Host.outside c.read_past.new.host) c.read_past.new.run c.read_past.result c.read_past.ensures.near (firsts_are c.read_past.result c.args.first c.if-first-eq-RECORDS_MOST.true c.read_past.ensures.first)
