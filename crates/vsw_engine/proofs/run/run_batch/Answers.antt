use Rattle.std.proofs.Common.{subst}
use Rattle.vsw_engine.specs.Private.Going.{IsPut}
use Rattle.vsw_engine.proofs.Batches.{open_next, put_bad, put_end, put_fault, put_full}
use Rattle.vsw_engine.proofs.run.run_batch.Goals as goal

pub read_next-requires : goal.read_next-requires
read_next-requires g c =
    let o = open_next (g.H.Host.outside c.args.host.now) (g.H.Host.outside c.put_batch.new.host) c.args.reading.now c.args.first c.args.stop c.in-Full.is c.put_batch.ensures.inputs c.requires.near in
    record { near = o.0; few = o.1; whole = o.2 }

pub returns-in-Full-clause-goes : goal.returns-in-Full-clause-goes
returns-in-Full-clause-goes g c = λ start name f.
    let now = g.H.Host.outside c.put_batch.new.host in
    c.read_next.ensures.goes c.args.rows.now start name (put_full c.args.rows.now start now name c.args.reading.now c.args.first (subst (IsPut c.args.rows.now start now name c.args.reading.now c.args.first) c.in-Full.is (c.in-Ok.ensures.puts start name f)))

pub returns-in-End-clause-goes : goal.returns-in-End-clause-goes
returns-in-End-clause-goes g c = λ start name f.
    let now = g.H.Host.outside c.put_batch.new.host in
    put_end c.args.rows.now start now name c.args.reading.now c.args.first (subst (IsPut c.args.rows.now start now name c.args.reading.now c.args.first) c.in-End.is (c.in-Ok.ensures.puts start name f))

pub returns-in-Fault-clause-goes : goal.returns-in-Fault-clause-goes
returns-in-Fault-clause-goes g c = λ start name f.
    let now = g.H.Host.outside c.put_batch.new.host in
    put_fault c.args.rows.now start now name c.args.reading.now c.args.first (subst (IsPut c.args.rows.now start now name c.args.reading.now c.args.first) c.in-Fault.is (c.in-Ok.ensures.puts start name f))

pub returns-in-Bad-clause-goes : goal.returns-in-Bad-clause-goes
returns-in-Bad-clause-goes g c = λ start name f.
    let now = g.H.Host.outside c.put_batch.new.host in
    put_bad c.args.rows.now start now name c.args.reading.now c.args.first c.in-Bad.bad (subst (IsPut c.args.rows.now start now name c.args.reading.now c.args.first) c.in-Bad.is (c.in-Ok.ensures.puts start name f))
