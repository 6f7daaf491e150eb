use Rattle.std.proofs.Common.{refl, ◌∙◌}
use Rattle.vsw_reading.specs.declared.reading.Stop.TheVariants.{Full}
use Rattle.vsw_replay.proofs.Filling.{next_more, next_none, near_none, cut_as}
use Rattle.vsw_reading.proofs.Open.{open_with, peeks_with}
use Rattle.vsw_replay.proofs.trace.read_past.Goals as goal

pub peek-requires : goal.peek-requires
peek-requires g c = record { near = open_with (g.H.Host.outside c.args.host.now) c.args.run.now.reading c.clear.new.self c.clear.ensures c.requires.near }

pub returns-in-Full-clause-goes : goal.returns-in-Full-clause-goes
returns-in-Full-clause-goes g c = λ s start name switch e b.
    let old = g.H.Host.outside c.args.host.now in
    let now = g.H.Host.outside c.peek.new.host in
    let run = c.args.run.now in
    next_more s start old now name run switch c.args.first c.peek.new.reading c.requires.full c.in-Full.ensures.reader c.in-Full.ensures.outputs (peeks_with old now run.reading c.peek.new.reading c.clear.new.self Full c.clear.ensures c.in-Full.ensures.peeks) b

pub returns-in_default : goal.returns-in_default
returns-in_default g c =
    let old = g.H.Host.outside c.args.host.now in
    let now = g.H.Host.outside c.peek.new.host in
    let run = c.args.run.now in
    let none = c.peek.ensures.batch ∙ c.clear.ensures in record {
      goes = λ s start name switch e b. next_none s start old now name run switch c.args.first c.next_cut-next.result c.peek.result c.peek.new.reading c.requires.full c.peek.ensures.reader none c.in_default.not-Full (cut_as s.commands c.args.schedule.now c.args.first c.next_cut-next.result e c.next_cut-next.ensures.next) c.peek.ensures.outputs
          (peeks_with old now run.reading c.peek.new.reading c.clear.new.self c.peek.result c.clear.ensures c.peek.ensures.peeks) b;
      near = near_none c.args.schedule.now now run c.args.first c.next_cut-next.result c.peek.result c.peek.new.reading c.requires.full none c.in_default.not-Full c.next_cut-next.ensures.next;
      first = refl;
      early = tt;
      outputs = c.peek.ensures.outputs;
    }
