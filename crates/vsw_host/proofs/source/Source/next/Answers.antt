use Rattle.std.proofs.Common.{◌<◌, length, subst, ap, arith}
use Rattle.vsw_host.specs.Source.{SourceSeen, NextPiece}
use Rattle.vsw_host.proofs.Pieces.{next_by}
use Rattle.vsw_host.proofs.source.Source.next.Goals as goal

pub returns-clause-next : goal.returns-clause-next
returns-clause-next g c =
    let old = g.H.Host.outside c.args.host.now in
    let new = g.H.Host.outside c.read.new.self in
    let room : 0 < length c.read.new.buffer = omega (arith, c.requires.some) in
    subst (λ k. NextPiece old new k c.read.new.buffer c.read.result) (ap (λ (s : SourceSeen). s.file) c.self.view_is) (next_by old new c.self.inside.file c.read.new.buffer c.read.result room c.read.ensures.reads)
