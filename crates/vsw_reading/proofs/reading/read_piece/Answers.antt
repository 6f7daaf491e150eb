use Rattle.std.proofs.Common.{Ok, subst}
use Rattle.vsw_reading.specs.Private.Steps.{ReadsBehind}
use Rattle.vsw_reading.proofs.Pieces.{piece_fault, piece_taken, piece_unread}
use Rattle.vsw_reading.proofs.reading.read_piece.Goals as goal

pub returns-in-Ok-Ok-clause-takes : goal.returns-in-Ok-Ok-clause-takes
returns-in-Ok-Ok-clause-takes g c = λ start name bytes records h.
    let old = g.H.Host.outside c.args.host.now in
    let now = g.H.Host.outside c.read_behind.new.host in
    let r = c.args.reading.now in
    let p = c.read_behind.new.reader in
    piece_taken start old now name r c.count_piece.new.reading p c.in-Ok-Ok.count bytes records (subst (λ w. ReadsBehind old now r.source.file r.reader p (Ok w)) c.in-Ok-Ok.field-0-is c.in-Ok-Ok.ensures.reads) c.count_piece.ensures.counts c.count_piece.ensures.source h

pub returns-in-Ok-Err-clause-takes : goal.returns-in-Ok-Err-clause-takes
returns-in-Ok-Err-clause-takes g c = λ start name bytes records h.
    let old = g.H.Host.outside c.args.host.now in
    let now = g.H.Host.outside c.read_behind.new.host in
    let r = c.args.reading.now in
    let p = c.read_behind.new.reader in
    piece_fault start old now name r p _ bytes records c.requires.unfinished (subst (λ w. ReadsBehind old now r.source.file r.reader p (Ok w)) c.in-Ok-Err.field-0-is c.in-Ok-Err.ensures.reads) h

pub returns-in-Err-clause-takes : goal.returns-in-Err-clause-takes
returns-in-Err-clause-takes g c = λ start name bytes records h. piece_unread start (g.H.Host.outside c.args.host.now) (g.H.Host.outside c.read_behind.new.host) name c.args.reading.now c.read_behind.new.reader _ bytes records c.in-Err.ensures.reads h
