use Rattle.std.proofs.Common.{nat_lt, if◌then◌else◌, Some, None, Ok, refl, subst, ap, ◌∙◌}
use Rattle.vsw_reading.specs.Private.Steps.{TakesPiece}
use Rattle.vsw_reading.specs.declared.reading.Stop.TheVariants.{Full}
use Rattle.vsw_reading.proofs.Steps.{Finds, step_record, step_end, step_bad, step_unread, step_on, step_fault, step_unfed, open_more, unfinished, grown_read}
use Rattle.vsw_reading.proofs.reading.step.Goals as goal

pub returns-in-Ok-Record-clause-steps : goal.returns-in-Ok-Record-clause-steps
returns-in-Ok-Record-clause-steps g c = λ start name given h.
    let r = c.args.reading.now in
    let finds = subst (Finds r.reader c.read_into.new.self r.batch c.read_into.new.batch) c.in-Ok-Record.field-0-is c.in-Ok-Record.ensures.reads in
    step_record start (g.H.Host.outside c.args.host.now) name r c.read_into.new.self c.read_into.new.batch given c.args.most c.full.result (c.full.ensures ∙ ap (λ n. if nat_lt n c.args.most then None else Some Full) c.len.ensures) c.requires.room c.in-Ok-Record.ensures.finished finds h

pub returns-in-Ok-End-clause-steps : goal.returns-in-Ok-End-clause-steps
returns-in-Ok-End-clause-steps g c = λ start name given h.
    let r = c.args.reading.now in
    let finds = subst (Finds r.reader c.read_into.new.self r.batch c.read_into.new.batch) c.in-Ok-End.field-0-is c.in-Ok-End.ensures.reads in
    step_end start (g.H.Host.outside c.args.host.now) name r c.read_into.new.self c.read_into.new.batch given c.args.most c.requires.room c.in-Ok-End.ensures.finished finds h

pub returns-in-Ok-Bad-clause-steps : goal.returns-in-Ok-Bad-clause-steps
returns-in-Ok-Bad-clause-steps g c = λ start name given h.
    let r = c.args.reading.now in
    let finds = subst (Finds r.reader c.read_into.new.self r.batch c.read_into.new.batch) c.in-Ok-Bad.field-0-is c.in-Ok-Bad.ensures.reads in
    step_bad start (g.H.Host.outside c.args.host.now) name r c.read_into.new.self c.read_into.new.batch given c.args.most c.in-Ok-Bad.bad c.requires.room c.in-Ok-Bad.ensures.finished finds h

pub returns-in-Err-clause-steps : goal.returns-in-Err-clause-steps
returns-in-Err-clause-steps g c = λ start name given h. step_unread start (g.H.Host.outside c.args.host.now) name c.args.reading.now c.read_into.new.self c.read_into.new.batch given c.in-Err.ensures.err c.in-Err.ensures.same h

pub read_piece-requires-clause-near : goal.read_piece-requires-clause-near
read_piece-requires-clause-near g c =
    let r = c.args.reading.now in
    let finds = subst (Finds r.reader c.read_into.new.self r.batch c.read_into.new.batch) c.in-Ok-More.field-0-is c.in-Ok-More.ensures.reads in
    open_more (g.H.Host.outside c.args.host.now) r c.read_into.new.self c.read_into.new.batch c.in-Ok-More.ensures.finished finds c.requires.near

pub read_piece-requires-clause-unfinished : goal.read_piece-requires-clause-unfinished
read_piece-requires-clause-unfinished g c =
    let r = c.args.reading.now in
    let finds = subst (Finds r.reader c.read_into.new.self r.batch c.read_into.new.batch) c.in-Ok-More.field-0-is c.in-Ok-More.ensures.reads in
    unfinished (g.H.Host.outside c.args.host.now) r c.read_into.new.self c.read_into.new.batch finds c.requires.near

pub returns-in-Ok-true-clause-steps : goal.returns-in-Ok-true-clause-steps
returns-in-Ok-true-clause-steps g c = λ start name given h.
    let r = c.args.reading.now in
    let finds = subst (Finds r.reader c.read_into.new.self r.batch c.read_into.new.batch) c.in-Ok-More.field-0-is c.in-Ok-More.ensures.reads in
    step_on start (g.H.Host.outside c.args.host.now) (g.H.Host.outside c.read_piece.new.host) name r c.read_piece.new.reading c.read_into.new.self c.read_into.new.batch given c.args.most c.requires.room c.in-Ok-More.ensures.finished finds c.read_piece.ensures.batch (λ bytes records read. subst (λ b. TakesPiece start (g.H.Host.outside c.read_piece.new.host) name c.read_piece.new.reading bytes records (Ok b)) c.in-Ok-true.field-0-test (c.in-Ok-true.ensures.takes start name bytes records read)) h

pub returns-in-Ok-false-clause-steps : goal.returns-in-Ok-false-clause-steps
returns-in-Ok-false-clause-steps g c = λ start name given h.
    let r = c.args.reading.now in
    let finds = subst (Finds r.reader c.read_into.new.self r.batch c.read_into.new.batch) c.in-Ok-More.field-0-is c.in-Ok-More.ensures.reads in
    step_fault start (g.H.Host.outside c.args.host.now) (g.H.Host.outside c.read_piece.new.host) name r c.read_piece.new.reading c.read_into.new.self c.read_into.new.batch given c.args.most c.requires.room c.in-Ok-More.ensures.finished finds c.read_piece.ensures.batch (λ bytes records read. subst (λ b. TakesPiece start (g.H.Host.outside c.read_piece.new.host) name c.read_piece.new.reading bytes records (Ok b)) c.in-Ok-false.field-0-test (c.in-Ok-false.ensures.takes start name bytes records read)) h

pub returns-in-Err-read_piece-clause-steps : goal.returns-in-Err-read_piece-clause-steps
returns-in-Err-read_piece-clause-steps g c = λ start name given h.
    let r = c.args.reading.now in
    let finds = subst (Finds r.reader c.read_into.new.self r.batch c.read_into.new.batch) c.in-Ok-More.field-0-is c.in-Ok-More.ensures.reads in
    step_unfed start (g.H.Host.outside c.args.host.now) (g.H.Host.outside c.read_piece.new.host) name r c.read_piece.new.reading c.read_into.new.self c.read_into.new.batch given _ c.in-Ok-More.ensures.finished finds c.read_piece.ensures.batch (c.in-Err-read_piece.ensures.takes start name) h

pub returns-in-Ok-End-clause-grown : goal.returns-in-Ok-End-clause-grown
returns-in-Ok-End-clause-grown g c = grown_read _ c.args.reading.now.batch c.read_into.new.batch c.read_into.new.batch c.in-Ok-End.ensures.batch refl

pub returns-in-Ok-Bad-clause-grown : goal.returns-in-Ok-Bad-clause-grown
returns-in-Ok-Bad-clause-grown g c = grown_read _ c.args.reading.now.batch c.read_into.new.batch c.read_into.new.batch c.in-Ok-Bad.ensures.batch refl

pub returns-in-Ok-true-clause-grown : goal.returns-in-Ok-true-clause-grown
returns-in-Ok-true-clause-grown g c = grown_read _ c.args.reading.now.batch c.read_into.new.batch c.read_piece.new.reading.batch c.in-Ok-More.ensures.batch c.read_piece.ensures.batch

pub returns-in-Ok-false-clause-grown : goal.returns-in-Ok-false-clause-grown
returns-in-Ok-false-clause-grown g c = grown_read _ c.args.reading.now.batch c.read_into.new.batch c.read_piece.new.reading.batch c.in-Ok-More.ensures.batch c.read_piece.ensures.batch

pub returns-in-Err-read_piece-clause-grown : goal.returns-in-Err-read_piece-clause-grown
returns-in-Err-read_piece-clause-grown g c = grown_read _ c.args.reading.now.batch c.read_into.new.batch c.read_piece.new.reading.batch c.in-Ok-More.ensures.batch c.read_piece.ensures.batch
