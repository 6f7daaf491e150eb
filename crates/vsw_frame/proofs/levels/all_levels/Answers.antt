use Rattle.vsw_frame.specs.declared.frame.Levels.{Levels}
use Rattle.vsw_frame.proofs.Opens.{known, Known}
use Rattle.vsw_frame.proofs.levels.all_levels.Goals as goal

pub returns-clause-count : goal.returns-clause-count
returns-clause-count c =
    let f = c.args.frame.now in
    let l : Levels = record { first = f.first; second = f.second; third = f.third } in
    let k : Known f.stack.now f.sizes l = known f.stack.now f.control f.sizes l f.payload.now f.read in
    k.count

pub returns-clause-stand : goal.returns-clause-stand
returns-clause-stand c =
    let f = c.args.frame.now in
    let l : Levels = record { first = f.first; second = f.second; third = f.third } in
    let k : Known f.stack.now f.sizes l = known f.stack.now f.control f.sizes l f.payload.now f.read in
    record { in_order = k.order; laid = k.laid; short = k.short }
