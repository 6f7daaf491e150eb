use Rattle.std.proofs.Common.{◌≤◌, ◌+◌, Ok, arith, sym, subst}
use Rattle.vsw_replay.specs.Private.Begun.{AddsTo, PartNear, PartSo}
use Rattle.vsw_replay.specs.Private.Going.{CanRead}
use Rattle.vsw_replay.proofs.Filling.{reading_on}
use Rattle.vsw_replay.proofs.Parts.{one_adds, one_near, one_read, part_read, part_unread, part_whole}
use Rattle.vsw_replay.proofs.begun.read_one.Goals as goal

pub returns-then-held-begun-clause-goes : goal.returns-then-held-begun-clause-goes
returns-then-held-begun-clause-goes g c = λ s start name switch q.
    part_whole s start (g.H.Host.outside c.args.host.now) name c.args.run.now switch c.args.begun.first c.args.begun.next (omega (arith, c.if-held-begun.true, c.held-held.ensures, c.requires.near.rises)) q

pub returns-in-Ok : goal.returns-in-Ok
returns-in-Ok g c =
    let old = g.H.Host.outside c.args.host.now in
    let now = g.H.Host.outside c.fill.new.host in
    let run = c.args.run.now in
    let t = c.args.begun in
    let st = c.in-Ok.stop in
    let r = c.fill.new.reading in
    let held = c.held-held.result in
    let can = subst (CanRead old run t.next) c.requires.full c.requires.near.goes in
    let within : t.first + (held + 1) ≤ t.next = omega (arith, c.if-held-begun.false, c.held-held.ensures, c.requires.room, c.requires.near.rises) in
    record {
      goes = λ s start name switch q. subst (λ w. PartSo s start now name (reading_on run r) switch t (Ok w)) (sym c.why_not_on.ensures) (one_read s start now name (reading_on run r) switch t st (part_read s start old now name run switch t.first t.next (held + 1) st r c.fill.ensures.outputs c.fill.ensures.grown (omega arith) within c.in-Ok.ensures.fills q));
      near = subst (PartNear now (reading_on run r) t) (sym c.why_not_on.ensures) (one_near old now run t held st run.reading r c.requires.full c.requires.near.rises can.1 within c.in-Ok.ensures.fills can.0);
      adds = subst (AddsTo run.reading.batch r.batch) (sym c.why_not_on.ensures) (one_adds old now held st run.reading r c.held-held.ensures c.fill.ensures.grown c.in-Ok.ensures.fills can.0);
    }

pub returns-in-Err-clause-goes : goal.returns-in-Err-clause-goes
returns-in-Err-clause-goes g c = λ s start name switch q.
    part_unread s start (g.H.Host.outside c.args.host.now) (g.H.Host.outside c.fill.new.host) name c.args.run.now switch c.args.begun.first c.args.begun.next (c.held-held.result + 1) _ c.fill.new.reading c.fill.ensures.outputs c.fill.ensures.grown c.in-Err.ensures.fills q
