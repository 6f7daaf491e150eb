use Rattle.std.proofs.Common.{◌-◌, arith, refl, subst}
use Rattle.vsw_replay.specs.Private.Going.{CanRead}
use Rattle.vsw_replay.proofs.Parts.{begun_part, near_read, part_filled, part_unread, rest_none}
use Rattle.vsw_replay.proofs.begun.read_rest.Goals as goal

pub returns-then-not-may_go_on-clause-goes : goal.returns-then-not-may_go_on-clause-goes
returns-then-not-may_go_on-clause-goes g c = λ s start name switch b.
    let t = c.args.begun in
    rest_none s start (g.H.Host.outside c.args.host.now) name c.args.run.now switch t t.stop refl (c.may_go_on.ensures.none c.if-not-may_go_on.true) c.requires.near.near.rises c.requires.near.one b

pub returns-in-Ok-clause-goes : goal.returns-in-Ok-clause-goes
returns-in-Ok-clause-goes g c = λ s start name switch b.
    let t = c.args.begun in
    let more = c.may_go_on.ensures.more c.if-not-may_go_on.false in
    let old = g.H.Host.outside c.args.host.now in
    part_filled s start old (g.H.Host.outside c.fill.new.host) name c.args.run.now switch t.first t.next c.in-Ok.stop c.fill.new.reading c.fill.ensures.outputs c.fill.ensures.grown c.in-Ok.ensures.fills (begun_part s start old name c.args.run.now switch t more.0 b)

pub returns-in-Ok-clause-near : goal.returns-in-Ok-clause-near
returns-in-Ok-clause-near g c =
    let t = c.args.begun in
    let more = c.may_go_on.ensures.more c.if-not-may_go_on.false in
    let old = g.H.Host.outside c.args.host.now in
    let can = subst (CanRead old c.args.run.now t.next) more.0 c.requires.near.near.goes in
    near_read old (g.H.Host.outside c.fill.new.host) c.args.run.now t.first t.next (t.next - t.first) c.in-Ok.stop c.args.run.now.reading c.fill.new.reading c.requires.near.near.rises can.1 (omega (arith, c.requires.near.near.rises)) c.in-Ok.ensures.fills can.0

pub returns-in-Err-clause-goes : goal.returns-in-Err-clause-goes
returns-in-Err-clause-goes g c = λ s start name switch b.
    let t = c.args.begun in
    let more = c.may_go_on.ensures.more c.if-not-may_go_on.false in
    let old = g.H.Host.outside c.args.host.now in
    part_unread s start old (g.H.Host.outside c.fill.new.host) name c.args.run.now switch t.first t.next (t.next - t.first) _ c.fill.new.reading c.fill.ensures.outputs c.fill.ensures.grown c.in-Err.ensures.fills (begun_part s start old name c.args.run.now switch t more.0 b)
