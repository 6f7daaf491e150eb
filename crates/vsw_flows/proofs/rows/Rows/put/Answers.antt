use Rattle.std.proofs.Common.{◌≡◌, ◌<◌, true, arith, length, subst, sym}
use Rattle.vsw_flows.proofs.Calls.{Fresh, put_stands, settled_good, settled_stand}
use Rattle.vsw_flows.proofs.rows.Rows.put.Goals as goal

pub put-requires-clause-good : goal.put-requires-clause-good
put-requires-clause-good c =
    let p = c.args.lookup.now.1 in
    let given : Fresh p c.args.words.now c.args.looks.now c.self.inside.writer = subst (Fresh p c.args.words.now c.args.looks.now) (sym c.self.view_is) (record { opens = c.requires.opens; fresh = c.requires.fresh }) in
    settled_good p c.args.row c.args.words.now c.args.looks.now c.self.inside.writer c.settle.new.writer c.self.inside.leaning c.settle.new.leaning given c.settle.ensures.settles

pub invariant_of-self : goal.invariant_of-self
invariant_of-self c = settled_stand c.args.row c.self.inside.writer c.settle.new.writer c.self.inside.leaning c.settle.new.leaning c.settle.ensures.settles c.self.invariant

pub invariant_of-self-2 : goal.invariant_of-self-2
invariant_of-self-2 c =
    let p = c.args.lookup.now.1 in
    let given : Fresh p c.args.words.now c.args.looks.now c.self.inside.writer = subst (Fresh p c.args.words.now c.args.looks.now) (sym c.self.view_is) (record { opens = c.requires.opens; fresh = c.requires.fresh }) in
    let done : c.settle.result ≡ true = grind (arith, c.if-not-settle.false) in
    let there : c.args.row < length c.settle.new.writer.view.rows = omega (arith, c.requires.table.1, c.rows_of-self-inside-2.ensures.rows, c.rows_of-self-inside-2.ensures.words) in
    put_stands p c.args.row c.args.words.now c.args.looks.now c.self.inside.writer c.settle.new.writer c.put.new.self c.self.inside.leaning c.settle.new.leaning given there c.settle.ensures.settles (c.settle.ensures.there done) c.put.ensures c.self.invariant
