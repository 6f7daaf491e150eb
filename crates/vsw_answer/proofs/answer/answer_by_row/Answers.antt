use Rattle.std.proofs.Common.{rules, ◌≡◌, sym}
use Rattle.vsw_answer.proofs.Looks.{misses, sees_of, tells_of}
use Rattle.vsw_base.specs.declared.packet.Control.TheVariants as control
use Rattle.vsw_rows.specs.GoodRows.{opening_of}
use Rattle.vsw_answer.proofs.answer.answer_by_row.Goals as goal

pub returns-in-Miss-clause-tells : goal.returns-in-Miss-clause-tells
returns-in-Miss-clause-tells c =
    let plain : c.args.crossing.now.control ≡ control.None = search rules in
    misses c.args.lookup.now c.args.crossing.now c.args.pass.now.view c.seek.new.pass.view plain c.seek.ensures.begun c.in-Miss.ensures.miss.1

pub returns-in-Hit-clause-tells : goal.returns-in-Hit-clause-tells
returns-in-Hit-clause-tells c =
    let plain : c.args.crossing.now.control ≡ control.None = search rules in
    tells_of c.args.lookup.now c.args.crossing.now c.args.pass.now.view c.seek.new.pass.view c.seek.new.words c.answer.new.edited c.answer.result plain c.seek.ensures.begun c.in-Hit.ensures.found (c.answer.ensures.says (opening_of c.args.lookup.now.1) c.seek.new.pass.view.front c.in-Hit.ensures.hit.1 (sym c.in-Hit.ensures.hit.0))

pub returns-in-Hit-clause-sees : goal.returns-in-Hit-clause-sees
returns-in-Hit-clause-sees c =
    sees_of c.args.lookup.now c.args.crossing.now c.args.pass.now.view c.seek.new.pass.view c.seek.new.words c.answer.new.edited c.answer.result c.seek.ensures.begun c.in-Hit.ensures.found (c.answer.ensures.says (opening_of c.args.lookup.now.1) c.seek.new.pass.view.front c.in-Hit.ensures.hit.1 (sym c.in-Hit.ensures.hit.0))
