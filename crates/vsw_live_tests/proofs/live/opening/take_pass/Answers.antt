use Rattle.std.proofs.Common.{sym, subst, arith, ap, ◌∙◌, take}
use Rattle.vsw_live.specs.Ports.{AreNewPasses, IsNewPass}
use Rattle.vsw_live_tests.proofs.Passes.{new_front, new_there}
use Rattle.vsw_live_tests.proofs.live.opening.take_pass.Goals as goal

pub returns-clause-pass : goal.returns-clause-pass
returns-clause-pass g c =
    subst (IsNewPass c.args.port.now.looking c.args.number) (sym c.remove-pass.ensures.value)
    (new_there c.args.port.now.looking c.args.passes.now.items c.args.number c.remove-pass.result c.requires.new
    (omega (arith, c.if-len-number.false, c.len.ensures, c.args.passes.now.ok.0)))

pub returns-clause-new : goal.returns-clause-new
returns-clause-new g c =
    subst (AreNewPasses c.args.port.now.looking 0) (sym (c.truncate.ensures.items ∙ ap (take c.args.number) c.remove-pass.ensures.items))
    (new_front c.args.port.now.looking 0 c.args.passes.now.items c.args.number c.requires.new)
