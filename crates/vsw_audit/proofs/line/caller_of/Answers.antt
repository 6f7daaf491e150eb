use Rattle.std.proofs.Common.{◌∙◌, sym, arith}
use Rattle.vsw_audit.proofs.Tasks.{place_within}
use Rattle.vsw_audit.proofs.line.caller_of.Goals as goal

pub returns-then-is_listed-clause-within : goal.returns-then-is_listed-clause-within
returns-then-is_listed-clause-within c = let w = place_within c.args.controllers.now c.in-Controller.number (sym c.is_listed.ensures ∙ c.if-is_listed.true) in omega (arith, w, c.place_of.ensures.value, c.requires)
