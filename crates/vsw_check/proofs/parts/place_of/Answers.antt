use Rattle.std.proofs.Common.{◌==◌, sym}
use Rattle.vsw_check.proofs.Fronts.{found, none_found}
use Rattle.vsw_check.proofs.parts.place_of.Goals as goal

pub returns-in-Some : goal.returns-in-Some
returns-in-Some c = found (λ b. b == c.args.separator) c.free_front-from.result c.in-Some.more c.args.bytes.now c.free_front-from.ensures.within c.free_front-from.ensures.front (sym c.in-Some.ensures)

pub returns-in-None : goal.returns-in-None
returns-in-None c = none_found (λ b. b == c.args.separator) c.free_front-from.result c.args.bytes.now c.free_front-from.ensures.within c.free_front-from.ensures.front (sym c.in-None.ensures)
