use Rattle.std.proofs.Common.{arith}
use Rattle.vsw_core.proofs.Compared.{body_read}
use Rattle.vsw_core.proofs.reconciling.read_body.Goals as goal

pub returns-in-Some : goal.returns-in-Some
returns-in-Some c r s = body_read c.args.words.now c.in-Some.body.now c.body_to.result c.body_to.new.out c.in-Some.ensures.cases.1.same (omega (arith, c.told-words)) c.body_to.ensures.back r s
