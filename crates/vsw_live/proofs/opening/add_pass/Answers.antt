use Rattle.vsw_live.proofs.Openings.{has_more}
use Rattle.vsw_live.proofs.opening.add_pass.Goals as goal

pub returns : goal.returns
returns c = record { has = has_more c.put.result c.args.lookup.now c.args.count c.args.writer.now c.pass-pass.new.self c.pass-pass.result c.args.passes.now.items c.put.new.all.items c.requires.has c.pass-pass.ensures.writer c.pass-pass.ensures.pass c.put.ensures.items }
