use Rattle.std.specs.Prelude.{[]}
use Rattle.vsw_base.specs.declared.fate.Fate.TheVariants.{Drop}
use Rattle.vsw_engine.proofs.Parts.{fate_part, on_ok}
use Rattle.vsw_engine.proofs.text.write_drop.Goals as goal

pub returns : goal.returns
returns c = on_ok c.packet_line.result _ _ (fate_part c.clear.new.self c.packet_line.new.self (Drop c.args.cause) [] c.clear.ensures) c.packet_line.ensures.ok
