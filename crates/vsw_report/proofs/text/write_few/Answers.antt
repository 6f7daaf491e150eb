use Rattle.std.proofs.Common.{◌∙◌, refl}
use Rattle.vsw_report.proofs.Next.{few_first}
use Rattle.vsw_report.proofs.text.write_few.Goals as goal

pub returns : goal.returns
returns c = c.copy_from_slice-2.ensures.after ∙ few_first _ c.copy_from_slice.new.self c.args.bytes.now _ _ c.write_lanes.new.text c.copy_from_slice.ensures.after c.requires.text c.requires.bytes refl c.write_lanes.ensures
