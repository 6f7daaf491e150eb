use Rattle.vsw_transpose.proofs.Kept.{fits_parts}
use Rattle.vsw_transpose.proofs.transposition.Transposition.apply_to.Goals as goal

pub rewrite-requires : goal.rewrite-requires
rewrite-requires c = record { ready = tt; shape = (fits_parts c.args.self.now c.args.stack.now c.requires).1 }
