use Rattle.vsw_offload.proofs.Remade.{not_edited}
use Rattle.vsw_offload.proofs.making.is_own.Goals as goal

pub returns : goal.returns
returns c = λ e by until hs are shape fit. let m = c.doing_of.ensures.moves by until hs are shape fit in (m.same (not_edited c.doing_of.result.edits e), m.all (not_edited c.doing_of.result.edits e))
