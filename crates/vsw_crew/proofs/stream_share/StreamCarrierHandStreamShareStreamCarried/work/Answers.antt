use Rattle.vsw_crew.proofs.ByRing.{works_on}
use Rattle.vsw_crew.proofs.stream_share.StreamCarrierHandStreamShareStreamCarried.work.Goals as goal

pub returns : goal.returns
returns g c = λ was goes. works_on was c.args.share c.carry_piece.result goes c.carry_piece.ensures
