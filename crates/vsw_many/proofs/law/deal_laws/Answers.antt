use Rattle.vsw_many.proofs.Dealing.{deal_is_placed, all_is_dealt}
use Rattle.vsw_many.proofs.law.deal_laws.Goals as goal

pub returns : goal.returns
returns c = record { placed = deal_is_placed; dealt = all_is_dealt }
