use Rattle.vsw_history_law.proofs.Isolated.{replies_alone, others_apart}
use Rattle.vsw_history_law.proofs.Replies.{runs_replies_alone}
use Rattle.vsw_history_law.proofs.law.controller_laws.Goals as goal

pub returns : goal.returns
returns c = record { replies = replies_alone; layers = others_apart; told = runs_replies_alone }
