use denote.Param.Send.{sendable}
use Rattle.vsw_hands.proofs.Sharing.{board_sync}
use Rattle.vsw_hands.proofs.running.start_all.Goals as goal

pub spawn-requires-send-F : goal.spawn-requires-send-F
spawn-requires-send-F g c κs within = search (board_sync, sendable) depth 20
