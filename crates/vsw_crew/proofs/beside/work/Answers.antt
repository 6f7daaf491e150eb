use denote.Param.Send.{sendable}
use Rattle.vsw_harbour.proofs.Sharing.{dock_sync}
use Rattle.vsw_crew.proofs.beside.work.Goals as goal

pub run_rows-requires-sync-P : goal.run_rows-requires-sync-P
run_rows-requires-sync-P g c κs within = search (dock_sync, sendable)
