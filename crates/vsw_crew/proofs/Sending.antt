-- That threads may take the shares of a round.
use denote.Param.Send.{IsSend, IsSync, sendable, view_send}
use denote.Param.SendFields.{FieldsHave, declared_send}
use denote.RattleType.{RattleType}
use denote.Ref.{NamedLft}
use Rattle.std.proofs.Crossing.{crosses}
use Rattle.vsw_actors.proofs.handed.Handed.TheSendSync as handed
use Rattle.vsw_actors.proofs.lane.Lane.TheSendSync as lane
use Rattle.vsw_actors.proofs.pick.Pick.TheSendSync as pick
use Rattle.vsw_crew.specs.contracts.share.Share as Share
use Rattle.vsw_crew.specs.contracts.share.Share.TheInside as share
use Rattle.vsw_crew.specs.contracts.stream_share.StreamShare as StreamShare
use Rattle.vsw_crew.specs.contracts.stream_share.StreamShare.TheInside as stream_share
use Rattle.vsw_dock.proofs.Sharing.{dock_sync}
use Rattle.vsw_dock.proofs.station.Station.TheSendSync as station
use Rattle.vsw_live.specs.declared.naming.Naming as Naming
use Rattle.vsw_pcap.proofs.batch.Batch.TheSendSync as batch
use Rattle.vsw_rings.proofs.drain.Drain.TheSendSync as drain

module _ (J : RattleType) (n : Naming.Ghosts J.Denot) (s : IsSend J) (κ : NamedLft) (ι : NamedLft) (G : RattleType) (y : IsSync G) where
  pub share_send : IsSend (Share.the_row κ ι J G n)
  share_send =
      let fields : FieldsHave IsSend ((share.the_type κ ι J G n).parts) =
      (search sendable, (search (dock_sync, sendable), (search (lane.the_send, station.the_send, crosses), (search (batch.the_send, batch.the_sync, crosses), (search sendable, (search (pick.the_send, crosses), (search sendable, tt))))))) in
      view_send _ _ _ _ _ (declared_send (share.the_type κ ι J G n) fields)

  pub stream_share_send : IsSend (StreamShare.the_row κ ι J G n)
  stream_share_send =
      let fields : FieldsHave IsSend ((stream_share.the_type κ ι J G n).parts) =
      (search sendable, (search (dock_sync, sendable), (search (lane.the_send, station.the_send, crosses), (search (drain.the_send, handed.the_send, crosses, sendable), (search sendable, (search sendable, tt)))))) in
      view_send _ _ _ _ _ (declared_send (stream_share.the_type κ ι J G n) fields)
