-- That threads may share a dock.
use denote.Param.Send.{IsSend, IsSync, sendable, view_sync}
use denote.Param.SendFields.{FieldsHave, declared_sync}
use denote.RattleType.{RattleType}
use denote.Ref.{NamedLft}
use Rattle.std.proofs.Crossing.{crosses}
use Rattle.vsw_base.proofs.address.Mac.TheSendSync as mac
use Rattle.vsw_dock.specs.contracts.dock.Dock as Dock
use Rattle.vsw_dock.specs.contracts.dock.Dock.TheInside as dock
use Rattle.vsw_live.proofs.Sharing.{port_sync}
use Rattle.vsw_live.specs.declared.naming.Naming as Naming

module _ (J : RattleType) (n : Naming.Ghosts J.Denot) (s : IsSend J) (κ : NamedLft) (G : RattleType) (y : IsSync G) where
  pub dock_sync : IsSync (Dock.the_row κ J G n)
  dock_sync =
      let fields : FieldsHave IsSync ((dock.the_type κ J G n).parts) = (search sendable, (mac.the_sync, (search (mac.the_sync, crosses), (search (port_sync, s), (search sendable, tt))))) in
      view_sync _ _ _ _ _ (declared_sync (dock.the_type κ J G n) fields)
