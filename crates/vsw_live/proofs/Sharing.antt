-- That threads may share a port. The prover finds `Send` and `Sync` of all that lies below (`TheSendSync`), but of the ledger, which keeps a
-- snapshot, and of what holds a ledger.
use denote.Param.Send.{IsSend, IsSync, sendable, view_send, view_sync}
use denote.Param.SendFields.{FieldsHave, declared_send, declared_sync}
use denote.RattleType.{RattleType}
use Rattle.std.proofs.Crossing.{crosses, send}
use Rattle.vsw_core.proofs.rooms.Former.TheSendSync as former
use Rattle.vsw_core.proofs.rooms.Rooms.TheSendSync as rooms
use Rattle.vsw_core.specs.contracts.owner.Core as Core
use Rattle.vsw_core.specs.contracts.owner.Core.TheInside as core
use Rattle.vsw_port.proofs.event.Event.TheSendSync as event
use Rattle.vsw_live.specs.contracts.live.LivePort as LivePort
use Rattle.vsw_live.specs.contracts.live.LivePort.TheInside as live
use Rattle.vsw_live.specs.contracts.locked.Locked as Locked
use Rattle.vsw_live.specs.contracts.locked.Locked.TheInside as locked
use Rattle.vsw_live.specs.declared.naming.Naming as Naming
use Rattle.vsw_table.proofs.lookup.Lookup.TheSendSync as lookup
use Rattle.vsw_policy.proofs.Sharing.{policy_send}
use Rattle.vsw_port.specs.contracts.ledger.Ledger as Ledger
use Rattle.vsw_port.specs.contracts.ledger.Ledger.TheInside as ledger
use Rattle.vsw_flows.proofs.rows.Rows.TheSendSync as rows
use Rattle.vsw_walk.proofs.scratch.Scratch.TheSendSync as scratch

ledger_send : IsSend Ledger.the_row
ledger_send =
    let fields : FieldsHave IsSend ((ledger.the_type).parts) = (send, (policy_send, (search (event.the_send, crosses), (search crosses, tt)))) in
    view_send _ _ _ _ _ (declared_send ledger.the_type fields)

core_send : IsSend Core.the_row
core_send =
    let fields : FieldsHave IsSend ((core.the_type).parts) = (ledger_send, (rows.the_send, (scratch.the_send, (scratch.the_send, (rooms.the_send, (former.the_send, (search sendable, (search sendable, tt)))))))) in
    view_send _ _ _ _ _ (declared_send core.the_type fields)

module _ (J : RattleType) (n : Naming.Ghosts J.Denot) (s : IsSend J) where
  locked_send : IsSend (Locked.the_row J n)
  locked_send =
      let fields : FieldsHave IsSend ((locked.the_type J n).parts) = (search sendable, (search sendable, (core_send, (search sendable, tt)))) in
      view_send _ _ _ _ _ (declared_send (locked.the_type J n) fields)

  pub port_sync : IsSync (LivePort.the_row J n)
  port_sync =
      let fields : FieldsHave IsSync ((live.the_type J n).parts) = (search sendable, (search sendable, (search (event.the_send, lookup.the_sync), (search crosses, (search (crosses, locked_send), tt))))) in
      view_sync _ _ _ _ _ (declared_sync (live.the_type J n) fields)
