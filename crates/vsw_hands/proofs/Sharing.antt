-- That threads may share a board.
use denote.Param.Send.{IsSend, IsSync, sendable, view_send}
use denote.Param.SendFields.{FieldsHave, declared_send, declared_sync}
use denote.RattleType.{RattleType}
use Rattle.std.proofs.Crossing.{crosses}
use Rattle.boxcar.proofs.slot.OnceSlot.TheSendSync as slot
use Rattle.boxcar.proofs.slot.Written.TheSendSync as written
use Rattle.boxcar.proofs.tag.Tag.TheSendSync as tag
use Rattle.std.specs.declared.alloc.Allocator as Allocator
use Rattle.std.specs.contracts.alloc.Global as Global
use Rattle.std.specs.contracts.snapshot.Snapshot as Snapshot
use Rattle.boxcar.specs.contracts.vec.Anything as Anything
use Rattle.boxcar.specs.contracts.vec.AnythingKeeps.TheImpl as anything
use Rattle.std.specs.contracts.impls.GlobalAllocator.TheImpl.{ghosts}
use Rattle.boxcar.specs.declared.table.Keeps as Keeps
use Rattle.boxcar.specs.contracts.table.Placed as Placed
use Rattle.boxcar.specs.contracts.table.Placed.TheInside as placed
use Rattle.vsw_hands.specs.declared.hand.Hand as Hand
use Rattle.vsw_hands.specs.declared.roll.Roll as Roll
use Rattle.vsw_hands.specs.contracts.task.Task as Task
use Rattle.vsw_hands.specs.contracts.task.Task.TheInside as task
use Rattle.vsw_hands.specs.contracts.task.Done as Done
use Rattle.vsw_hands.specs.contracts.task.Done.TheInside as done
use Rattle.vsw_hands.specs.contracts.board.Board as board

module _ (T P A : RattleType) (k : Keeps.Ghosts P.Denot T.Denot) (h : Allocator.Ghosts A.Denot) where
  placed_send : IsSend (Placed.the_row T P A k h)
  placed_send =
      let fields : FieldsHave IsSend ((placed.the_type T P A k h).parts) = (search sendable, (search sendable, (search sendable, (search written.the_send, (search written.the_send, tt))))) in
      view_send _ _ _ _ _ (declared_send (placed.the_type T P A k h) fields)

module _ (S T W B : RattleType) (h : Hand.Ghosts W.Denot S.Denot T.Denot) (l : Roll.Ghosts B.Denot) (s : IsSend S) (t : IsSend T) (w : IsSend W) (b : IsSend B) where
  task_send : IsSend (Task.the_row S T W B h l)
  task_send =
      let fields : FieldsHave IsSend ((task.the_type S T W B h l).parts) = (search (s, sendable), (placed_send (Snapshot.the_row S) Anything.the_row Global.the_row (anything.ghosts (Snapshot.the_row S)) ghosts, (search sendable, tt))) in
      view_send _ _ _ _ _ (declared_send (task.the_type S T W B h l) fields)

  done_send : IsSend (Done.the_row S T W B h l)
  done_send =
      let fields : FieldsHave IsSend ((done.the_type S T W B h l).parts) = (search (t, sendable), (placed_send (Snapshot.the_row S) Anything.the_row Global.the_row (anything.ghosts (Snapshot.the_row S)) ghosts, (search sendable, tt))) in
      view_send _ _ _ _ _ (declared_send (done.the_type S T W B h l) fields)

  pub board_sync : IsSync (board.the_row S T W B h l)
  board_sync =
      let fields : FieldsHave IsSync ((board.the_type S T W B h l).parts) = (search (slot.the_send, slot.the_sync, tag.the_sync, crosses, sendable) depth 20, (search (task_send, crosses, sendable), (search (done_send, crosses, sendable), (search (crosses, sendable), (search (crosses, sendable), (search (crosses, sendable), (search (crosses, sendable), (search (crosses, sendable), tt)))))))) in
      declared_sync (board.the_type S T W B h l) fields
