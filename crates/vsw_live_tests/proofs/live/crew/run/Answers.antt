-- Threads may take the actors: a worker and a controller hold their port by reference.
use denote.Param.Send.{IsSend, sendable, view_send}
use denote.Param.SendFields.{FieldsHave, declared_send}
use denote.RattleType.{RattleType}
use denote.Ref.{NamedLft}
use Rattle.std.proofs.Crossing.{crosses}
use Rattle.std.proofs.option.Option.TheSendSync as option
use Rattle.vsw_answer.proofs.desk.Desk.TheSendSync as desk
use Rattle.vsw_port.proofs.event.Event.TheSendSync as event
use Rattle.vsw_live.specs.declared.naming.Naming as Naming
use Rattle.vsw_table.proofs.lookup.Pass.TheSendSync as pass
use Rattle.vsw_live.proofs.Sharing.{port_sync}
use Rattle.vsw_answer.proofs.room.Room.TheSendSync as room
use Rattle.vsw_live_tests.specs.contracts.live.controller.Controller as Controller
use Rattle.vsw_live_tests.specs.contracts.live.controller.Controller.TheInside as controller
use Rattle.vsw_live_tests.specs.contracts.live.crew.Actor as Actor
use Rattle.vsw_live_tests.specs.contracts.live.worker.Worker as Worker
use Rattle.vsw_live_tests.specs.contracts.live.worker.Worker.TheInside as worker
use Rattle.vsw_live_tests.proofs.live.worker.Answered.TheSendSync as answered
use Rattle.vsw_live.proofs.answer.Told.TheSendSync as told
use Rattle.vsw_live_tests.proofs.live.crew.run.Goals as goal

module _ (κ : NamedLft) (J : RattleType) (n : Naming.Ghosts J.Denot) (s : IsSend J) where
  worker_send : IsSend (Worker.the_row κ J n)
  worker_send =
      let fields : FieldsHave IsSend ((worker.the_type κ J n).parts) =
      (search (port_sync, sendable), (search (event.the_send, pass.the_send, sendable), (search sendable, (search sendable, (search sendable, (desk.the_send, (room.the_send, (search (answered.the_send, crosses), (search sendable, tt))))))))) in
      view_send _ _ _ _ _ (declared_send (worker.the_type κ J n) fields)

  controller_send : IsSend (Controller.the_row κ J n)
  controller_send =
      let fields : FieldsHave IsSend ((controller.the_type κ J n).parts) =
      (search (port_sync, sendable), (search (event.the_send, pass.the_send, sendable), (search sendable, (search (told.the_send, crosses), tt)))) in
      view_send _ _ _ _ _ (declared_send (controller.the_type κ J n) fields)

  actor_send : IsSend (Actor.the_row κ J n)
  actor_send =
      let fields : FieldsHave IsSend ((Actor.the_type κ J n).parts) = (worker_send, (search (controller_send, option.the_send, sendable), tt)) in
      declared_send (Actor.the_type κ J n) fields

pub for_each_mut-requires-send-T : goal.for_each_mut-requires-send-T
for_each_mut-requires-send-T g c κs within = search (actor_send, sendable)
