-- That one thread may hand a policy to another.
use denote.Param.Send.{IsSend, sendable, view_send}
use denote.Param.SendFields.{FieldsHave, declared_send}
use Rattle.std.proofs.Crossing.{crosses, send}
use Rattle.vsw_base.proofs.list.Items.TheSendSync as items
use Rattle.vsw_layerflow.proofs.seed.HashSeed.TheSendSync as seed
use Rattle.vsw_policy.proofs.LayerSharing.{layer_send}
use Rattle.vsw_policy.specs.contracts.policy.Policy as Policy
use Rattle.vsw_policy.specs.contracts.policy.Policy.TheInside as policy

pub policy_send : IsSend Policy.the_row
policy_send =
    let fields : FieldsHave IsSend ((policy.the_type).parts) = (send, (seed.the_send, (search (items.the_send, sendable), (search (layer_send, crosses), tt)))) in
    view_send _ _ _ _ _ (declared_send policy.the_type fields)
