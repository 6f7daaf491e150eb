-- That one thread may hand a layer to another.
use denote.Param.Send.{IsSend, sendable}
use denote.Param.SendFields.{FieldsHave, declared_send}
use Rattle.vsw_classify.proofs.GroupsSharing.{groups_send}
use Rattle.vsw_layerflow.proofs.flows.Flows.TheSendSync as flows
use Rattle.vsw_policy.proofs.layer.LayerSpec.TheSendSync as spec
use Rattle.vsw_policy.specs.contracts.layer.Layer as Layer

pub layer_send : IsSend Layer.the_row
layer_send =
    let fields : FieldsHave IsSend ((Layer.the_type).parts) = (search sendable, (spec.the_send, (groups_send, (flows.the_send, (search sendable, tt))))) in
    declared_send Layer.the_type fields
