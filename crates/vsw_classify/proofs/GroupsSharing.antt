-- That one thread may hand groups to another, whose indexes keep snapshots.
use denote.Param.Send.{IsSend, view_send}
use denote.Param.SendFields.{FieldsHave, declared_send}
use Rattle.std.proofs.Crossing.{crosses}
use Rattle.vsw_classify.proofs.Sharing.{index_send}
use Rattle.vsw_rule.proofs.rule.Group.TheSendSync as group
use Rattle.vsw_classify.specs.contracts.groups.Groups as Groups
use Rattle.vsw_classify.specs.contracts.groups.Groups.TheInside as groups

pub groups_send : IsSend Groups.the_row
groups_send =
    let fields : FieldsHave IsSend ((groups.the_type).parts) = (search (group.the_send, crosses), (search (index_send, crosses), tt)) in
    view_send _ _ _ _ _ (declared_send groups.the_type fields)
