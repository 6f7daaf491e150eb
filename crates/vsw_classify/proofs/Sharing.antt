-- That one thread may hand an index to another. The prover finds this of what an index holds (`TheSendSync`), but not of what keeps a snapshot.
use denote.Param.Send.{IsSend, sendable, view_send}
use denote.Param.SendFields.{FieldsHave, declared_send}
use Rattle.std.proofs.Crossing.{crosses}
use Rattle.vsw_classify.proofs.field_index.FieldIndex.TheSendSync as field
use Rattle.vsw_classify.specs.contracts.index.GroupIndex as GroupIndex
use Rattle.vsw_classify.specs.contracts.index.GroupIndex.TheInside as index

pub index_send : IsSend GroupIndex.the_row
index_send =
    let fields : FieldsHave IsSend ((index.the_type).parts) = (search crosses, (search (crosses, sendable), (search (crosses, sendable), (search (field.the_send, crosses), (search sendable, tt))))) in
    view_send _ _ _ _ _ (declared_send index.the_type fields)
