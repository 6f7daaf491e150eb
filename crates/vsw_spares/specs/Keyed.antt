-- What the key of a look tells of conditions and rules: which can't hold of any packet that has it.
use Rattle.std.specs.Prelude.{ℕ, ◌==◌, ◌&&◌, List, Bool, true, false, not, nat_lt, filter, Some, None, if◌then◌else◌}
use Rattle.std.specs.List.{list_all, list_any}
use lib.Pointwise.{pointwise}
use Rattle.vsw_base.specs.declared.address.Addr.{Addr}
use Rattle.vsw_base.specs.declared.address.Addr.TheVariants as addr
use Rattle.vsw_base.specs.declared.flow.LayerKey.{LayerKey}
use Rattle.vsw_base.specs.declared.packet.Dir.{Dir}
use Rattle.vsw_base.specs.Direction.{same_dir}
use Rattle.vsw_rule.specs.declared.field.Field.{Field}
use Rattle.vsw_rule.specs.declared.field.Field.TheVariants.{DstMac, SrcMac, Kind, SrcIp, DstIp, Proto, Part, SrcPort, DstPort, OuterDstMac, OuterSrcMac, OuterSrcIp, OuterDstIp, Vni, SrcIp6, DstIp6}
use Rattle.vsw_rule.specs.declared.rule.Action.{Action}
use Rattle.vsw_rule.specs.declared.rule.Action.TheVariants as action
use Rattle.vsw_rule.specs.declared.rule.Cond.{Cond}
use Rattle.vsw_rule.specs.declared.rule.Group.{Group}
use Rattle.vsw_rule.specs.declared.rule.Item.{Item}
use Rattle.vsw_rule.specs.declared.rule.Rule.{Rule}
use Rattle.vsw_rule.specs.Match.{in_item, in_item6}
use Rattle.vsw_policy.specs.Staying.{same_rule}

-- the value is in one of the items
abbrev pub is_in : Field → ℕ → List Item → Bool
is_in f v items = list_any (in_item f v) items

-- an address of the key is one of IPv4, or one of IPv6, in one of the items
abbrev pub is_four : Field → Addr → List Item → Bool
is_four f addr.Absent items = false
is_four f (addr.Four a) items = is_in f a items
is_four f (addr.Six a) items = false

abbrev pub is_six : Addr → List Item → Bool
is_six addr.Absent items = false
is_six (addr.Four a) items = false
is_six (addr.Six a) items = list_any (in_item6 a) items

-- a condition on this field may hold of a packet with this key. What the key doesn't keep may be anything; the fields of an encapsulation
-- aren't there where there is none
abbrev pub may_be : LayerKey → Field → List Item → Bool
may_be k DstMac items = true
may_be k SrcMac items = true
may_be k Kind items = true
may_be k SrcIp items = is_four SrcIp k.src items
may_be k DstIp items = is_four DstIp k.dst items
may_be k Proto items = is_in Proto k.proto items
may_be k Part items = is_in Part (if k.part then 1 else 0) items
may_be k SrcPort items = is_in SrcPort k.src_port items
may_be k DstPort items = is_in DstPort k.dst_port items
may_be k OuterDstMac items = not (k.encaps == 0)
may_be k OuterSrcMac items = not (k.encaps == 0)
may_be k OuterSrcIp items = not (k.encaps == 0)
may_be k OuterDstIp items = not (k.encaps == 0)
may_be k Vni items = not (k.encaps == 0) && is_in Vni k.vni_outer items
may_be k SrcIp6 items = is_six k.src items
may_be k DstIp6 items = is_six k.dst items

abbrev pub may_hold : LayerKey → Cond → Bool
may_hold k c = may_be k c.field c.items

-- an action can be done to a packet with so many encapsulations
abbrev pub may_do : LayerKey → Action → Bool
may_do k action.Allow = true
may_do k action.Drop = true
may_do k (action.Edit true set encap) = nat_lt 0 k.encaps
may_do k (action.Edit false set None) = true
may_do k (action.Edit false set (Some outer)) = nat_lt k.encaps 2

-- a rule may match, and a group's conditions may hold
abbrev pub may_match : LayerKey → Rule → Bool
may_match k r = list_all (may_hold k) r.when && may_do k r.action

abbrev pub may_apply : Dir → LayerKey → Group → Bool
may_apply d k g = same_dir g.dir d && list_all (may_hold k) g.when

-- those that may match, in their order
abbrev pub mights : LayerKey → List Rule → List Rule
mights k rs = filter (may_match k) rs

abbrev pub same_rules : List Rule → List Rule → Bool
same_rules rs ss = pointwise same_rule rs ss
