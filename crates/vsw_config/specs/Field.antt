-- The fields of conditions, and how their values are written.
use Rattle.std.specs.Prelude.{ℕ, List, [], ◌∷◌, ◌++◌, Result, codes}
use Rattle.serde_json.specs.Data.{Data}
use Rattle.vsw_rule.specs.declared.field.Field.{Field}
use Rattle.vsw_rule.specs.declared.field.Field.TheVariants.{DstMac, SrcMac, Kind, SrcIp, DstIp, Proto, Part, SrcPort, DstPort, OuterDstMac, OuterSrcMac, OuterSrcIp, OuterDstIp, Vni, SrcIp6, DstIp6}
use Rattle.vsw_config.specs.declared.fault.Fault.{Fault}
use Rattle.vsw_config.specs.Fault.{◌>>=◌}
use Rattle.vsw_config.specs.Value.{text_of, since_two, value_for}
use Rattle.vsw_config.specs.declared.field.Form.{Form}
use Rattle.vsw_config.specs.declared.field.Form.TheVariants as form

-- the names of fields that both versions of the file have
abbrev pub field_names : List (List ℕ × Field)
field_names =
    (codes "dst_mac", DstMac) ∷ (codes "src_mac", SrcMac) ∷ (codes "kind", Kind) ∷ (codes "src_ip", SrcIp) ∷ (codes "dst_ip", DstIp) ∷
    (codes "proto", Proto) ∷ (codes "part", Part) ∷ (codes "src_port", SrcPort) ∷ (codes "dst_port", DstPort) ∷
    (codes "outer_dst_mac", OuterDstMac) ∷ (codes "outer_src_mac", OuterSrcMac) ∷ (codes "outer_src_ip", OuterSrcIp) ∷
    (codes "outer_dst_ip", OuterDstIp) ∷ (codes "vni", Vni) ∷ []

-- and those that version 2 adds
abbrev pub field_names6 : List (List ℕ × Field)
field_names6 = (codes "src_ip6", SrcIp6) ∷ (codes "dst_ip6", DstIp6) ∷ []

-- the field of this name, in a file of this version
unfoldable pub field_for : ℕ → List ℕ → Result Field Fault
field_for version = value_for (field_names ++ since_two version field_names6)

-- a field
abbrev pub field_of : ℕ → Data → Result Field Fault
field_of version d = text_of d >>= field_for version

-- whether values are texts of addresses, or numbers
abbrev pub form_of : Field → Form
form_of DstMac = form.Mac
form_of SrcMac = form.Mac
form_of OuterDstMac = form.Mac
form_of OuterSrcMac = form.Mac
form_of SrcIp = form.Ip4
form_of DstIp = form.Ip4
form_of OuterSrcIp = form.Ip4
form_of OuterDstIp = form.Ip4
form_of Kind = form.Number
form_of Proto = form.Number
form_of Part = form.Number
form_of SrcPort = form.Number
form_of DstPort = form.Number
form_of Vni = form.Number
form_of SrcIp6 = form.Ip6
form_of DstIp6 = form.Ip6
