-- A packet that is rewritten and encapsulated on its way out, and the reply that finds its pairs.
use Rattle.std.specs.Prelude.{ℕ, List, [], ◌∷◌, length, ◌^◌, Some, None, true, false, refl, codes}
use Rattle.std.proofs.lemmas.Bool.{ltb-true}
use Rattle.vsw_base.specs.declared.flow.Outer.{Outer}
use Rattle.vsw_base.specs.declared.flow.Set.{Set}
use Rattle.vsw_base.specs.declared.packet.Dir.TheVariants.{Out, In}
use Rattle.vsw_base.specs.Hexadecimal.{spelled}
use Rattle.vsw_base.specs.Vectors.{plain_frame}
use Rattle.vsw_config.specs.declared.file.LayerFile.{LayerFile}
use Rattle.vsw_pcap.specs.declared.capture.Record.{Record}
use Rattle.vsw_config.specs.declared.file.PolicyFile.{PolicyFile}
use Rattle.vsw_rule.specs.declared.field.Field.TheVariants.{DstIp, SrcIp, Vni}
use Rattle.vsw_rule.specs.declared.rule.Action.{Action}
use Rattle.vsw_rule.specs.declared.rule.Action.TheVariants.{Allow, Edit}
use Rattle.vsw_rule.specs.declared.rule.Cond.{Cond}
use Rattle.vsw_rule.specs.declared.rule.Group.{Group}
use Rattle.vsw_rule.specs.declared.rule.Item.TheVariants.{Prefix, Range}
use Rattle.vsw_rule.specs.declared.rule.Rule.{Rule}
use Rattle.vsw_promise.specs.Jobs.{Setting}
use Rattle.vsw_promise.specs.Sample.{IsReport, captured}

abbrev pub no_set : Set
no_set = record { dst_mac = None; src_mac = None; src_ip = None; dst_ip = None; src_port = None; dst_port = None; src_ip6 = None; dst_ip6 = None }

-- the source becomes 192.0.2.7, port 40000
abbrev pub other_source : Set
other_source = record { dst_mac = None; src_mac = None; src_ip = Some 0xc0000207; dst_ip = None; src_port = Some 40000; dst_port = None; src_ip6 = None; dst_ip6 = None }

-- network 5001, from 172.16.0.1 to 172.16.0.2
abbrev pub tunnel : Outer
tunnel = record { dst_mac = 0x020000000a02; src_mac = 0x020000000a01; src_ip = 0xac100001; dst_ip = 0xac100002; vni = 5001; vni_small = ltb-true 5001 (2 ^ 24) refl }

abbrev pub rule : List Cond → Action → Rule
rule when action = record { number = 1; priority = 10; when = when; action = action; stateful = false; last = false }

abbrev pub layer : ℕ → ℕ → ℕ → List Group → LayerFile
layer controller number order groups = record { controller = controller; spec = record { layer = number; order = order; allow_out = false; allow_in = false; pairs = 100; idle = 240; linger = 10 }; groups = groups }

-- layer 10 remembers, layer 20 rewrites, and layer 30 encapsulates what goes to 10.0.0.0/16 and decapsulates network 5001
abbrev pub reply_policy : PolicyFile
reply_policy = record {
  version = 1;
  controllers = 1 ∷ 2 ∷ 3 ∷ [];
  ports = record {
    port = 1;
    mac = 0x020000000001;
    rows = 64;
    layers = layer 1 10 1 (record { number = 1; dir = Out; when = []; rules = record (rule [] Allow) { stateful = true } ∷ [] } ∷ [])
        ∷ layer 2 20 2 (record { number = 1; dir = Out; when = []; rules = record (rule (record { field = SrcIp; items = Prefix (record { value = 0x0a000005; bits = 32 }) ∷ [] } ∷ []) (Edit false other_source None)) { stateful = true } ∷ [] } ∷ [])
        ∷ layer 3 30 3 (record { number = 1; dir = Out; when = []; rules = rule (record { field = DstIp; items = Prefix (record { value = 0x0a000000; bits = 16 }) ∷ [] } ∷ []) (Edit false no_set (Some tunnel)) ∷ [] }
        ∷ record { number = 2; dir = In; when = []; rules = rule (record { field = Vni; items = Range 5001 5001 ∷ [] } ∷ []) (Edit true no_set None) ∷ [] } ∷ [])
        ∷ [];
  } ∷ [];
  seed = tt;
}

-- the answer of 10.0.0.9, in network 5001
abbrev pub reply_frame : List ℕ
reply_frame = spelled (codes "020000000a01020000000a02080045000050000040004011e279ac100002ac100001f53012b5003c0000080000000013890002000000000102000000009908004500001e0000400040116ebf0a000009c000020700359c40000a2eeb6869")

abbrev pub Replies : Type 0
Replies = IsReport (record { workers = 1; policy = reply_policy; commands = []; local = false }) (captured 0 ∷ record { moment = 1000; original = 94; bytes = reply_frame } ∷ [])
    (codes "vsw report 1\nround 0\nport 1 0 1\nw0 0 +0 pass 94 020000000a02020000000a01080045000050000040004011e279ac100001ac100002f53012b5003c0000080000000013890002000000009902000000000108004500001e0000400040116ebfc00002070a0000099c400035000a2eeb6869\nw0 1 @1 pass 44 02000000000102000000009908004500001e00004000401126c20a0000090a000005003504d2000a7e5c6869\nloose\n")
