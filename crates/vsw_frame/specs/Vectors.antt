-- Frames that were rewritten by hand and decoded by tcpdump, what the definition must give, and what is read of it. Each
-- is written as hexadecimal text.
use Rattle.std.specs.Prelude.{◌≡◌, ℕ, List, [], ◌∷◌, ◌++◌, Result, Ok, Err, false, codes}
use Rattle.vsw_base.specs.declared.fault.BadFrame.{BadFrame}
use Rattle.vsw_base.specs.declared.header.Header.{Header}
use Rattle.vsw_base.specs.declared.header.Header.TheVariants.{Ether, Ip, Vxlan, Ports, Six}
use Rattle.vsw_base.specs.Frame.{Parts, frame_of}
use Rattle.vsw_base.specs.Hexadecimal.{spelled}
use Rattle.vsw_base.specs.Vectors.{plain_frame, encap_frame, six_frame}
use Rattle.vsw_frame.specs.Bytes.{outgoing}

-- what is written for a frame; nothing where it isn't one
abbrev pub rewritten : Result Parts BadFrame → List Header → ℕ → List ℕ
rewritten (Ok p) edited kept = outgoing p edited kept
rewritten (Err e) edited kept = []

-- the query of 10.0.0.5 as 192.0.2.7 asks it from port 40000, in network 5001 from 172.16.0.1 to 172.16.0.2
abbrev pub translated_out : List Header
translated_out = Ether 0x020000000a02 0x020000000a01 0x0800 ∷ Ip 0xac100001 0xac100002 17 false ∷ Vxlan 5001
    ∷ Ether 0x020000000099 0x020000000001 0x0800 ∷ Ip 0xc0000207 0x0a000009 17 false ∷ Ports 17 40000 53 ∷ []

abbrev pub WritesEncapsulated : Type 0
WritesEncapsulated = rewritten (frame_of plain_frame) translated_out 0 ≡ encap_frame

-- its answer as it comes in
abbrev pub encap_answer : List ℕ
encap_answer = spelled (codes "020000000a01020000000a02080045000050000040004011e279ac100002ac100001f53012b5003c00000800000000138900") ++ spelled (codes "02000000000102000000009908004500001e0000400040116ebf0a000009c000020700359c40000a2eeb6869")

-- and as it reaches 10.0.0.5
abbrev pub answer_frame : List ℕ
answer_frame = spelled (codes "02000000000102000000009908004500001e00004000401126c20a0000090a000005003504d2000a7e5c6869")

abbrev pub translated_in : List Header
translated_in = Ether 0x020000000001 0x020000000099 0x0800 ∷ Ip 0x0a000009 0x0a000005 17 false ∷ Ports 17 53 1234 ∷ []

abbrev pub WritesAnswer : Type 0
WritesAnswer = rewritten (frame_of encap_answer) translated_in 0 ≡ answer_frame

-- the headers of a query of fd00::9 over IPv6, from this address and port
abbrev pub six_query : ℕ → ℕ → List Header
six_query src port = Ether 0x020000000099 0x020000000001 0x86dd ∷ Six src 0xfd000000000000000000000000000009 17 ∷ Ports 17 port 53 ∷ []

-- the query of fd00::5 from port 40000
abbrev pub WritesSixPort : Type 0
WritesSixPort = rewritten (frame_of six_frame) (six_query 0xfd000000000000000000000000000005 40000) 0 ≡ spelled (codes "02000000009902000000000186dd60000000000a1140fd000000000000000000000000000005fd0000000000000000000000000000099c400035000a00ec6869")

-- its answer as it comes in, and as it reaches port 1234
abbrev pub six_answer : List ℕ
six_answer = spelled (codes "02000000000102000000009986dd60000000000a1140fd000000000000000000000000000009fd00000000000000000000000000000500359c40000a00ec6869")

abbrev pub WritesSixAnswer : Type 0
WritesSixAnswer = rewritten (frame_of six_answer) (Ether 0x020000000001 0x020000000099 0x86dd ∷ Six 0xfd000000000000000000000000000009 0xfd000000000000000000000000000005 17 ∷ Ports 17 53 1234 ∷ []) 0 ≡ spelled (codes "02000000000102000000009986dd60000000000a1140fd000000000000000000000000000009fd000000000000000000000000000005003504d2000a985a6869")

-- the query from fd00::77
abbrev pub WritesSixSource : Type 0
WritesSixSource = rewritten (frame_of six_frame) (six_query 0xfd000000000000000000000000000077 1234) 0 ≡ spelled (codes "02000000009902000000000186dd60000000000a1140fd000000000000000000000000000077fd00000000000000000000000000000904d20035000a97e86869")

-- the headers that are read; none of a fault
abbrev pub stack_read : Result Parts BadFrame → List Header
stack_read (Ok p) = p.stack
stack_read (Err e) = []

-- UDP to port 53, whose payload is a VXLAN header with its I flag, and an Ethernet header
abbrev pub vxlan_payload : List ℕ
vxlan_payload = spelled (codes "02000000009902000000000108004500003200004000401126ae0a0000050a00000904d20035001e00000800000000138900020000000a01020000000a0288b5")

abbrev pub plain_stack : ℕ → List Header
plain_stack port = Ether 0x020000000099 0x020000000001 0x0800 ∷ Ip 0x0a000005 0x0a000009 17 false ∷ Ports 17 1234 port ∷ []

-- such a payload is carried unread to another port than VXLAN's
abbrev pub ReadsPlain : Type 0
ReadsPlain = stack_read (frame_of (rewritten (frame_of vxlan_payload) (plain_stack 54) 0)) ≡ plain_stack 54

-- and to that port it is taken for an encapsulation
abbrev pub ReadsInside : Type 0
ReadsInside = stack_read (frame_of (rewritten (frame_of vxlan_payload) (plain_stack 4789) 0)) ≡ Ether 0x020000000099 0x020000000001 0x0800 ∷ Ip 0x0a000005 0x0a000009 17 false ∷ Vxlan 5001 ∷ Ether 0x020000000a01 0x020000000a02 0x88b5 ∷ []

-- the same payload over IPv6 is carried unread to that port too
abbrev pub vxlan_payload6 : List ℕ
vxlan_payload6 = spelled (codes "02000000009902000000000186dd60000000001e1140fd000000000000000000000000000005fd00000000000000000000000000000904d212b5001e00000800000000138900020000000a01020000000a0288b5")

abbrev pub ReadsPlainSix : Type 0
ReadsPlainSix = stack_read (frame_of vxlan_payload6) ≡ Ether 0x020000000099 0x020000000001 0x86dd ∷ Six 0xfd000000000000000000000000000005 0xfd000000000000000000000000000009 17 ∷ Ports 17 1234 4789 ∷ []
