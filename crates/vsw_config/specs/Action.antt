-- What a rule does.
use Rattle.std.specs.Prelude.{◌≡◌, ℕ, ◌<◌, ◌^◌, nat_lt, List, [], ◌∷◌, ◌++◌, Bool, true, false, Option, Some, None, is_some, Result, Ok, codes, refl, if◌then◌else◌}
use Rattle.std.proofs.lemmas.Bool.{ltb-true}
use Rattle.serde_json.specs.Data.{Data}
use Rattle.serde_json.specs.Find.{as_null, as_str}
use Rattle.vsw_base.specs.declared.flow.Set.{Set}
use Rattle.vsw_base.specs.declared.flow.Outer.{Outer}
use Rattle.vsw_rule.specs.declared.rule.Action.{Action}
use Rattle.vsw_rule.specs.declared.rule.Action.TheVariants as action
use Rattle.vsw_config.specs.declared.fault.Fault.{Fault}
use Rattle.vsw_config.specs.declared.word.Word.{Word}
use Rattle.vsw_config.specs.declared.word.Word.TheVariants as word
use Rattle.vsw_config.specs.Fault.{◌>>=◌, shape}
use Rattle.vsw_config.specs.Object.{object_among, read_in, read_if}
use Rattle.vsw_config.specs.Value.{short_of, number_from, truth_of, mac_in, ip4_in, ip6_in, since_two, value_for}

-- the names of what an edit may write that both versions of the file have
abbrev pub set_names : List Word
set_names = word.DstMac ∷ word.SrcMac ∷ word.SrcIp ∷ word.DstIp ∷ word.SrcPort ∷ word.DstPort ∷ []

-- all of them, in a file of this version: version 2 adds two
abbrev pub set_words : ℕ → List Word
set_words version = set_names ++ since_two version (word.SrcIp6 ∷ word.DstIp6 ∷ [])

-- the fields to write; none is required. In version 1 no IPv6 address can be there, as an unknown name was refused before
unfoldable pub set_of : ℕ → Data → Result Set Fault
set_of version d = do
  o ← object_among (set_words version) d
  dst_mac ← read_if word.DstMac o mac_in
  src_mac ← read_if word.SrcMac o mac_in
  src_ip ← read_if word.SrcIp o ip4_in
  dst_ip ← read_if word.DstIp o ip4_in
  src_port ← read_if word.SrcPort o short_of
  dst_port ← read_if word.DstPort o short_of
  src_ip6 ← read_if word.SrcIp6 o ip6_in
  dst_ip6 ← read_if word.DstIp6 o ip6_in
  Ok (record { dst_mac = dst_mac; src_mac = src_mac; src_ip = src_ip; dst_ip = dst_ip; src_port = src_port; dst_port = dst_port; src_ip6 = src_ip6; dst_ip6 = dst_ip6 })

-- a network of VXLAN, of 24 bits
abbrev pub vni_of : Data → Result ℕ Fault
vni_of d = number_from 0 16777215 d

-- what is made of a VNI and its bound
abbrev pub if_small : {A : Type 0} → (vni : ℕ) → (vni < 2 ^ 24 → A) → (b : Bool) → nat_lt vni (2 ^ 24) ≡ b → Result A Fault
if_small vni make true h = Ok (make (ltb-true vni (2 ^ 24) h))
if_small vni make false h = shape

-- what is made of a VNI that has at most 24 bits
unfoldable pub small : {A : Type 0} → (vni : ℕ) → (vni < 2 ^ 24 → A) → Result A Fault
small vni make = if_small vni make (nat_lt vni (2 ^ 24)) refl

-- the headers of these values
unfoldable pub headers_of : ℕ → ℕ → ℕ → ℕ → ℕ → Result Outer Fault
headers_of dst_mac src_mac src_ip dst_ip vni = small vni (λ bound. record { dst_mac = dst_mac; src_mac = src_mac; src_ip = src_ip; dst_ip = dst_ip; vni = vni; vni_small = bound })

-- the members of an encapsulation, all of which stand
abbrev pub encap_words : List Word
encap_words = word.DstMac ∷ word.SrcMac ∷ word.SrcIp ∷ word.DstIp ∷ word.Vni ∷ []

-- the headers of an encapsulation
unfoldable pub outer_of : Data → Result Outer Fault
outer_of d = do
  o ← object_among encap_words d
  dst_mac ← read_in word.DstMac o mac_in
  src_mac ← read_in word.SrcMac o mac_in
  src_ip ← read_in word.SrcIp o ip4_in
  dst_ip ← read_in word.DstIp o ip4_in
  vni ← read_in word.Vni o vni_of
  headers_of dst_mac src_mac src_ip dst_ip vni

-- an encapsulation, or null
unfoldable pub encap_of : Data → Result (Option Outer) Fault
encap_of d = if is_some (as_null d) then Ok None else outer_of d >>= (λ o. Ok (Some o))

-- an edit: whether the outermost encapsulation goes, what is written, and which one comes
unfoldable pub edit_of : ℕ → Data → Result Action Fault
edit_of version d = do
  o ← object_among (word.Decap ∷ word.Set ∷ word.Encap ∷ []) d
  decap ← read_in word.Decap o truth_of
  set ← read_in word.Set o (set_of version)
  encap ← read_in word.Encap o encap_of
  Ok (action.Edit decap set encap)

-- an action that is a text
abbrev pub action_for : List ℕ → Result Action Fault
action_for = value_for ((codes "allow", action.Allow) ∷ (codes "drop", action.Drop) ∷ [])

-- one of two texts, or an edit
unfoldable pub action_of : ℕ → Data → Result Action Fault
action_of version d = elim (as_str d) [ None ↦ edit_of version d | Some text ↦ action_for text ]
