-- What a file of version 1 may say.
use Rattle.std.specs.Prelude.{◌≡◌, ℕ, List, None, Ok}
use Rattle.serde_json.specs.Data.{Data}
use Rattle.vsw_base.specs.declared.flow.Set.{Set}
use Rattle.vsw_config.specs.Value.{value_for}
use Rattle.vsw_config.specs.Field.{field_names, field_for}
use Rattle.vsw_config.specs.Action.{set_names, set_words, set_of}

-- version 1 has no name of version 2: neither of a field nor in what an edit may write, so that its edits write no IPv6 address
pub record FirstIsOld : Type 0 where
  pub fields : (name : List ℕ) → field_for 1 name ≡ value_for field_names name
  pub names : set_words 1 ≡ set_names
  pub edits : (d : Data) (s : Set) → set_of 1 d ≡ Ok s → (s.src_ip6 ≡ None) × (s.dst_ip6 ≡ None)
