-- Numbers, truth values and texts.
use Rattle.std.specs.Prelude.{ℕ, ◌==◌, ◌&&◌, List, [], ◌∷◌, Bool, nat_le, Option, Some, None, option_and_then, Result, Ok, bytes_eq, if◌then◌else◌}
use Rattle.serde_json.specs.Data.{Data}
use Rattle.serde_json.specs.Find.{as_number, as_u64, as_str, as_bool}
use Rattle.vsw_base.specs.Spelling.{mac_of, ip4_of}
use Rattle.vsw_base.specs.Spelling6.{ip6_of}
use Rattle.vsw_config.specs.declared.fault.Fault.{Fault}
use Rattle.vsw_config.specs.Fault.{◌>>=◌, shape}

-- what there is; otherwise the value is of the wrong form
abbrev pub if_there : {A : Type 0} → Option A → Result A Fault
if_there None = shape
if_there (Some x) = Ok x

-- a whole number below 2^64, without sign, fraction or exponent
abbrev pub whole_of : Data → Result ℕ Fault
whole_of d = if_there (option_and_then as_u64 (as_number d))

-- one from `low` to `high`
unfoldable pub number_from : ℕ → ℕ → Data → Result ℕ Fault
number_from low high d = whole_of d >>= (λ n. if nat_le low n && nat_le n high then Ok n else shape)

-- a number that an author may choose as a name or a place
abbrev pub short_of : Data → Result ℕ Fault
short_of d = number_from 0 65535 d

-- a truth value
abbrev pub truth_of : Data → Result Bool Fault
truth_of d = if_there (as_bool d)

-- a text, as its bytes
abbrev pub text_of : Data → Result (List ℕ) Fault
text_of d = if_there (as_str d)

-- the text of an Ethernet address
abbrev pub mac_in : Data → Result ℕ Fault
mac_in d = text_of d >>= (λ t. if_there (mac_of t))

-- the text of an IPv4 address
abbrev pub ip4_in : Data → Result ℕ Fault
ip4_in d = text_of d >>= (λ t. if_there (ip4_of t))

-- the text of an IPv6 address
abbrev pub ip6_in : Data → Result ℕ Fault
ip6_in d = text_of d >>= (λ t. if_there (ip6_of t))

-- what version 2 of the file adds to a table; version 1 has nothing of it
abbrev pub since_two : {A : Type 0} → ℕ → List A → List A
since_two version rows = if version == 2 then rows else []

-- what stands beside this text in a table
abbrev pub value_for : {A : Type 0} → List (List ℕ × A) → List ℕ → Result A Fault
value_for [] text = shape
value_for (row ∷ rows) text = if bytes_eq text row.0 then Ok row.1 else value_for rows text
