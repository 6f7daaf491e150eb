-- Conditions and their items.
use Rattle.std.specs.Prelude.{ℕ, List, [], ◌∷◌, Result, Ok, Err}
use Rattle.serde_json.specs.Data.{Data}
use Rattle.vsw_base.specs.declared.address.Prefix.{Prefix}
use Rattle.vsw_base.specs.declared.address.Prefix6.{Prefix6}
use Rattle.vsw_base.specs.Spelling.{prefix_of}
use Rattle.vsw_base.specs.Spelling6.{prefix6_of}
use Rattle.vsw_rule.specs.declared.rule.Item.{Item}
use Rattle.vsw_rule.specs.declared.rule.Item.TheVariants as item
use Rattle.vsw_rule.specs.declared.rule.Cond.{Cond}
use Rattle.vsw_config.specs.declared.fault.Fault.{Fault}
use Rattle.vsw_config.specs.declared.fault.Step.TheVariants.{Place}
use Rattle.vsw_config.specs.declared.word.Word.TheVariants as word
use Rattle.vsw_config.specs.Fault.{◌>>=◌, shape, under}
use Rattle.vsw_config.specs.Object.{object_among, read_in}
use Rattle.vsw_config.specs.Value.{if_there, whole_of, text_of, mac_in, ip4_in}
use Rattle.vsw_config.specs.List.{items_in, items_to, items_after}
use Rattle.vsw_config.specs.declared.field.Form.{Form}
use Rattle.vsw_config.specs.declared.field.Form.TheVariants as form
use Rattle.vsw_config.specs.Field.{form_of, field_of}

-- a value, as a number
unfoldable pub value_of : Form → Data → Result ℕ Fault
value_of form.Number d = whole_of d
value_of form.Mac d = mac_in d
value_of form.Ip4 d = ip4_in d
value_of form.Ip6 d = shape

-- a prefix of IPv4 addresses
abbrev pub prefix_in : Data → Result Prefix Fault
prefix_in d = text_of d >>= (λ t. if_there (prefix_of t))

-- a prefix of IPv6 addresses
abbrev pub prefix6_in : Data → Result Prefix6 Fault
prefix6_in d = text_of d >>= (λ t. if_there (prefix6_of t))

-- the range of one value
abbrev pub single_of : Form → Data → Result Item Fault
single_of f d = value_of f d >>= (λ n. Ok (item.Range n n))

-- a value alone is the range of this value; for an IPv4 or IPv6 address it is a prefix
unfoldable pub alone_of : Form → Data → Result Item Fault
alone_of form.Ip4 d = prefix_in d >>= (λ p. Ok (item.Prefix p))
alone_of form.Ip6 d = prefix6_in d >>= (λ p. Ok (item.Prefix6 p))
alone_of form.Number d = single_of form.Number d
alone_of form.Mac d = single_of form.Mac d

-- two values are a range, from the first to the second
unfoldable pub range_of : Form → List Data → Result Item Fault
range_of f [] = shape
range_of f (low ∷ []) = shape
range_of f (low ∷ high ∷ []) = do
  l ← under (Place 0) (value_of f low)
  h ← under (Place 1) (value_of f high)
  Ok (item.Range l h)
range_of f (low ∷ high ∷ more ∷ ds) = shape

-- one value, or a list of two
abbrev pub one_or_two : Form → Data → Result Item Fault
one_or_two f d = elim (items_in d) [ Err e ↦ alone_of f d | Ok ds ↦ range_of f ds ]

-- for an IPv6 address a prefix alone, and never a list
unfoldable pub item_of : Form → Data → Result Item Fault
item_of form.Ip6 d = alone_of form.Ip6 d
item_of form.Ip4 d = one_or_two form.Ip4 d
item_of form.Number d = one_or_two form.Number d
item_of form.Mac d = one_or_two form.Mac d

-- at most 64 items
unfoldable pub items_of : Form → Data → Result (List Item) Fault
items_of f d = items_to 64 d >>= items_after (λ done. item_of f) []

-- a field, and the items of which its value has to be in one
unfoldable pub cond_of : ℕ → Data → Result Cond Fault
cond_of version d = do
  o ← object_among (word.Field ∷ word.Any ∷ []) d
  field ← read_in word.Field o (field_of version)
  items ← read_in word.Any o (items_of (form_of field))
  Ok (record { field = field; items = items })

-- at most 16 conditions, which may stand there twice
unfoldable pub conds_of : ℕ → Data → Result (List Cond) Fault
conds_of version d = items_to 16 d >>= items_after (λ done. cond_of version) []
