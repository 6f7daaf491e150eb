-- The policy's text, read.
use Rattle.std.proofs.Common.{◌≡◌, ◌<◌, ◌&&◌, ℕ, zero, suc, Bool, true, false, nat_lt, List, [], ◌∷◌, slice_index, Result, Ok, Err, refl, ap, ◌∙◌, arith}
use Rattle.std.proofs.lemmas.Grind.{common_steps}
use Rattle.std.proofs.lemmas.Str.{IsUtf8-from_ascii, is_utf8-from_IsUtf8}
use Rattle.std.specs.Float.Numeral.{scan_numeral}
use Rattle.std.specs.Str.{is_utf8}
use lib.Utf8.{encode}
use Rattle.json.specs.Json.{value}
use Rattle.json.specs.Lex.{lex, punctuate}
use Rattle.json.specs.Text.{content}
use Rattle.json.specs.Word.{after_number, word}
use Rattle.serde_json.specs.Read.{number_of, read}
use Rattle.vsw_base.specs.Spelling.{octets_of, small_of, cut_at, ip4_of, prefix_of}
use Rattle.vsw_generate.specs.Policy.{policy_text}
use Rattle.vsw_config.specs.Bytes.{if_text, json_of}
use Rattle.vsw_config.specs.Fault.{◌>>=◌}
use Rattle.vsw_config.specs.List.{items_to}
use Rattle.vsw_config.specs.Object.{object_among, read_in, read_if}
use Rattle.vsw_config.specs.Path.{word_text}
use Rattle.vsw_config.specs.Value.{number_from}
use Rattle.vsw_config.specs.Layer.{listed_number, room_for, fresh_layer, spec_in, layer_of, layers_of}
use Rattle.vsw_config.specs.Policy.{of_part, policy_file_of, few_in, controllers_in, ports_in, policy_of}
use Rattle.vsw_config.specs.Port.{fresh_port, fresh_mac, port_of}
use Rattle.vsw_config.specs.Action.{set_of, small, headers_of, outer_of, encap_of, edit_of, action_of}
use Rattle.vsw_config.specs.Condition.{value_of, alone_of, range_of, item_of, items_of, cond_of, conds_of}
use Rattle.vsw_config.specs.Field.{field_for}
use Rattle.vsw_config.specs.Rule.{fresh_rule, judged, rule_of, rules_of, fresh_group, group_of, groups_of}
use Rattle.vsw_config_tests.specs.Good.{IsRead}

abbrev good : {A E : Type 0} → Result A E → Bool
good (Ok x) = true
good (Err e) = false

has : {A E : Type 0} (r : Result A E) → good r ≡ true → (x : A) × (r ≡ Ok x)
has (Ok x) e = (x, refl)
has (Err f) e = absurd (cc e)

-- each byte is a letter of ASCII
abbrev all_low : List ℕ → Bool
all_low [] = true
all_low (b ∷ bytes) = nat_lt b 128 && all_low bytes

lower : (b : ℕ) → nat_lt b 128 ≡ true → b < 128
lower b e = grind (arith, common_steps)

both : (a b : Bool) → (a && b) ≡ true → (a ≡ true) × (b ≡ true)
both true b e = (refl, e)
both false b e = absurd (cc e)

all_ascii : (bytes : List ℕ) → all_low bytes ≡ true → (i : ℕ) → slice_index bytes i < 128
all_ascii [] e i = omega arith
all_ascii (b ∷ bytes) e zero = lower b (both (nat_lt b 128) (all_low bytes) e).0
all_ascii (b ∷ bytes) e (suc i) = all_ascii bytes (both (nat_lt b 128) (all_low bytes) e).1 i

-- so it is text

is_text : is_utf8 policy_text ≡ true
unfolding policy_text
is_text = is_utf8-from_IsUtf8 policy_text (IsUtf8-from_ascii policy_text (all_ascii policy_text refl))

-- it is read as a value
is_value : json_of policy_text ≡ if_text true (read policy_text)
unfolding json_of
is_value = ap (λ b. if_text b (read policy_text)) is_text

is_good : good (of_part (if_text true (read policy_text)) >>= policy_of) ≡ true
unfolding encode value punctuate lex content word after_number scan_numeral policy_text number_of items_to object_among read_in read_if word_text number_from listed_number room_for fresh_layer spec_in layer_of layers_of few_in controllers_in ports_in policy_of fresh_port fresh_mac port_of set_of small headers_of outer_of encap_of edit_of action_of value_of alone_of range_of item_of items_of cond_of conds_of field_for fresh_rule judged rule_of rules_of fresh_group group_of groups_of octets_of small_of cut_at ip4_of prefix_of
is_good = refl

is_short : good (policy_file_of policy_text) ≡ good (of_part (json_of policy_text) >>= policy_of)
unfolding policy_text
is_short = refl

pub is_read : IsRead
is_read = has (policy_file_of policy_text) (is_short ∙ (ap (λ r. good (of_part r >>= policy_of)) is_value ∙ is_good))
