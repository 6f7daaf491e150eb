-- The value that bytes are the text of.
use Rattle.std.proofs.Common.{◌≡◌, ℕ, List, [], Bool, true, false, Option, Some, None, Ok, Err, refl, IsTrue}
use Rattle.std.specs.Prelude.{IsUtf8}
use Rattle.std.specs.Str.{is_utf8}
use Rattle.std.proofs.lemmas.Str.{IsUtf8-from_is_utf8, is_utf8-from_IsUtf8}
use Rattle.serde_json.specs.Data.{Data}
use Rattle.serde_json.specs.Read.{read}
use Rattle.vsw_config.specs.declared.fault.Kind.TheVariants.{Json}
use Rattle.vsw_config.specs.declared.fault.Fault.TheVariants.{Bad}
use Rattle.vsw_config.specs.Bytes.{if_text, json_of}

text_is : (b : Bool) (o : Option Data) (d : Data) → b ≡ true → o ≡ Some d → if_text b o ≡ Ok d
text_is true o d t value = rw value refl
text_is false o d t value = cc

no_text : (b : Bool) (o : Option Data) → (b ≡ true → o ≡ None) → if_text b o ≡ Err (Bad Json [])
no_text true o none = rw (none refl) refl
no_text false o none = refl

pub json_is : (bytes : List ℕ) (d : Data) → IsUtf8 bytes → read bytes ≡ Some d → json_of bytes ≡ Ok d
unfolding json_of
json_is bytes d text value = text_is (is_utf8 bytes) (read bytes) d (is_utf8-from_IsUtf8 bytes text) value

pub no_json : (bytes : List ℕ) → (IsUtf8 bytes → read bytes ≡ None) → json_of bytes ≡ Err (Bad Json [])
unfolding json_of
no_json bytes none = no_text (is_utf8 bytes) (read bytes) (λ t. none (IsUtf8-from_is_utf8 bytes t))

-- a test that failed doesn't hold
pub refuted : (b : Bool) → b ≡ false → IsTrue b → ⊥
refuted true e t = cc
refuted false e t = cc
