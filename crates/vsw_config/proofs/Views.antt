-- Names and items as they are seen through a value.
use Rattle.std.proofs.Common.{◌≡◌, List, [], ◌∷◌, ◌&&◌, refl, ap, map}
use Rattle.std.specs.Prelude.{String, string_bytes}
use Rattle.std.specs.List.{list_all}
use Rattle.std.specs.declared.alloc.Global.{Global}
use Rattle.serde_json.specs.View.{members_view, items_of}
use Rattle.serde_json.specs.Data.{Data}
use Rattle.serde_json.specs.declared.value.Value.{Value}
use Rattle.vsw_config.specs.Object.{is_among, are_among}
use Rattle.vsw_config.specs.List.{list_of}
use Rattle.vsw_config.specs.declared.word.Word.{Word}

pub all_keys_among : (words : List Word) → (es : List (String Global × Value)) → list_all (λ k. is_among words (string_bytes k)) (map (λ e. e.0) es) ≡ are_among words (members_view es)
all_keys_among words [] = refl
all_keys_among words (e ∷ es) = ap (λ b. is_among words (string_bytes e.0) && b) (all_keys_among words es)

-- the list of the items that were made from a list
pub listed_again : (ds : List Data) → list_of (items_of ds) ≡ ds
listed_again [] = refl
listed_again (d ∷ ds) = ap (λ es. d ∷ es) (listed_again ds)
