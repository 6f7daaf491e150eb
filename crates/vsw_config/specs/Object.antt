-- The members of an object.
use Rattle.std.specs.Prelude.{ℕ, List, Bool, true, false, ◌&&◌, Option, Some, None, Result, Ok, bytes_eq, if◌then◌else◌}
use Rattle.std.specs.List.{list_any}
use Rattle.serde_json.specs.Data.{Data, Members, no_members, member}
use Rattle.serde_json.specs.Find.{as_object, get}
use Rattle.vsw_config.specs.declared.word.Word.{Word}
use Rattle.vsw_config.specs.declared.fault.Step.TheVariants.{Member}
use Rattle.vsw_config.specs.declared.fault.Fault.{Fault}
use Rattle.vsw_config.specs.Path.{word_text}
use Rattle.vsw_config.specs.Fault.{◌>>=◌, shape, under}

-- the name is one of these
abbrev pub is_among : List Word → List ℕ → Bool
is_among words name = list_any (λ w. bytes_eq (word_text w) name) words

-- all names are among these
abbrev pub are_among : List Word → Members → Bool
are_among words no_members = true
are_among words (member name d ms) = is_among words name && are_among words ms

-- it is an object, all of whose names are among these
abbrev pub has_names_among : List Word → Data → Bool
has_names_among words d = elim (as_object d) [ None ↦ false | Some ms ↦ are_among words ms ]

-- the value itself, which is an object all names of which are among these
unfoldable pub object_among : List Word → Data → Result Data Fault
object_among words d = if has_names_among words d then Ok d else shape

-- the value of a member; where it isn't there, the object is of the wrong form
abbrev pub found : Word → Data → Result Data Fault
found w d = elim (get (word_text w) d) [ None ↦ shape | Some e ↦ Ok e ]

-- a member, read
unfoldable pub read_in : {A : Type 0} → Word → Data → (Data → Result A Fault) → Result A Fault
read_in w d f = found w d >>= (λ e. under (Member w) (f e))

-- a member, read where it is there
unfoldable pub read_if : {A : Type 0} → Word → Data → (Data → Result A Fault) → Result (Option A) Fault
read_if w d f = elim (get (word_text w) d) [ None ↦ Ok None | Some e ↦ under (Member w) (f e) >>= (λ x. Ok (Some x)) ]
