-- Lists.
use Rattle.std.specs.Prelude.{ℕ, ◌==◌, Bool, List, [], ◌∷◌, ◌++◌, length, nat_le, Result, Ok, option_map, if◌then◌else◌}
use Rattle.std.specs.List.{list_any}
use Rattle.serde_json.specs.Data.{Data, Items, no_items, item}
use Rattle.serde_json.specs.Find.{as_array}
use Rattle.vsw_config.specs.declared.fault.Step.TheVariants.{Place}
use Rattle.vsw_config.specs.declared.fault.Kind.TheVariants.{Many, Twice}
use Rattle.vsw_config.specs.declared.fault.Fault.{Fault}
use Rattle.vsw_config.specs.Fault.{◌>>=◌, bad, under}
use Rattle.vsw_config.specs.Value.{if_there, short_of}

-- the items as a list
abbrev pub list_of : Items → List Data
list_of no_items = []
list_of (item d ds) = d ∷ list_of ds

-- the items of a list
abbrev pub items_in : Data → Result (List Data) Fault
items_in d = if_there (option_map list_of (as_array d))

-- the items of a list of so many at most
unfoldable pub items_to : ℕ → Data → Result (List Data) Fault
items_to most d = items_in d >>= (λ ds. if nat_le (length ds) most then Ok ds else bad Many)

-- the items so far, and then the rest, each of which is read against those before it
abbrev pub items_after : {A : Type 0} → (List A → Data → Result A Fault) → List A → List Data → Result (List A) Fault
items_after f done [] = Ok done
items_after f done (d ∷ ds) = under (Place (length done)) (f done d) >>= (λ x. items_after f (done ++ x ∷ []) ds)

-- a value, unless it stands there already
abbrev pub fresh : {A : Type 0} → Bool → A → Result A Fault
fresh is_taken x = if is_taken then bad Twice else Ok x

-- a number that doesn't stand there yet
abbrev pub fresh_number : List ℕ → Data → Result ℕ Fault
fresh_number done d = short_of d >>= (λ n. fresh (list_any (λ m. m == n) done) n)
