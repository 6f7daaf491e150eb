-- What a line is to do, and the names of its members.
use Rattle.std.specs.Prelude.{ℕ, List, [], ◌∷◌, ◌++◌, Result, codes}
use Rattle.serde_json.specs.Data.{Data}
use Rattle.vsw_config.specs.declared.fault.Fault.{Fault}
use Rattle.vsw_config.specs.declared.word.Word.{Word}
use Rattle.vsw_config.specs.declared.word.Word.TheVariants as word
use Rattle.vsw_config.specs.Fault.{◌>>=◌}
use Rattle.vsw_config.specs.Value.{text_of, since_two, value_for}
use Rattle.vsw_commandfile.specs.declared.verb.Verb.{Verb}
use Rattle.vsw_commandfile.specs.declared.verb.Verb.TheVariants.{AddLayer, RemoveLayer, AddGroup, RemoveGroup, PutRules, PutMany, AddRule, RemoveRule, SetDefault, Sweep}

-- what a line may do beside a policy of either version
abbrev pub verb_names : List (List ℕ × Verb)
verb_names =
    (codes "add_layer", AddLayer) ∷ (codes "remove_layer", RemoveLayer) ∷ (codes "add_group", AddGroup) ∷
    (codes "remove_group", RemoveGroup) ∷ (codes "put_rules", PutRules) ∷ (codes "add_rule", AddRule) ∷
    (codes "remove_rule", RemoveRule) ∷ (codes "set_default", SetDefault) ∷ (codes "sweep", Sweep) ∷ []

-- what a line of this name is to do, beside a policy of this version: version 2 adds one
unfoldable pub verb_for : ℕ → List ℕ → Result Verb Fault
verb_for version = value_for (verb_names ++ since_two version ((codes "put_many", PutMany) ∷ []))

-- what a line is to do
abbrev pub verb_of : ℕ → Data → Result Verb Fault
verb_of version d = text_of d >>= verb_for version

-- the names of what each verb needs to know, in the order of reading
abbrev pub further_names : Verb → List Word
further_names AddLayer = word.Layer ∷ word.Order ∷ word.DefaultOut ∷ word.DefaultIn ∷ word.Pairs ∷ word.Idle ∷ word.Linger ∷ []
further_names RemoveLayer = word.Layer ∷ []
further_names AddGroup = word.Layer ∷ word.Group ∷ word.Dir ∷ word.WhenAll ∷ []
further_names RemoveGroup = word.Layer ∷ word.Group ∷ []
further_names PutRules = word.Layer ∷ word.Group ∷ word.Rules ∷ []
further_names PutMany = word.Parts ∷ []
further_names AddRule = word.Layer ∷ word.Group ∷ word.Rule ∷ []
further_names RemoveRule = word.Layer ∷ word.Group ∷ word.Rule ∷ []
further_names SetDefault = word.Layer ∷ word.Dir ∷ word.Default ∷ []
further_names Sweep = word.Layer ∷ word.Now ∷ []

-- those of all members of a line
abbrev pub names_of : Verb → List Word
names_of verb = word.At ∷ word.When ∷ word.Controller ∷ word.Port ∷ word.Do ∷ further_names verb
