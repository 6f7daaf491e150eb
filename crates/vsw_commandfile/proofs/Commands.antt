-- Commands that are read.
use Rattle.std.proofs.Common.{◌≡◌, ◌≢◌, ℕ, List, [], ◌∷◌, ◌++◌, None, Ok, subst, arith}
use Rattle.std.specs.Prelude.{flat_map}
use Rattle.std.proofs.lemmas.List.Elements.{All-nil}
use Rattle.serde_json.specs.Data.{Data}
use Rattle.vsw_rule.specs.Check.{bad_rule_of}
use Rattle.vsw_rule.specs.declared.rule.Rule.{Rule}
use Rattle.vsw_policy.specs.declared.command.Command.{Command}
use Rattle.vsw_policy.specs.declared.command.Part.{Part}
use Rattle.vsw_policy.specs.Obey.{rules_given}
use Rattle.vsw_policy.specs.Sound.{Each, IsGoodRule}
use Rattle.vsw_config.specs.declared.word.Word.TheVariants as word
use Rattle.vsw_config.specs.Object.{object_among, read_in}
use Rattle.vsw_config.specs.Value.{short_of, whole_of}
use Rattle.vsw_config.specs.List.{items_in}
use Rattle.vsw_config.specs.Condition.{conds_of}
use Rattle.vsw_config.specs.Rule.{rule_of, dir_of}
use Rattle.vsw_config.specs.Layer.{allows_of, spec_in}
use Rattle.vsw_config.specs.Good.{AreGoodConds}
use Rattle.vsw_commandfile.specs.declared.verb.Verb.{Verb}
use Rattle.vsw_commandfile.specs.declared.verb.Verb.TheVariants as verb
use Rattle.vsw_commandfile.specs.Command.{rules_of, add_layer, remove_layer, add_group, remove_group, put_rules, part_words, part_of, parts_of, put_many, add_rule, remove_rule, set_default, sweep, command_of}
use Rattle.vsw_config.proofs.Steps.{taken, same_value, read}
use Rattle.vsw_config.proofs.ListsRead.{kept, no_pairs}
use Rattle.vsw_config.proofs.Rules.{conds_good, rule_kept}
use Rattle.vsw_config.proofs.Layers.{spec_good}
use Rattle.vsw_commandfile.specs.Good.{IsWithin}

-- nothing is wrong with the rules that the command gives, and all is within its bounds
abbrev MayBe : Command → Type 0
MayBe c = Each IsGoodRule (rules_given c) × IsWithin c

-- nothing is wrong with a rule, and its conditions are within their bounds
abbrev IsRead : Rule → Type 0
IsRead r = IsGoodRule r × AreGoodConds r.when

rule_good : (version : ℕ) (d : Data) (r : Rule) → rule_of version [] d ≡ Ok r → IsRead r
rule_good version d r h =
    let kept = rule_kept version [] d r (no_pairs (λ (r s : Rule). r.number ≢ s.number), All-nil (λ r. bad_rule_of r ≡ None), All-nil (λ (r : Rule). AreGoodConds r.when)) h in
    (kept.1 0 r (omega arith), kept.2 0 r (omega arith))

each-push : {A : Type 0} (P : A → Type 0) (xs : List A) (x : A) → Each P xs → P x → Each P (xs ++ x ∷ [])
each-push P [] x h p = (p, tt)
each-push P (y ∷ ys) x h p = (h.0, each-push P ys x h.1 p)

rules_good : (version : ℕ) (d : Data) (rs : List Rule) → rules_of version d ≡ Ok rs → Each IsRead rs
unfolding rules_of
rules_good version d rs h =
    taken (items_in d) _ rs h (λ ds e h.
    kept (Each IsRead) (λ done. rule_of version []) (λ done d r q h. each-push IsRead done r q (rule_good version d r h)) [] ds rs tt h)

each-first : (rs : List Rule) → Each IsRead rs → Each IsGoodRule rs
each-first [] h = tt
each-first (r ∷ rs) h = (h.0.0, each-first rs h.1)

each-second : (rs : List Rule) → Each IsRead rs → Each (λ r. AreGoodConds r.when) rs
each-second [] h = tt
each-second (r ∷ rs) h = (h.0.1, each-second rs h.1)

-- ---- by what is to be done

add_layer_good : (o : Data) (c : Command) → add_layer o ≡ Ok c → MayBe c
unfolding add_layer
add_layer_good o c h =
    taken (read_in word.Layer o short_of) _ c h (λ layer e h.
    taken (spec_in layer o) _ c h (λ spec part h.
    subst MayBe (same_value _ c h) (tt, spec_good layer o spec part)))

remove_layer_good : (o : Data) (c : Command) → remove_layer o ≡ Ok c → MayBe c
unfolding remove_layer
remove_layer_good o c h =
    taken (read_in word.Layer o short_of) _ c h (λ layer e h.
    subst MayBe (same_value _ c h) (tt, tt))

add_group_good : (version : ℕ) (o : Data) (c : Command) → add_group version o ≡ Ok c → MayBe c
unfolding add_group
add_group_good version o c h =
    taken (read_in word.Layer o short_of) _ c h (λ layer e h.
    taken (read_in word.Group o short_of) _ c h (λ group e h.
    taken (read_in word.Dir o dir_of) _ c h (λ dir e h.
    taken (read_in word.WhenAll o (conds_of version)) _ c h (λ when some h.
    read word.WhenAll o (conds_of version) when some (λ list those.
    subst MayBe (same_value _ c h) (tt, conds_good version list when those))))))

remove_group_good : (o : Data) (c : Command) → remove_group o ≡ Ok c → MayBe c
unfolding remove_group
remove_group_good o c h =
    taken (read_in word.Layer o short_of) _ c h (λ layer e h.
    taken (read_in word.Group o short_of) _ c h (λ group e h.
    subst MayBe (same_value _ c h) (tt, tt)))

put_rules_good : (version : ℕ) (o : Data) (c : Command) → put_rules version o ≡ Ok c → MayBe c
unfolding put_rules
put_rules_good version o c h =
    taken (read_in word.Layer o short_of) _ c h (λ layer e h.
    taken (read_in word.Group o short_of) _ c h (λ group e h.
    taken (read_in word.Rules o (rules_of version)) _ c h (λ rules there h.
    read word.Rules o (rules_of version) rules there (λ list value.
    let all = rules_good version list rules value in
    subst MayBe (same_value _ c h) (each-first rules all, each-second rules all)))))

-- the rules of one of several groups
abbrev AreRead : Part → Type 0
AreRead p = Each IsRead p.rules

part_good : (version : ℕ) (d : Data) (p : Part) → part_of version d ≡ Ok p → AreRead p
unfolding part_of
part_good version d p h =
    taken (object_among part_words d) _ p h (λ o e h.
    taken (read_in word.Layer o short_of) _ p h (λ layer e h.
    taken (read_in word.Group o short_of) _ p h (λ group e h.
    taken (read_in word.Rules o (rules_of version)) _ p h (λ rules there h.
    read word.Rules o (rules_of version) rules there (λ list value.
    subst AreRead (same_value _ p h) (rules_good version list rules value))))))

parts_good : (version : ℕ) (d : Data) (ps : List Part) → parts_of version d ≡ Ok ps → Each AreRead ps
unfolding parts_of
parts_good version d ps h =
    taken (items_in d) _ ps h (λ ds e h.
    kept (Each AreRead) (λ done. part_of version) (λ done d p q h. each-push AreRead done p q (part_good version d p h)) [] ds ps tt h)

each-append : {A : Type 0} (P : A → Type 0) (xs ys : List A) → Each P xs → Each P ys → Each P (xs ++ ys)
each-append P [] ys h k = k
each-append P (x ∷ xs) ys h k = (h.0, each-append P xs ys h.1 k)

all-first : (ps : List Part) → Each AreRead ps → Each IsGoodRule (flat_map (λ p. p.rules) ps)
all-first [] h = tt
all-first (p ∷ ps) h = each-append IsGoodRule p.rules (flat_map (λ p. p.rules) ps) (each-first p.rules h.0) (all-first ps h.1)

all-second : (ps : List Part) → Each AreRead ps → Each (λ p. Each (λ r. AreGoodConds r.when) p.rules) ps
all-second [] h = tt
all-second (p ∷ ps) h = (each-second p.rules h.0, all-second ps h.1)

put_many_good : (version : ℕ) (o : Data) (c : Command) → put_many version o ≡ Ok c → MayBe c
unfolding put_many
put_many_good version o c h =
    taken (read_in word.Parts o (parts_of version)) _ c h (λ parts there h.
    read word.Parts o (parts_of version) parts there (λ list value.
    let all = parts_good version list parts value in
    subst MayBe (same_value _ c h) (all-first parts all, all-second parts all)))

add_rule_good : (version : ℕ) (o : Data) (c : Command) → add_rule version o ≡ Ok c → MayBe c
unfolding add_rule
add_rule_good version o c h =
    taken (read_in word.Layer o short_of) _ c h (λ layer e h.
    taken (read_in word.Group o short_of) _ c h (λ group e h.
    taken (read_in word.Rule o (rule_of version [])) _ c h (λ rule there h.
    read word.Rule o (rule_of version []) rule there (λ place value.
    let good = rule_good version place rule value in
    subst MayBe (same_value _ c h) ((good.0, tt), good.1)))))

remove_rule_good : (o : Data) (c : Command) → remove_rule o ≡ Ok c → MayBe c
unfolding remove_rule
remove_rule_good o c h =
    taken (read_in word.Layer o short_of) _ c h (λ layer e h.
    taken (read_in word.Group o short_of) _ c h (λ group e h.
    taken (read_in word.Rule o short_of) _ c h (λ number e h.
    subst MayBe (same_value _ c h) (tt, tt))))

set_default_good : (o : Data) (c : Command) → set_default o ≡ Ok c → MayBe c
unfolding set_default
set_default_good o c h =
    taken (read_in word.Layer o short_of) _ c h (λ layer e h.
    taken (read_in word.Dir o dir_of) _ c h (λ dir e h.
    taken (read_in word.Default o allows_of) _ c h (λ allow e h.
    subst MayBe (same_value _ c h) (tt, tt))))

sweep_good : (o : Data) (c : Command) → sweep o ≡ Ok c → MayBe c
unfolding sweep
sweep_good o c h =
    taken (read_in word.Layer o short_of) _ c h (λ layer e h.
    taken (read_in word.Now o whole_of) _ c h (λ now e h.
    subst MayBe (same_value _ c h) (tt, tt)))

pub command_good : (version : ℕ) (v : Verb) (o : Data) (c : Command) → command_of version v o ≡ Ok c → Each IsGoodRule (rules_given c) × IsWithin c
command_good version verb.AddLayer o c h = add_layer_good o c h
command_good version verb.RemoveLayer o c h = remove_layer_good o c h
command_good version verb.AddGroup o c h = add_group_good version o c h
command_good version verb.RemoveGroup o c h = remove_group_good o c h
command_good version verb.PutRules o c h = put_rules_good version o c h
command_good version verb.PutMany o c h = put_many_good version o c h
command_good version verb.AddRule o c h = add_rule_good version o c h
command_good version verb.RemoveRule o c h = remove_rule_good o c h
command_good version verb.SetDefault o c h = set_default_good o c h
command_good version verb.Sweep o c h = sweep_good o c h
