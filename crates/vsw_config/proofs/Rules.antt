-- Rules and groups that are read.
use Rattle.std.proofs.Common.{◌≡◌, ◌≢◌, ◌==◌, ℕ, List, [], ◌∷◌, ◌++◌, length, ◌≤◌, false, Option, Some, None, Result, Ok, refl, subst}
use Rattle.std.specs.List.{list_any, AllPairs}
use Rattle.std.specs.Prelude.{All}
use Rattle.std.proofs.lemmas.List.Elements.{All-nil, All-push}
use Rattle.serde_json.specs.Data.{Data}
use Rattle.vsw_rule.specs.Check.{bad_rule_of}
use Rattle.vsw_rule.specs.declared.check.BadRule.{BadRule}
use Rattle.vsw_rule.specs.declared.field.Field.{Field}
use Rattle.vsw_rule.specs.declared.rule.Item.{Item}
use Rattle.vsw_rule.specs.declared.rule.Cond.{Cond}
use Rattle.vsw_rule.specs.declared.rule.Rule.{Rule}
use Rattle.vsw_rule.specs.declared.rule.Group.{Group}
use Rattle.vsw_config.specs.declared.fault.Fault.{Fault}
use Rattle.vsw_config.specs.declared.fault.Kind.TheVariants as kind
use Rattle.vsw_config.specs.declared.word.Word.TheVariants as word
use Rattle.vsw_config.specs.Fault.{bad}
use Rattle.vsw_config.specs.Object.{object_among, read_in}
use Rattle.vsw_config.specs.Value.{short_of, truth_of}
use Rattle.vsw_config.specs.Field.{form_of, field_of}
use Rattle.vsw_config.specs.Condition.{item_of, items_of, cond_of, conds_of}
use Rattle.vsw_config.specs.Action.{action_of}
use Rattle.vsw_config.specs.Rule.{fresh_rule, judged, rule_words, rule_of, rules_of, fresh_group, dir_of, group_words, group_of, groups_of}
use Rattle.vsw_config.specs.Good.{AreGoodConds, AreGoodRules, AreGoodGroups}
use Rattle.vsw_config.proofs.Steps.{taken, same_value, read, unless}
use Rattle.vsw_config.proofs.ListsRead.{kept_in, limited, no_pairs, pairs_push, apart}

-- ---- conditions

items_few : (k : Field) (d : Data) (xs : List Item) → items_of (form_of k) d ≡ Ok xs → length xs ≤ 64
unfolding items_of
items_few k d xs h = limited 64 d (λ done. item_of (form_of k)) xs h

abbrev AreShort : List Cond → Type 0
AreShort cs = All (λ c. length c.items ≤ 64) cs

cond_kept : (version : ℕ) (done : List Cond) (d : Data) (c : Cond) → AreShort done → cond_of version d ≡ Ok c → AreShort (done ++ c ∷ [])
unfolding cond_of
cond_kept version done d c q h =
    taken (object_among (word.Field ∷ word.Any ∷ []) d) _ c h (λ o e h.
    taken (read_in word.Field o (field_of version)) _ c h (λ field e h.
    taken (read_in word.Any o (items_of (form_of field))) _ c h (λ items there h.
    read word.Any o (items_of (form_of field)) items there (λ list value.
    subst (λ (s : Cond). AreShort (done ++ s ∷ [])) (same_value _ c h)
    (All-push (λ c. length c.items ≤ 64) done _ q (items_few field list items value))))))

pub conds_good : (version : ℕ) (d : Data) (cs : List Cond) → conds_of version d ≡ Ok cs → AreGoodConds cs
unfolding conds_of AreGoodConds
conds_good version d cs h = (
  limited 16 d (λ done. cond_of version) cs h,
  kept_in 16 d AreShort (λ done. cond_of version) (cond_kept version) cs (All-nil (λ c. length c.items ≤ 64)) h,
)

-- ---- rules

-- the test of a number that is Twice where it stands
fresh_rule_apart : (done : List Rule) (d : Data) (n : ℕ) → fresh_rule done d ≡ Ok n → list_any (λ r. r.number == n) done ≡ false
unfolding fresh_rule
fresh_rule_apart done d n h =
    taken (short_of d) _ n h (λ m e h.
    let (none, same) = unless (list_any (λ r. r.number == m) done) m n _ h in
    rw (← same) none)

if_good : (r s : Rule) (o : Option BadRule) → bad_rule_of r ≡ o → ◌≡◌ {A = Result Rule Fault} (elim o [ None ↦ Ok r | Some why ↦ bad kind.BadRule ]) (Ok s) → (r ≡ s) × (bad_rule_of r ≡ None)
if_good r s None e h = (same_value r s h, e)
if_good r s (Some why) e h = cc

judged_good : (r s : Rule) → judged r ≡ Ok s → (r ≡ s) × (bad_rule_of r ≡ None)
unfolding judged
judged_good r s h = if_good r s (bad_rule_of r) refl h

-- what one rule keeps
abbrev pub RulesKept : List Rule → Type 0
RulesKept rs = AllPairs (λ r s. r.number ≢ s.number) rs × All (λ r. bad_rule_of r ≡ None) rs × All (λ r. AreGoodConds r.when) rs

pub rule_kept : (version : ℕ) (done : List Rule) (d : Data) (r : Rule) → RulesKept done → rule_of version done d ≡ Ok r → RulesKept (done ++ r ∷ [])
unfolding rule_of
rule_kept version done d r q h =
    taken (object_among rule_words d) _ r h (λ o e h.
    taken (read_in word.Rule o (fresh_rule done)) _ r h (λ number here h.
    taken (read_in word.Priority o short_of) _ r h (λ priority e h.
    taken (read_in word.When o (conds_of version)) _ r h (λ when some h.
    taken (read_in word.Action o (action_of version)) _ r h (λ action e h.
    taken (read_in word.Stateful o truth_of) _ r h (λ stateful e h.
    taken (read_in word.Last o truth_of) _ r h (λ last e h.
    read word.Rule o (fresh_rule done) number here (λ place fresh.
    read word.When o (conds_of version) when some (λ conds those.
    let (same, good) = judged_good _ r h in
    let none = fresh_rule_apart done place number fresh in
    subst (λ (s : Rule). RulesKept (done ++ s ∷ [])) same (
      pairs_push (λ r s. r.number ≢ s.number) (λ s. s.number == number) done _ (λ s t. apart s.number number t) q.0 none,
      All-push (λ r. bad_rule_of r ≡ None) done _ q.1 good,
      All-push (λ r. AreGoodConds r.when) done _ q.2 (conds_good version conds when those),
    ))))))))))

pub rules_good : (version : ℕ) (d : Data) (rs : List Rule) → rules_of version d ≡ Ok rs → AreGoodRules rs
unfolding rules_of AreGoodRules
rules_good version d rs h =
    let kept = kept_in 1024 d RulesKept (rule_of version) (rule_kept version) rs (no_pairs (λ r s. r.number ≢ s.number), All-nil (λ r. bad_rule_of r ≡ None), All-nil (λ r. AreGoodConds r.when)) h in
    (limited 1024 d (rule_of version) rs h, kept.0, kept.1, kept.2)

-- ---- groups

fresh_group_apart : (done : List Group) (d : Data) (n : ℕ) → fresh_group done d ≡ Ok n → list_any (λ g. g.number == n) done ≡ false
unfolding fresh_group
fresh_group_apart done d n h =
    taken (short_of d) _ n h (λ m e h.
    let (none, same) = unless (list_any (λ g. g.number == m) done) m n _ h in
    rw (← same) none)

abbrev GroupsKept : List Group → Type 0
GroupsKept gs = AllPairs (λ g h. g.number ≢ h.number) gs × All (λ g. AreGoodRules g.rules) gs × All (λ g. AreGoodConds g.when) gs

group_kept : (version : ℕ) (done : List Group) (d : Data) (g : Group) → GroupsKept done → group_of version done d ≡ Ok g → GroupsKept (done ++ g ∷ [])
unfolding group_of
group_kept version done d g q h =
    taken (object_among group_words d) _ g h (λ o e h.
    taken (read_in word.Group o (fresh_group done)) _ g h (λ number here h.
    taken (read_in word.Dir o dir_of) _ g h (λ dir e h.
    taken (read_in word.When o (conds_of version)) _ g h (λ when some h.
    taken (read_in word.Rules o (rules_of version)) _ g h (λ rules there h.
    read word.Group o (fresh_group done) number here (λ place fresh.
    read word.When o (conds_of version) when some (λ conds those.
    read word.Rules o (rules_of version) rules there (λ list value.
    let none = fresh_group_apart done place number fresh in
    subst (λ (s : Group). GroupsKept (done ++ s ∷ [])) (same_value _ g h) (
      pairs_push (λ g h. g.number ≢ h.number) (λ s. s.number == number) done _ (λ s t. apart s.number number t) q.0 none,
      All-push (λ g. AreGoodRules g.rules) done _ q.1 (rules_good version list rules value),
      All-push (λ g. AreGoodConds g.when) done _ q.2 (conds_good version conds when those),
    )))))))))

pub groups_good : (version : ℕ) (d : Data) (gs : List Group) → groups_of version d ≡ Ok gs → AreGoodGroups gs
unfolding groups_of AreGoodGroups
groups_good version d gs h =
    let kept = kept_in 32 d GroupsKept (group_of version) (group_kept version) gs (no_pairs (λ g h. g.number ≢ h.number), All-nil (λ g. AreGoodRules g.rules), All-nil (λ g. AreGoodConds g.when)) h in
    (limited 32 d (group_of version) gs h, kept.0, kept.1, kept.2)
