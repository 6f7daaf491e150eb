-- What holds of every policy that is read.
use Rattle.std.specs.Prelude.{◌≡◌, ◌≢◌, ◌⊎◌, ℕ, ◌≤◌, ◌==◌, List, true, length, None, Ok, All}
use Rattle.std.specs.List.{AllPairs, list_any}
use Rattle.vsw_rule.specs.Check.{bad_rule_of}
use Rattle.vsw_rule.specs.declared.rule.Cond.{Cond}
use Rattle.vsw_rule.specs.declared.rule.Rule.{Rule}
use Rattle.vsw_rule.specs.declared.rule.Group.{Group}
use Rattle.vsw_policy.specs.Numbers.{IsGoodSpec}
use Rattle.vsw_config.specs.declared.file.LayerFile.{LayerFile}
use Rattle.vsw_config.specs.declared.file.PortFile.{PortFile}
use Rattle.vsw_config.specs.declared.file.PolicyFile.{PolicyFile}
use Rattle.vsw_config.specs.Layer.{count_by}
use Rattle.vsw_config.specs.Policy.{policy_file_of}

-- conditions: at most 16, of at most 64 items each
unfoldable pub AreGoodConds : List Cond → Type 0
AreGoodConds cs = (length cs ≤ 16) × All (λ c. length c.items ≤ 64) cs

-- the rules of a group: at most 1,024, no number twice, and each may be so and has good conditions
unfoldable pub AreGoodRules : List Rule → Type 0
AreGoodRules rs = (length rs ≤ 1024) × AllPairs (λ r s. r.number ≢ s.number) rs × All (λ r. bad_rule_of r ≡ None) rs × All (λ r. AreGoodConds r.when) rs

-- the groups of a layer: at most 32, no number twice, and good conditions
unfoldable pub AreGoodGroups : List Group → Type 0
AreGoodGroups gs = (length gs ≤ 32) × AllPairs (λ g h. g.number ≢ h.number) gs × All (λ g. AreGoodRules g.rules) gs × All (λ g. AreGoodConds g.when) gs

-- a layer of a known controller, with good groups and numbers
unfoldable pub IsGoodLayer : List ℕ → LayerFile → Type 0
IsGoodLayer known l = (list_any (λ c. c == l.controller) known ≡ true) × AreGoodGroups l.groups × IsGoodSpec l.spec

-- two layers of one controller have two numbers
abbrev pub AreApart : LayerFile → LayerFile → Type 0
AreApart l m = l.controller ≡ m.controller → l.spec.layer ≢ m.spec.layer

-- the layers of a port: at most 16 of each controller
unfoldable pub AreGoodLayers : List ℕ → List LayerFile → Type 0
AreGoodLayers known ls = ((c : ℕ) → count_by c ls ≤ 16) × AllPairs AreApart ls × All (IsGoodLayer known) ls

-- the ports: at most 16, no number and no address twice, and 8 to 16,384 rows of each
unfoldable pub AreGoodPorts : List ℕ → List PortFile → Type 0
AreGoodPorts known ps = (length ps ≤ 16) × AllPairs (λ p q. p.port ≢ q.port) ps × AllPairs (λ p q. p.mac ≢ q.mac) ps × All (λ p. AreGoodLayers known p.layers) ps × All (λ p. (8 ≤ p.rows) × (p.rows ≤ 16384)) ps

-- at most 8 controllers, none twice, and good ports; the version is 1 or 2
unfoldable pub IsGoodPolicy : PolicyFile → Type 0
IsGoodPolicy p = (length p.controllers ≤ 8) × AllPairs (λ c d. c ≢ d) p.controllers × AreGoodPorts p.controllers p.ports × ((p.version ≡ 1) ⊎ (p.version ≡ 2))

abbrev pub EachIsGood : Type 0
EachIsGood = (bytes : List ℕ) (p : PolicyFile) → policy_file_of bytes ≡ Ok p → IsGoodPolicy p
