-- What reports tell of packets, and when it doesn't hang on the number of workers.
use Rattle.std.specs.Prelude.{◌≡◌, ◌<◌, ℕ, List, [], false, option_to_list}
use Rattle.std.specs.List.{flat_map, slice_get}
use Rattle.vsw_policy.specs.Layer.{LayerSeen}
use Rattle.vsw_policy.specs.Obey.{rules_given}
use Rattle.vsw_policy.specs.Sound.{Each}
use Rattle.vsw_promise.specs.Ports.{ports_of}
use Rattle.vsw_rule.specs.declared.rule.Group.{Group}
use Rattle.vsw_rule.specs.declared.rule.Rule.{Rule}
use Rattle.vsw_report.specs.declared.round.Round.{Round}
use Rattle.vsw_report.specs.declared.told.ToldLine.{ToldLine}
use Rattle.vsw_promise.specs.Jobs.{Setting}
use Rattle.vsw_promise.specs.Told.{fates_in}

-- ---- runs whose packets change nothing

-- no pair is made by it
abbrev pub IsPlainRule : Rule → Type 0
IsPlainRule r = r.stateful ≡ false

-- nor by any rule of the group
abbrev pub IsPlainGroup : Group → Type 0
IsPlainGroup g = Each IsPlainRule g.rules

-- a layer without pairs and stateful rules
abbrev pub IsPlain : LayerSeen → Type 0
IsPlain l = (l.pairs ≡ []) × Each IsPlainGroup l.groups

-- no packet makes or finds a pair in any of these layers
abbrev pub ArePlain : List LayerSeen → Type 0
ArePlain ls = Each IsPlain ls

-- no rule of the policy or of a command is stateful, and no command is "during"
pub record IsPlainSetting (s : Setting) : Type 0 where
  pub layers : Each (λ p. ArePlain p.layers) (ports_of s.policy)
  pub rules : Each (λ l. Each IsPlainRule (rules_given l.command)) s.commands
  pub before : Each (λ l. l.during ≡ false) s.commands

-- the same run with another number of workers
abbrev pub with_workers : ℕ → Setting → Setting
with_workers n s = record { workers = n; policy = s.policy; commands = s.commands; local = s.local }

-- ---- what is told of a packet

-- the lines of the port at this place in all rounds
abbrev pub lines_at : ℕ → List Round → List ToldLine
lines_at place rounds = flat_map (λ r. flat_map (λ p. p.lines) (option_to_list (slice_get r.ports place))) rounds

-- at each of this many ports, the one and the other rounds tell the same fate and bytes of each packet
abbrev pub AgreeOnPackets : ℕ → List Round → List Round → Type 0
AgreeOnPackets ports rounds others = (place n : ℕ) → place < ports → fates_in n (lines_at place rounds) ≡ fates_in n (lines_at place others)
