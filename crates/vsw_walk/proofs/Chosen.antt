-- The action of a rule that is chosen can be done.
use Rattle.std.proofs.Common.{◌≡◌, ℕ, ◌&&◌, ◌||◌, true, false, not, List, [], ◌∷◌, Option, Some, None, sym, subst, ◌∙◌}
use Rattle.std.specs.Prelude.{if◌then◌else◌}
use Rattle.vsw_base.specs.declared.header.Header.{Header}
use Rattle.vsw_base.specs.declared.packet.Dir.{Dir}
use Rattle.vsw_base.specs.Shape.{inner}
use Rattle.vsw_base.proofs.Truths.{both}
use Rattle.vsw_rule.specs.Choice.{Chosen, Picks, pick, applies, choose}
use Rattle.vsw_rule.specs.Private.FromEnd.{after, from_end}
use Rattle.vsw_rule.proofs.FromEnd.{choose_is}
use Rattle.vsw_rule.proofs.Picks.{pick_is}
use Rattle.vsw_rule.specs.declared.rule.Rule.{Rule}
use Rattle.vsw_rule.specs.declared.rule.Group.{Group}
use Rattle.vsw_rule.specs.Match.{all_hold, can_do, has_ip}

-- the action of the rule, where there is one, can be done
abbrev pub RuleCan : List Header → Option Rule → Type 0
RuleCan hs None = Unit {0}
RuleCan hs (Some r) = can_do r.action hs ≡ true

abbrev pub ChosenCan : List Header → Option Chosen → Type 0
ChosenCan hs None = Unit {0}
ChosenCan hs (Some c) = can_do c.rule.action hs ≡ true

picked : (rs : List Rule) (hs : List Header) (o : Option Rule) → Picks rs hs o → RuleCan hs o
picked rs hs None p = tt
picked rs hs (Some r) p =
    let met = both (all_hold r.when hs && can_do r.action hs) (not r.stateful || has_ip (inner hs)) p.meets in
    (both (all_hold r.when hs) (can_do r.action hs) met.0).1

decided : (hs : List Header) (g : ℕ) (o : Option Rule) (later : Option Chosen) → RuleCan hs o → ChosenCan hs later → ChosenCan hs (after g o later)
decided hs g None later p l = l
decided hs g (Some r) None p l = p
decided hs g (Some r) (Some c) p l = elim r.last as (λ b. ChosenCan hs (Some (if b then record { group = g; rule = r } else c))) [ true ↦ p | false ↦ l ]

chosen : (d : Dir) (gs : List Group) (hs : List Header) → ChosenCan hs (from_end d gs hs)
chosen d [] hs = tt
chosen d (g ∷ gs) hs =
    let rest = chosen d gs hs in
    let here = decided hs g.number (pick g.rules hs) (from_end d gs hs) (picked g.rules hs (pick g.rules hs) (pick_is g.rules hs)) rest in
    elim (applies d hs g) as (λ b. ChosenCan hs (if b then after g.number (pick g.rules hs) (from_end d gs hs) else from_end d gs hs)) [ true ↦ here | false ↦ rest ]

pub chosen_can : (d : Dir) (gs : List Group) (hs : List Header) (c : Chosen) → choose d gs hs ≡ Some c → can_do c.rule.action hs ≡ true
chosen_can d gs hs c e = subst (ChosenCan hs) (sym (choose_is d gs hs) ∙ e) (chosen d gs hs)
