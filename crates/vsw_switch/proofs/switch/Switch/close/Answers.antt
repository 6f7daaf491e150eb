use Rattle.std.proofs.Common.{◌≡◌, ◌++◌, ◌∙◌, List, ap, map, subst}
use Rattle.std.specs.Prelude.{codes, decimal}
use Rattle.std.specs.List.{concat, flat_map}
use Rattle.vsw_report.specs.Print.{loose_text}
use Rattle.vsw_report.specs.Whole.{whole_text}
use Rattle.vsw_report.specs.declared.round.Loose.{Loose}
use Rattle.vsw_switch.specs.Close.{AreCounted, round_now, text_now}
use Rattle.vsw_switch.specs.Stay.{standing}
use Rattle.vsw_switch.specs.Switch.{SwitchNow}
use Rattle.vsw_switch.proofs.Closed.{round_closed}
use Rattle.vsw_switch.proofs.Staying.{ports_stay, served_stay}
use Rattle.vsw_switch.proofs.switch.Switch.close.Goals as goal

pub invariant_of-self : goal.invariant_of-self
invariant_of-self c = ports_stay c.self.inside.workers c.self.inside.numbers.items c.self.inside.macs c.self.inside.ports.items c.close_all.new.ports.items c.close_all.ensures.stays c.self.invariant

pub returns-in_err-short-clause-served : goal.returns-in_err-short-clause-served
returns-in_err-short-clause-served c = served_stay c.args.self.now _ (c.close_all.ensures.stays ∙ ap (λ (s : SwitchNow). map standing s.ports) c.self.view_is)

pub invariant_of-self-in_err-loose_part : goal.invariant_of-self-in_err-loose_part
invariant_of-self-in_err-loose_part c = ports_stay c.self.inside.workers c.self.inside.numbers.items c.self.inside.macs c.self.inside.ports.items c.close_all.new.ports.items c.close_all.ensures.stays c.self.invariant

pub returns-in_err-loose_part-clause-served : goal.returns-in_err-loose_part-clause-served
returns-in_err-loose_part-clause-served c = served_stay c.args.self.now _ (c.close_all.ensures.stays ∙ ap (λ (s : SwitchNow). map standing s.ports) c.self.view_is)

pub invariant_of-self-2 : goal.invariant_of-self-2
invariant_of-self-2 c = ports_stay c.self.inside.workers c.self.inside.numbers.items c.self.inside.macs c.self.inside.ports.items c.close_all.new.ports.items c.close_all.ensures.stays c.self.invariant

pub returns-clause-served : goal.returns-clause-served
returns-clause-served c = served_stay c.args.self.now _ (c.close_all.ensures.stays ∙ ap (λ (s : SwitchNow). map standing s.ports) c.self.view_is)

pub returns-clause-text : goal.returns-clause-text
returns-clause-text c =
    let s = c.self.inside in
    let old = c.args.out.now in
    let closed = c.close_all.new.out in
    subst (λ (now : SwitchNow). AreCounted now → concat closed.sheets ++ c.loose_part.new.out.items ≡ whole_text old ++ round_now c.args.first now) c.self.view_is
    (λ counted. round_closed old.sheets closed.sheets old.end.items c.round_line.new.out.items closed.end.items c.loose_part.new.out.items (codes "round ") (decimal c.args.first) (codes "\n") (flat_map text_now s.ports.items) (codes "loose\n") (flat_map loose_text s.loose.items)
    c.in_ok-round_line.ensures (c.in_ok-short.ensures.text counted) (c.in_ok-loose_part.ensures ∙ ap (λ (ls : List Loose). closed.end.items ++ codes "loose\n" ++ flat_map loose_text ls) c.deref.ensures.value))
