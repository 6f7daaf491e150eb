use Rattle.std.proofs.Common.{◌≡◌, ◌∙◌, ◌++◌, ◌∷◌, [], ap, sym, subst, refl, rules, append_assoc}
use Rattle.vsw_audit.specs.Private.Rounds.{AreFirst}
use Rattle.vsw_audit.proofs.Checking.{first_more}
use Rattle.vsw_audit.proofs.check.seats_of.Goals as goal

pub loop-port-preserved : goal.loop-port-preserved
loop-port-preserved c =
    let i = c.loop-port.invariant in
    let p = c.in-Some.port in
    let more : c.loop-port.port-iterator.rest.items ≡ p ∷ c.next.new.self.rest.items = search rules in
    (i.0 ++ p ∷ [], i.1 ∙ (ap (λ v. i.0 ++ v) more ∙ sym (append_assoc i.0 (p ∷ []) c.next.new.self.rest.items)), subst (AreFirst (i.0 ++ p ∷ [])) (sym c.in_ok-push.ensures) (first_more i.0 c.loop-port.seats.items p _ i.2 (refl, c.open.ensures.opening, c.open.ensures.journal, tt)))
