-- Ports by place.
use Rattle.std.proofs.Common.{◌≡◌, ℕ, zero, suc, ◌+◌, List, [], ◌∷◌, ◌++◌, drop, Some, Vec, refl, sym, ◌∙◌, ap, arith, append_assoc}
use Rattle.std.specs.List.{slice_get}
use Rattle.vsw_live.specs.Ports.{OpenSeen, PortSeen, items_of, passes_of, ports_of}
use Rattle.vsw_flows.specs.Flows.{Writing}

first_of_drop : (ps : List PortSeen) (n : ℕ) (p : PortSeen) (rest : List PortSeen) → drop n ps ≡ p ∷ rest → (slice_get ps n ≡ Some p) × (drop (suc n) ps ≡ rest)
first_of_drop [] zero p rest e = absurd (cc e)
first_of_drop [] (suc n) p rest e = absurd (cc e)
first_of_drop (x ∷ ps) zero p rest e = (cc e, cc e)
first_of_drop (x ∷ ps) (suc n) p rest e = first_of_drop ps n p rest e

pub named_at : (ps : List PortSeen) (n : ℕ) (all os : List OpenSeen) (o : OpenSeen) → drop n ps ≡ ports_of all → all ≡ o ∷ os → slice_get ps n ≡ Some o.port
named_at ps n all os o e same = (first_of_drop ps n o.port (ports_of os) (e ∙ ap ports_of same)).0

pub named_on : (ps : List PortSeen) (n m : ℕ) (all os : List OpenSeen) (o : OpenSeen) → drop n ps ≡ ports_of all → all ≡ o ∷ os → m ≡ n + 1 → drop m ps ≡ ports_of os
named_on ps n m all os o e same next =
    let k : m ≡ suc n = omega (arith, next) in rw k (first_of_drop ps n o.port (ports_of os) (e ∙ ap ports_of same)).1

pub ports_on : (done : List PortSeen) (all os : List OpenSeen) (o : OpenSeen) → all ≡ o ∷ os → (done ++ o.port ∷ []) ++ ports_of os ≡ done ++ ports_of all
ports_on done all os o e = append_assoc done (o.port ∷ []) (ports_of os) ∙ ap (λ w. done ++ w) (sym (ap ports_of e))

items_append : {G : Type 0} → (vs : List (Vec Writing G)) (v : Vec Writing G) → items_of (vs ++ v ∷ []) ≡ items_of vs ++ v.items ∷ []
items_append [] v = refl
items_append (w ∷ vs) v = ap (λ rest. w.items ∷ rest) (items_append vs v)

pub passes_on : {G : Type 0} → (vs : List (Vec Writing G)) (v : Vec Writing G) (all os : List OpenSeen) (o : OpenSeen) → all ≡ o ∷ os → v.items ≡ o.passes → items_of (vs ++ v ∷ []) ++ passes_of os ≡ items_of vs ++ passes_of all
passes_on vs v all os o e own =
    ap (λ w. w ++ passes_of os) (items_append vs v) ∙ (ap (λ ps. (items_of vs ++ ps ∷ []) ++ passes_of os) own ∙ (append_assoc (items_of vs) (o.passes ∷ []) (passes_of os) ∙ ap (λ w. items_of vs ++ w) (sym (ap passes_of e))))
