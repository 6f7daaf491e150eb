-- Room for the pairs that are made, while changes are made.
use Rattle.std.proofs.Common.{◌≢◌, ◌≤◌, ℕ, List, [], ◌∷◌, sym, ◌∙◌, arith, true≢false}
use Rattle.vsw_port.specs.Can.{AllRoom, NotMade}
use Rattle.vsw_port.specs.WalkWanted.{Wanted}
use Rattle.vsw_port.specs.WalkWanted.TheVariants.{Make, Touch, Leave}
use Rattle.vsw_policy.specs.Layers.{PolicySeen, room_at}
use Rattle.vsw_policy.specs.Sound.{Each}

-- room that doesn't fall is still there
pub rooms_stay : (s t : PolicySeen) → ((k : ℕ) → room_at s k ≤ room_at t k) → (ws : List Wanted) → AllRoom ws s → AllRoom ws t
rooms_stay s t h [] r = tt
rooms_stay s t h (Make place p ∷ ws) r = let l = h place in (omega (arith, l, r.0), rooms_stay s t h ws r.1)
rooms_stay s t h (Touch place number state last ∷ ws) r = (tt, rooms_stay s t h ws r.1)
rooms_stay s t h (Leave place number ∷ ws) r = (tt, rooms_stay s t h ws r.1)

-- a pair that is made takes room in its layer alone
pub rooms_beside : (j : ℕ) (s t : PolicySeen) → ((k : ℕ) → k ≢ j → room_at s k ≤ room_at t k) → (ws : List Wanted) → Each (NotMade j) ws → AllRoom ws s → AllRoom ws t
rooms_beside j s t h [] n r = tt
rooms_beside j s t h (Make place p ∷ ws) n r =
    let l = h place (λ e. true≢false (sym (grind (arith, e)) ∙ n.0)) in
    (omega (arith, l, r.0), rooms_beside j s t h ws n.1 r.1)
rooms_beside j s t h (Touch place number state last ∷ ws) n r = (tt, rooms_beside j s t h ws n.1 r.1)
rooms_beside j s t h (Leave place number ∷ ws) n r = (tt, rooms_beside j s t h ws n.1 r.1)
