-- Lists that are changed element by element.
use Rattle.std.proofs.Common.{◌≡◌, ◌++◌, ℕ, suc, List, [], ◌∷◌, length, map, refl, sym, ap, subst, arith}
use Rattle.std.specs.Prelude.{Vec}
use Rattle.vsw_actors.specs.declared.lane.Lane.{Lane}
use Rattle.vsw_live.specs.Meeting.{HeldSeen}
use Rattle.vsw_flows.specs.Flows.{Writing}
use Rattle.vsw_dock.specs.Meeting.{AreHeld}
use Rattle.vsw_dock.specs.Opening.{first_lanes, later_passes, rows_from, rows_in}
use Rattle.vsw_dock.specs.Seen.{DockSeen, StationSeen}
use Rattle.vsw_dock.specs.Private.Same.{AreLater}

pub later_is : (pss qss : List (List Writing)) → AreLater pss qss → qss ≡ later_passes pss
later_is [] [] a = refl
later_is (ps ∷ pss) (qs ∷ qss) a = let first = a.0 in let rest = later_is pss qss a.1 in λ i. first i ∷ rest i
later_is [] (qs ∷ qss) a = absurd a
later_is (ps ∷ pss) [] a = absurd a

-- ports are those of the docks
pub held_is : (ds : List DockSeen) (hs : List HeldSeen) → map (λ (h : HeldSeen). h.port) hs ≡ map (λ (d : DockSeen). d.live) ds → AreHeld ds hs
held_is [] [] e = tt
held_is (d ∷ ds) (h ∷ hs) e =
    let first : h.port ≡ d.live = cc e in
    let rest : map (λ (g : HeldSeen). g.port) hs ≡ map (λ (c : DockSeen). c.live) ds = cc e in
    (first, held_is ds hs rest)
held_is [] (h ∷ hs) e = absurd (omega (arith, ap length e))
held_is (d ∷ ds) [] e = absurd (omega (arith, ap length e))

-- one row more was made
pub row_made : {G : Type 0} (rows : List (Vec (Lane StationSeen) G)) (row : Vec (Lane StationSeen) G) (n m : ℕ) (pss qss : List (List Writing)) → n ≡ suc m → row.items ≡ first_lanes pss → qss ≡ later_passes pss → rows_in (rows ++ row ∷ []) ++ rows_from m qss ≡ rows_in rows ++ rows_from n pss
row_made [] row n m pss qss less first later =
    let here : row.items ∷ rows_from m qss ≡ rows_from (suc m) pss = λ i. first i ∷ rows_from m (later i) in
    subst (λ k. row.items ∷ rows_from m qss ≡ rows_from k pss) (sym less) here
row_made (r ∷ rows) row n m pss qss less first later = ap (λ w. r.items ∷ w) (row_made rows row n m pss qss less first later)
