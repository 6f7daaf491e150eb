-- What was done at docks was done at the ports of the policy that they are like.
use Rattle.std.proofs.Common.{◌≡◌, ◌<◌, ℕ, suc, List, [], ◌∷◌, map, subst, refl, ap, sym}
use Rattle.vsw_dock.specs.Seen.{DockSeen}
use Rattle.vsw_port.specs.Calls.{named}
use Rattle.vsw_port.specs.History.{AllRight, Opening}
use Rattle.vsw_port.specs.declared.event.Event.{Event}
use Rattle.vsw_dock.specs.Actors.{AreRows, HasWorked}
use Rattle.vsw_dock.specs.Phases.{IsLane, Lane, calls_in}
use Rattle.vsw_dock.specs.Rounds.{AreJournals, calls_by_port, column, other_columns}
use Rattle.vsw_policy.specs.Sound.{Each}
use Rattle.vsw_promise.specs.Ports.{PortSeen}
use Rattle.vsw_promise.specs.Jobs.{Placed}
use Rattle.vsw_many.specs.Dealing.{deal}
use Rattle.vsw_harbour.specs.Harbour.{AreLike, ports_in}

pub worked_like : (place k : ℕ) (ps : List PortSeen) (ds : List DockSeen) (hs gs : List (List Event)) (ls : List Lane) (done : List Placed) → AreLike ps ds → HasWorked place k (ports_in ds) hs gs ls done → HasWorked place k ps hs gs ls done
worked_like place k [] [] [] [] [] done a w = tt
worked_like place k (p ∷ ps) (d ∷ ds) (h ∷ hs) (g ∷ gs) (l ∷ ls) done a w = (subst (λ o. IsLane o h g k l) (sym a.0.opening) w.0, w.1, worked_like (suc place) k ps ds hs gs ls done a.1 w.2)
worked_like place k [] [] [] [] (l ∷ ls) done a w = absurd w
worked_like place k [] [] [] (g ∷ gs) ls done a w = absurd w
worked_like place k [] [] (h ∷ hs) gs ls done a w = absurd w
worked_like place k [] (d ∷ ds) hs gs ls done a w = absurd a
worked_like place k (p ∷ ps) [] hs gs ls done a w = absurd a
worked_like place k (p ∷ ps) (d ∷ ds) [] gs ls done a w = absurd w
worked_like place k (p ∷ ps) (d ∷ ds) (h ∷ hs) [] ls done a w = absurd w
worked_like place k (p ∷ ps) (d ∷ ds) (h ∷ hs) (g ∷ gs) [] done a w = absurd w

pub rows_like : (cs : List ℕ) (jobs : List Placed) (k : ℕ) (ps : List PortSeen) (ds : List DockSeen) (hs gs : List (List Event)) (rows : List (List Lane)) → AreLike ps ds → AreRows cs jobs 0 k (ports_in ds) hs gs rows → AreRows cs jobs 0 k ps hs gs rows
rows_like cs jobs k ps ds hs gs [] a r = tt
rows_like cs jobs k ps ds hs gs (row ∷ rows) a r = (worked_like 0 k ps ds hs gs row (deal cs k jobs) a r.0, rows_like cs jobs (suc k) ps ds hs gs rows a r.1)

pub journals_like : (n : ℕ) (ps : List PortSeen) (ds : List DockSeen) (hs gs : List (List Event)) → AreLike ps ds → AreJournals n (ports_in ds) hs gs → AreJournals n ps hs gs
journals_like n [] [] [] [] a j = tt
journals_like n (p ∷ ps) (d ∷ ds) (h ∷ hs) (g ∷ gs) a j =
    (subst (λ o. AllRight o g) (sym a.0.opening) j.0, j.1, subst (λ (o : Opening). Each (λ e. named o.controllers e < n) g) (sym a.0.opening) j.2, journals_like n ps ds hs gs a.1 j.3)
journals_like n [] [] [] (g ∷ gs) a j = absurd j
journals_like n [] [] (h ∷ hs) gs a j = absurd j
journals_like n [] (d ∷ ds) hs gs a j = absurd a
journals_like n (p ∷ ps) [] hs gs a j = absurd a
journals_like n (p ∷ ps) (d ∷ ds) [] gs a j = absurd j
journals_like n (p ∷ ps) (d ∷ ds) (h ∷ hs) [] a j = absurd j

pub calls_like : (ps : List PortSeen) (ds : List DockSeen) (rows : List (List Lane)) → AreLike ps ds → calls_by_port ps rows ≡ calls_by_port (ports_in ds) rows
calls_like [] [] rows a = refl
calls_like (p ∷ ps) (d ∷ ds) rows a = ap (λ w. calls_in (column rows) ∷ w) (calls_like ps ds (other_columns rows) a.1)
calls_like [] (d ∷ ds) rows a = absurd a
calls_like (p ∷ ps) [] rows a = absurd a

pub numbers_like : (ps : List PortSeen) (ds : List DockSeen) → AreLike ps ds → map (λ p. p.number) ps ≡ map (λ d. d.number) ds
numbers_like [] [] a = refl
numbers_like (p ∷ ps) (d ∷ ds) a = λ i. a.0.number i ∷ numbers_like ps ds a.1 i
numbers_like [] (d ∷ ds) a = absurd a
numbers_like (p ∷ ps) [] a = absurd a

pub macs_like : (ps : List PortSeen) (ds : List DockSeen) → AreLike ps ds → map (λ p. p.mac) ps ≡ map (λ d. d.mac) ds
macs_like [] [] a = refl
macs_like (p ∷ ps) (d ∷ ds) a = λ i. a.0.mac i ∷ macs_like ps ds a.1 i
macs_like [] (d ∷ ds) a = absurd a
macs_like (p ∷ ps) [] a = absurd a
