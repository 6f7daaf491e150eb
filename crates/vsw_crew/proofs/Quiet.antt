-- Callers that only met did nothing.
use Rattle.std.proofs.Common.{◌≡◌, ◌<◌, ℕ, suc, ◌+◌, List, [], ◌∷◌, length, map, refl, ap, ap₂, sym, ◌∙◌, subst, arith}
use Rattle.vsw_harbour.specs.Lane.{Lane}
use Rattle.vsw_harbour.specs.Crew.{callers_in}
use Rattle.vsw_harbour.specs.Turns.{PlacedTurns, append_each}
use Rattle.vsw_harbour.proofs.Turns.{quiet_turns}
use Rattle.vsw_harbour.specs.Seen.{DockSeen, StationSeen}
use Rattle.vsw_harbour.specs.Harbour.{AreLike, HarbourSeen, IsOfRun, callers, locals_in, ports_in}
use Rattle.vsw_harbour.specs.Standing.{RowsStand, no_calls}
use Rattle.vsw_harbour.specs.Steps.{Did}
use Rattle.vsw_hairpin.specs.Handing.{AreHandedRows}
use Rattle.vsw_harbour.proofs.Likes.{journals_like, rows_like}
use Rattle.vsw_port.specs.Calls.{Call}
use Rattle.vsw_port.specs.declared.event.Event.{Event}
use Rattle.vsw_port.proofs.Fronts.{append_end}
use Rattle.vsw_harbour.specs.ManyActors.{AreRows}
use Rattle.vsw_harbour.specs.Phases as many
use Rattle.vsw_harbour.specs.Rounds.{AreJournals}
use Rattle.vsw_promise.specs.Ports.{PortSeen, ports_of}
use Rattle.vsw_promise.specs.Jobs.{Placed, Setting}
use Rattle.vsw_crew.proofs.Taking.{seen_are}

-- ---- at the ports of a run

pub callers_are : (h : HarbourSeen) (s : Setting) → IsOfRun h s → callers h ≡ callers_in s
callers_are h s run = ap (λ c. 16 + length c) (sym run.controllers)

rows_done : (h : HarbourSeen) (s : Setting) (jobs : List Placed) (hs gs : List (List Event)) (rows : List (List many.Lane)) → IsOfRun h s → AreRows h.controllers jobs 0 0 (map (λ d. record { number = d.number; mac = d.mac; rows = d.live.looking.2; controllers = d.live.looking.1.controllers; layers = d.live.looking.1.layers }) h.docks) hs gs rows
    → AreRows s.policy.controllers jobs 0 0 (ports_of s.policy) hs gs rows
rows_done h s jobs hs gs rows run d = subst (λ c. AreRows c jobs 0 0 (ports_of s.policy) hs gs rows) (sym run.controllers) (rows_like h.controllers jobs 0 (ports_of s.policy) h.docks hs gs rows run.ports d)

-- no job hands nothing on
none_done : (macs cs : List ℕ) (k : ℕ) (ps : List PortSeen) (hs gs : List (List Event)) (rows : List (List many.Lane)) (hops : List (List (List Placed))) → AreHandedRows macs cs [] k ps hs gs rows hops → AreRows cs [] 0 k ps hs gs rows
none_done macs cs k ps hs gs [] hops d = tt
none_done macs cs k ps hs gs (row ∷ rows) (h ∷ hops) d = (d.0, none_done macs cs (suc k) ps hs gs rows hops d.2)
none_done macs cs k ps hs gs (row ∷ rows) [] d = absurd d

pub quiet_placed : (h : HarbourSeen) (s : Setting) (hs : List (List Event)) (calls : List (List Call)) (met : List (List (Lane StationSeen))) → IsOfRun h s → (d : Did h hs calls [] met) → PlacedTurns 0 (ports_of s.policy) [] hs d.histories (map (λ p. []) (ports_of s.policy))
quiet_placed h s hs calls met run d =
    let journals : AreJournals (callers_in s) (ports_of s.policy) hs d.histories = subst (λ n. AreJournals n (ports_of s.policy) hs d.histories) (callers_are h s run) (journals_like (callers h) (ports_of s.policy) h.docks hs d.histories run.ports d.journals) in
    (quiet_turns s hs d.histories d.rows (d.size ∙ callers_are h s run) (rows_done h s [] hs d.histories d.rows run (none_done (locals_in h.docks) h.controllers 0 (ports_in h.docks) hs d.histories d.rows d.hops d.done)) journals).turns

-- ---- no calls before others, or behind them

pub none_first : (place : ℕ) (ps : List PortSeen) (jobs : List Placed) (hs ms : List (List Event)) (calls : List (List Call)) → PlacedTurns place ps jobs hs ms calls → append_each (map (λ p. []) ps) calls ≡ calls
none_first place [] jobs [] [] [] t = refl
none_first place (p ∷ ps) jobs (h ∷ hs) (m ∷ ms) (c ∷ calls) t = ap (λ w. c ∷ w) (none_first (suc place) ps jobs hs ms calls t.1)
none_first place [] jobs [] [] (c ∷ calls) t = absurd t
none_first place [] jobs [] (m ∷ ms) calls t = absurd t
none_first place [] jobs (h ∷ hs) ms calls t = absurd t
none_first place (p ∷ ps) jobs [] ms calls t = absurd t
none_first place (p ∷ ps) jobs (h ∷ hs) [] calls t = absurd t
none_first place (p ∷ ps) jobs (h ∷ hs) (m ∷ ms) [] t = absurd t

pub none_last : (place : ℕ) (ps : List PortSeen) (jobs : List Placed) (hs ms : List (List Event)) (calls : List (List Call)) → PlacedTurns place ps jobs hs ms calls → append_each calls (map (λ p. []) ps) ≡ calls
none_last place [] jobs [] [] [] t = refl
none_last place (p ∷ ps) jobs (h ∷ hs) (m ∷ ms) (c ∷ calls) t = ap₂ (λ x y. x ∷ y) (append_end c) (none_last (suc place) ps jobs hs ms calls t.1)
none_last place [] jobs [] [] (c ∷ calls) t = absurd t
none_last place [] jobs [] (m ∷ ms) calls t = absurd t
none_last place [] jobs (h ∷ hs) ms calls t = absurd t
none_last place (p ∷ ps) jobs [] ms calls t = absurd t
none_last place (p ∷ ps) jobs (h ∷ hs) [] calls t = absurd t
none_last place (p ∷ ps) jobs (h ∷ hs) (m ∷ ms) [] t = absurd t

pub no_docks : (place : ℕ) (ps : List PortSeen) (ds : List DockSeen) (jobs : List Placed) (hs ms : List (List Event)) (calls : List (List Call)) → AreLike ps ds → PlacedTurns place ps jobs hs ms calls → append_each (no_calls ds) calls ≡ calls
no_docks place ps ds jobs hs ms calls a t = ap (λ w. append_each w calls) (as_ports ps ds a) ∙ none_first place ps jobs hs ms calls t
  where
    as_ports : (xs : List PortSeen) (ys : List DockSeen) → AreLike xs ys → no_calls ys ≡ map (λ p. []) xs
    as_ports [] [] b = refl
    as_ports (x ∷ xs) (y ∷ ys) b = ap (λ w. [] ∷ w) (as_ports xs ys b.1)
    as_ports [] (y ∷ ys) b = absurd b
    as_ports (x ∷ xs) [] b = absurd b

-- ---- what all have seen tells the histories

pub same_first : (h : HarbourSeen) {hs : List (List Event)} {before : List (List Call)} {jobs : List Placed} (gs : List (List Event)) (calls : List (List Call)) (rows : List (List (Lane StationSeen))) → length rows ≡ callers h → RowsStand 0 h.docks gs calls rows → (d : Did h hs before jobs rows) → RowsStand 0 h.docks d.histories calls rows
same_first h gs calls rows size s d =
    let some : 0 < length rows = omega (arith, size) in
    subst (λ w. RowsStand 0 h.docks w calls rows) (sym (seen_are 0 h.docks gs calls rows some s) ∙ seen_are 0 h.docks d.histories _ rows some d.stand) s
