-- The commands before the packets are no worker's.
use Rattle.std.proofs.Common.{◌≡◌, ◌≢◌, ◌≤◌, ◌<◌, ℕ, suc, ◌==◌, ◌&&◌, not, List, [], ◌∷◌, map, filter, sym, subst, arith}
use Rattle.vsw_commandfile.specs.declared.line.Line.{Line}
use Rattle.vsw_harbour.specs.Turns.{PlacedTurns, placed_before}
use Rattle.vsw_port.specs.Calls.{Ask, Call, Job, calls_of, doer, job_doer, job_of}
use Rattle.vsw_port.specs.declared.event.Event.{Event}
use Rattle.vsw_history_law.proofs.Reports.{doer_job}
use Rattle.vsw_harbour.proofs.Passes.{each_weaker, none_of}
use Rattle.vsw_harbour.proofs.Rounds.{each_place}
use Rattle.vsw_policy.specs.Layers.{place_of}
use Rattle.vsw_policy.specs.Sound.{Each}
use Rattle.vsw_promise.specs.Ports.{PortSeen}
use Rattle.vsw_promise.specs.Jobs.{Placed}
use Rattle.vsw_crew.proofs.Taking.{HasNone}

asks_high : (cs numbers : List ℕ) (ls : List Line) → Each (λ (t : Placed). 16 ≤ job_doer cs t.1) (map (λ l. (place_of l.port numbers, Ask l)) ls)
asks_high cs numbers [] = tt
asks_high cs numbers (l ∷ ls) = (omega arith, asks_high cs numbers ls)

high_calls : (cs : List ℕ) (calls : List Call) (jobs : List Job) → map (λ c. job_of c.deed) calls ≡ jobs → Each (λ j. 16 ≤ job_doer cs j) jobs → Each (λ c. 16 ≤ doer cs c.deed) calls
high_calls cs calls jobs e high = back calls (subst (Each (λ j. 16 ≤ job_doer cs j)) (sym e) high)
  where
    back : (xs : List Call) → Each (λ j. 16 ≤ job_doer cs j) (map (λ c. job_of c.deed) xs) → Each (λ c. 16 ≤ doer cs c.deed) xs
    back [] a = tt
    back (x ∷ xs) a = (subst (λ n. 16 ≤ n) (doer_job cs x.deed) a.0, back xs a.1)

none_high : (cs : List ℕ) (k : ℕ) (calls : List Call) → k < 16 → Each (λ c. 16 ≤ doer cs c.deed) calls → calls_of cs k calls ≡ []
none_high cs k calls lt high = none_of cs k calls (each_weaker (λ c. 16 ≤ doer cs c.deed) (λ c. doer cs c.deed ≢ k) calls (λ c le e. omega (arith, le, e, lt)) high)

idle_at : (cs : List ℕ) (k place : ℕ) (jobs : List Placed) (ps : List PortSeen) (hs ms : List (List Event)) (calls : List (List Call)) → k < 16 → Each (λ t. 16 ≤ job_doer cs t.1) jobs → PlacedTurns place ps jobs hs ms calls → HasNone cs k calls
idle_at cs k place jobs [] [] [] [] lt high t = tt
idle_at cs k place jobs (p ∷ ps) (h ∷ hs) (m ∷ ms) (c ∷ calls) lt high t =
    (none_high cs k c lt (high_calls cs c _ t.0.done.jobs_are (each_place (λ j. 16 ≤ job_doer cs j) place jobs high)), idle_at cs k (suc place) jobs ps hs ms calls lt high t.1)
idle_at cs k place jobs [] (h ∷ hs) ms calls lt high t = absurd t
idle_at cs k place jobs [] [] (m ∷ ms) calls lt high t = absurd t
idle_at cs k place jobs [] [] [] (c ∷ calls) lt high t = absurd t
idle_at cs k place jobs (p ∷ ps) [] ms calls lt high t = absurd t
idle_at cs k place jobs (p ∷ ps) (h ∷ hs) [] calls lt high t = absurd t
idle_at cs k place jobs (p ∷ ps) (h ∷ hs) (m ∷ ms) [] lt high t = absurd t

pub workers_idle : (cs numbers : List ℕ) (lines : List Line) (first k : ℕ) (ps : List PortSeen) (hs ms : List (List Event)) (calls : List (List Call)) → PlacedTurns 0 ps (placed_before numbers lines first) hs ms calls → k < 16 → HasNone cs k calls
workers_idle cs numbers lines first k ps hs ms calls t lt =
    idle_at cs k 0 (placed_before numbers lines first) ps hs ms calls lt (asks_high cs numbers (filter (λ l. (l.at == first) && not l.during) lines)) t
