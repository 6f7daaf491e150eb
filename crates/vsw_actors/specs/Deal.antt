-- What each caller is dealt in a round.
use Rattle.std.specs.Prelude.{◌≡◌, ◌<◌, ◌+◌, ◌^◌, ◌++◌, ℕ, List, [], ◌∷◌, map, length, OnOk, Result, Vec}
use Rattle.vsw_actors.specs.Actors.{placed_of}
use Rattle.vsw_actors.specs.declared.actor.Placed.{Placed}
use Rattle.vsw_port.specs.Calls.{controller_at}
use Rattle.vsw_port.specs.Order.{counted}
use Rattle.vsw_policy.specs.Sound.{Each}
use Rattle.vsw_promise.specs.Jobs as jobs
use Rattle.vsw_many.specs.Dealing as dealing
use Rattle.vsw_actors.specs.Work.{IsWork, job_in}
use Rattle.vsw_actors.specs.declared.work.Work.{Work}

-- shares, as definitions know them: each is a list of jobs with their places
abbrev pub shared : {G : Type 0} → List (Vec (Placed Work) G) → List (List jobs.Placed)
shared vs = map (λ v. map (placed_of job_in) v.items) vs

-- what of these jobs is dealt to whom: to the workers, numbers 0 to 15, and then to these controllers
abbrev pub dealt : List ℕ → List jobs.Placed → List (List jobs.Placed)
dealt cs js = map (λ k. dealing.deal cs k js) (counted 0 (16 + length cs))

-- of whichever jobs these shares are what is dealt, those are what is dealt of them and, behind them, of these
abbrev pub DealsMore : {T E G : Type 0} → Result T E → List ℕ → List jobs.Placed → List (Vec (Placed Work) G) → List (Vec (Placed Work) G) → Type 0
DealsMore r cs more olds news = (js : List jobs.Placed) → shared olds ≡ dealt cs js → OnOk r (shared news ≡ dealt cs (js ++ more))

-- the same beside whichever controllers
abbrev pub DealsBeside : {T E G : Type 0} → Result T E → List jobs.Placed → List (Vec (Placed Work) G) → List (Vec (Placed Work) G) → Type 0
DealsBeside r more olds news = (cs : List ℕ) → DealsMore r cs more olds news

-- and of one piece of work, where this caller is the controller with this number
abbrev pub DealsTo : {T E G : Type 0} → Result T E → (controller caller : ℕ) → Placed Work → List (Vec (Placed Work) G) → List (Vec (Placed Work) G) → Type 0
DealsTo r controller caller work olds news =
    (cs : List ℕ) (js : List jobs.Placed) → shared olds ≡ dealt cs js → controller_at cs controller ≡ caller → OnOk r (shared news ≡ dealt cs (js ++ placed_of job_in work ∷ []))

-- all jobs in the shares may be done, each at one of so many ports
abbrev pub AreWork : {G : Type 0} → ℕ → List ℕ → List (Vec (Placed Work) G) → Type 0
AreWork ports cs vs = Each (λ v. Each (IsWork ports cs) v.items) vs

-- where this piece of work may be done too, and the jobs of these shares, those of those may
abbrev pub TakesWork : {T E G : Type 0} → Result T E → Placed Work → List (Vec (Placed Work) G) → List (Vec (Placed Work) G) → Type 0
TakesWork r work olds news = (ports : ℕ) (cs : List ℕ) → IsWork ports cs work → AreWork ports cs olds → OnOk r (AreWork ports cs news)

-- each share has fewer than 2^32 jobs
abbrev pub AreFew : {G : Type 0} → List (Vec (Placed Work) G) → Type 0
AreFew vs = Each (λ v. length v.items < 2 ^ 32) vs
