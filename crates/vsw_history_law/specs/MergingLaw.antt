-- The lines of a port's calls, merged, are those of the report.
use Rattle.std.specs.Prelude.{◌≡◌, ◌≤◌, ◌<◌, ◌-◌, ℕ, List, ◌++◌, length, map, true}
use Rattle.vsw_policy.specs.Sound.{Each, is_listed}
use Rattle.vsw_port.specs.declared.event.Event.{Event}
use Rattle.vsw_port.specs.Calls.{Call, Deed, Carried, Asked, AreShares, calls_of, controller_at}
use Rattle.vsw_port.specs.History.{Opening}
use Rattle.vsw_port.specs.Next.{Goes}
use Rattle.vsw_port.specs.Order.{ascending, counted}
use Rattle.vsw_report.specs.Line.{TextLine, text_of}
use Rattle.vsw_report.specs.Order.{AllInCounts, in_order}
use Rattle.vsw_promise.specs.Told.{line_of, lines_of}

-- a packet was brought by one of so many workers, a command by a controller of the policy
abbrev pub IsKnown : ℕ → List ℕ → Deed → Type 0
IsKnown workers cs (Carried x p fate bytes) = x.caller < workers
IsKnown workers cs (Asked l reply) = is_listed cs l.controller ≡ true

-- the callers of a port with so many workers: the workers by their numbers, then the controllers by theirs
abbrev pub callers_of : List ℕ → ℕ → List ℕ
callers_of cs workers = counted 0 workers ++ map (controller_at cs) (ascending cs)

-- the lines of each caller's calls, in its order, as texts
abbrev pub texts_of : Opening → ℕ → List Call → List (List TextLine)
texts_of o workers calls = map (λ k. map (λ c. text_of (line_of c)) (calls_of o.controllers k calls)) (callers_of o.controllers workers)

-- the counts of each caller's lines rise, within what the history grew by
abbrev pub CountsStand : Type 0
CountsStand = (o : Opening) (before h : List Event) (workers : ℕ) (calls : List Call) → Goes o before h calls → AllInCounts (length before) (texts_of o workers calls) (length h)

-- merged in the order of counts, they are the lines that the report tells of these calls
abbrev pub MergeTells : Type 0
MergeTells = (o : Opening) (before h : List Event) (workers : ℕ) (calls : List Call) → Goes o before h calls → workers ≤ 16 → Each (λ c. IsKnown workers o.controllers c.deed) calls
    → in_order (texts_of o workers calls) (length before) (length h - length before) ≡ map text_of (lines_of o.controllers calls (length before) (length h - length before))

-- ---- calls that callers made beside each other, each in its own order

abbrev pub CountsStandBeside : Type 0
CountsStandBeside = (o : Opening) (before h : List Event) (workers : ℕ) (calls : List Call) → AreShares o before h calls → AllInCounts (length before) (texts_of o workers calls) (length h)

abbrev pub MergeTellsBeside : Type 0
MergeTellsBeside = (o : Opening) (before h : List Event) (workers : ℕ) (calls : List Call) → AreShares o before h calls → workers ≤ 16 → Each (λ c. IsKnown workers o.controllers c.deed) calls
    → in_order (texts_of o workers calls) (length before) (length h - length before) ≡ map text_of (lines_of o.controllers calls (length before) (length h - length before))

-- the texts hang on each caller's calls alone, not on how they stand among others'
abbrev pub TextsAreByCaller : Type 0
TextsAreByCaller = (o : Opening) (workers : ℕ) (calls others : List Call) → ((k : ℕ) → calls_of o.controllers k others ≡ calls_of o.controllers k calls) → texts_of o workers others ≡ texts_of o workers calls
