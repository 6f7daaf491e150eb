-- The lines of a port in a round, and their order.
use Rattle.std.specs.Prelude.{ℕ, zero, suc, ◌==◌, ◌&&◌, not, Bool, true, false, List, ◌++◌, map, filter}
use Rattle.std.specs.List.{flat_map}
use Rattle.vsw_report.specs.declared.told.By.{By}
use Rattle.vsw_report.specs.declared.told.By.TheVariants.{Worker, Controller}
use Rattle.vsw_report.specs.declared.told.What.{What}
use Rattle.vsw_report.specs.declared.told.What.TheVariants as what
use Rattle.vsw_report.specs.declared.told.ToldLine.{ToldLine}
use Rattle.vsw_port.specs.Calls.{Deed, Carried, Asked, Call, controller_at, calls_of}
use Rattle.vsw_port.specs.Order.{ascending, counted}

-- who brought it
abbrev pub by_of : Deed → By
by_of (Carried x p fate bytes) = Worker x.caller
by_of (Asked l reply) = Controller l.controller

-- the number of the packet, or of the command's line
abbrev pub item_of : Deed → ℕ
item_of (Carried x p fate bytes) = x.packet
item_of (Asked l reply) = l.number

-- what became of it
abbrev pub what_of : Deed → What
what_of (Carried x p fate bytes) = what.Fate fate bytes
what_of (Asked l r) = what.Reply r

-- the line of a call
abbrev pub line_of : Call → ToldLine
line_of c = record { by = by_of c.deed; item = item_of c.deed; entry = c.entry; count = c.count; what = what_of c.deed }

-- the caller whose line it is
abbrev pub doer_by : List ℕ → By → ℕ
doer_by cs (Worker n) = n
doer_by cs (Controller n) = controller_at cs n

abbrev pub line_doer : List ℕ → ToldLine → ℕ
line_doer cs l = doer_by cs l.by

-- the callers of a port: the workers by their numbers, then the controllers by theirs
abbrev pub callers : List ℕ → List ℕ
callers cs = counted 0 16 ++ map (controller_at cs) (ascending cs)

-- the reads at a count
abbrev pub reads_at : ℕ → List Call → List Call
reads_at n calls = filter (λ c. not c.entry && (c.count == n)) calls

-- the entry of a count
abbrev pub entry_at : ℕ → List Call → List Call
entry_at n calls = filter (λ c. c.entry && (c.count == n)) calls

-- the reads at a count, by callers, each caller's in its order
abbrev pub reads_by_caller : List ℕ → ℕ → List Call → List Call
reads_by_caller cs n calls = flat_map (λ k. reads_at n (calls_of cs k calls)) (callers cs)

-- from this count on, for as many entries as follow: at each count the reads, then its entry. The last count has reads alone
abbrev pub in_told_order : List ℕ → List Call → ℕ → ℕ → List Call
in_told_order cs calls n zero = reads_by_caller cs n calls
in_told_order cs calls n (suc more) = reads_by_caller cs n calls ++ (entry_at n calls ++ in_told_order cs calls (suc n) more)

-- the lines of calls in a round that began with this many entries and had this many more
abbrev pub lines_of : List ℕ → List Call → ℕ → ℕ → List ToldLine
lines_of cs calls before more = map line_of (in_told_order cs calls before more)

-- ---- what lines tell of a packet

-- the line is of a packet, not of a command
abbrev pub is_worker : By → Bool
is_worker (Worker n) = true
is_worker (Controller n) = false

-- the line is of packet n
abbrev pub is_packet : ℕ → ToldLine → Bool
is_packet n l = is_worker l.by && (l.item == n)

-- the fates and bytes of packet n among these lines
abbrev pub fates_in : ℕ → List ToldLine → List What
fates_in n lines = map (λ l. l.what) (filter (is_packet n) lines)
