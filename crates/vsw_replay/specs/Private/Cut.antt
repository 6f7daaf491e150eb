-- Where rounds begin.
use Rattle.std.specs.Prelude.{◌≡◌, ◌<◌, ◌≤◌, ◌⊎◌, ◌*◌, ◌==◌, ℕ, List, filter, nat_lt, Bool, true}
use Rattle.std.specs.List.{list_any}
use Rattle.vsw_commandfile.specs.declared.line.Line.{Line}
use Rattle.vsw_promise.specs.Jobs.{cuts}

-- a command names this packet
abbrev pub is_named_by : List Line → ℕ → Bool
is_named_by commands n = list_any (λ l. l.at == n) commands

-- a round begins with this packet, if the trace has it: a command names it, or its number is a multiple of 1,024
abbrev pub IsCut : List Line → ℕ → Type 0
IsCut commands n = (is_named_by commands n ≡ true) ⊎ ((i : ℕ) × (n ≡ 1024 * i))

-- the next such packet
pub record IsNextCut (commands : List Line) (first next : ℕ) : Type 0 where
  pub above : first < next
  pub is_cut : IsCut commands next
  pub least : (n : ℕ) → first < n → IsCut commands n → next ≤ n

-- the cuts of a trace of this many records that lie below a number
abbrev pub cuts_until : List Line → ℕ → ℕ → List ℕ
cuts_until commands total low = filter (λ n. nat_lt n low) (cuts commands total)

-- each packet after this one with which a round may begin lies behind the trace
abbrev pub AreBehind : List Line → ℕ → ℕ → Type 0
AreBehind commands first total = (n : ℕ) → first < n → IsCut commands n → total ≤ n
