-- The summary of rounds: what became of their packets, and how many entries the histories have.
use Rattle.std.specs.Prelude.{ℕ, ◌+◌, List, [], ◌∷◌, ◌++◌, codes, decimal}
use Rattle.vsw_base.specs.declared.fate.Fate.{Fate}
use Rattle.vsw_base.specs.declared.fate.Fate.TheVariants.{Pass, Drop}
use Rattle.vsw_report.specs.declared.round.PortRound.{PortRound}
use Rattle.vsw_report.specs.declared.round.Round.{Round}
use Rattle.vsw_report.specs.declared.told.What.{What}
use Rattle.vsw_report.specs.declared.told.What.TheVariants as what

-- a sum over a list
abbrev pub total : {A : Type 0} → (A → ℕ) → List A → ℕ
total f [] = 0
total f (x ∷ xs) = f x + total f xs

-- one for a packet that passed
abbrev pub passed : Fate → ℕ
passed (Pass len) = 1
passed (Drop cause) = 0

-- one for a packet that was dropped
abbrev pub dropped : Fate → ℕ
dropped (Pass len) = 0
dropped (Drop cause) = 1

-- the length of a packet that passed
abbrev pub size_of : Fate → ℕ
size_of (Pass len) = len
size_of (Drop cause) = 0

-- the same of what a line tells. A command counts as nothing
abbrev pub in_line : (Fate → ℕ) → What → ℕ
in_line f (what.Fate fate bytes) = f fate
in_line f (what.Reply reply) = 0

-- the sum over the lines of a port's round
abbrev pub in_port : (Fate → ℕ) → PortRound → ℕ
in_port f p = total (λ l. in_line f l.what) p.lines

-- over the ports of a round
abbrev pub in_round : (Fate → ℕ) → Round → ℕ
in_round f r = total (in_port f) r.ports

-- over rounds
abbrev pub in_rounds : (Fate → ℕ) → List Round → ℕ
in_rounds f rounds = total (in_round f) rounds

-- the entries of all ports after rounds before which they had so many: those with which the last round ends
abbrev pub entries_after : ℕ → List Round → ℕ
entries_after count [] = count
entries_after count (r ∷ rs) = entries_after (total (λ p. p.after) r.ports) rs

-- a name and a number
abbrev pub count_line : List ℕ → ℕ → List ℕ
count_line name count = name ++ codes " " ++ decimal count ++ codes "\n"

-- five lines: the packets, those that passed, those that were dropped, the entries of all ports, and the bytes that passed
abbrev pub five_lines : (packets pass drop events bytes : ℕ) → List ℕ
five_lines packets pass drop events bytes =
    count_line (codes "packets") packets ++ count_line (codes "pass") pass ++ count_line (codes "drop") drop ++ count_line (codes "events") events ++ count_line (codes "bytes") bytes

-- the summary of the rounds of so many packets
abbrev pub summary_text : ℕ → List Round → List ℕ
summary_text packets rounds = five_lines packets (in_rounds passed rounds) (in_rounds dropped rounds) (entries_after 0 rounds) (in_rounds size_of rounds)
