-- Proper rounds: each number lies in the range of its type; a worker's line tells a fate, with as many bytes as a pass has and none for a
-- drop; a controller's line tells a reply.
use Rattle.std.specs.Prelude.{◌≡◌, ℕ, ◌<◌, ◌^◌, List, [], ◌∷◌, length}
use Rattle.hex.specs.Hex.{IsBytes}
use Rattle.vsw_base.specs.declared.fate.Cause.{Cause}
use Rattle.vsw_base.specs.declared.fate.Cause.TheVariants.{Rule, Default, Long, Full, Taken, Memory}
use Rattle.vsw_base.specs.declared.fate.Fate.{Fate}
use Rattle.vsw_base.specs.declared.fate.Fate.TheVariants.{Pass, Drop}
use Rattle.vsw_report.specs.declared.round.Loose.{Loose}
use Rattle.vsw_report.specs.declared.round.PortRound.{PortRound}
use Rattle.vsw_report.specs.declared.round.Round.{Round}
use Rattle.vsw_report.specs.declared.told.By.{By}
use Rattle.vsw_report.specs.declared.told.By.TheVariants.{Worker, Controller}
use Rattle.vsw_report.specs.declared.told.ToldLine.{ToldLine}
use Rattle.vsw_report.specs.declared.told.What.{What}
use Rattle.vsw_report.specs.declared.told.What.TheVariants as what

-- numbers of controllers, layers, groups and rules have 16 bits, numbers of pairs 32
abbrev pub IsProperCause : Cause → Type 0
IsProperCause (Rule c l g r) = (c < 2 ^ 16) × (l < 2 ^ 16) × (g < 2 ^ 16) × (r < 2 ^ 16)
IsProperCause (Default c l dir) = (c < 2 ^ 16) × (l < 2 ^ 16)
IsProperCause Long = Unit {0}
IsProperCause (Full c l) = (c < 2 ^ 16) × (l < 2 ^ 16)
IsProperCause (Taken c l pair) = (c < 2 ^ 16) × (l < 2 ^ 16) × (pair < 2 ^ 32)
IsProperCause Memory = Unit {0}

-- a pass has as many bytes as its length, a drop none
abbrev pub IsProperFate : Fate → List ℕ → Type 0
IsProperFate (Pass len) bytes = (len < 2 ^ 32) × (length bytes ≡ len) × IsBytes bytes
IsProperFate (Drop cause) bytes = (bytes ≡ []) × IsProperCause cause

-- a worker tells a fate, a controller a reply
abbrev pub Tells : By → What → Type 0
Tells (Worker n) (what.Fate fate bytes) = (n < 2 ^ 32) × IsProperFate fate bytes
Tells (Worker n) (what.Reply r) = ⊥
Tells (Controller n) (what.Fate fate bytes) = ⊥
Tells (Controller n) (what.Reply r) = n < 2 ^ 16

-- numbers of packets, of commands and of entries have 32 bits
abbrev pub IsProperLine : ToldLine → Type 0
IsProperLine l = (l.item < 2 ^ 32) × (l.count < 2 ^ 32) × Tells l.by l.what

-- so it is of each line
abbrev pub AreProperLines : List ToldLine → Type 0
AreProperLines [] = Unit {0}
AreProperLines (l ∷ ls) = IsProperLine l × AreProperLines ls

-- a port's number has 16 bits, its counts of entries 32
abbrev pub IsProperPort : PortRound → Type 0
IsProperPort p = (p.port < 2 ^ 16) × (p.before < 2 ^ 32) × (p.after < 2 ^ 32) × AreProperLines p.lines

-- so it is of each port
abbrev pub AreProperPorts : List PortRound → Type 0
AreProperPorts [] = Unit {0}
AreProperPorts (p ∷ ps) = IsProperPort p × AreProperPorts ps

-- so it is of the number of each loose packet
abbrev pub AreProperLoose : List Loose → Type 0
AreProperLoose [] = Unit {0}
AreProperLoose (l ∷ ls) = (l.packet < 2 ^ 32) × AreProperLoose ls

-- a round, the number of whose first packet has 32 bits, too
abbrev pub IsProper : Round → Type 0
IsProper r = (r.first < 2 ^ 32) × AreProperPorts r.ports × AreProperLoose r.loose

-- so it is of each round
abbrev pub AreProper : List Round → Type 0
AreProper [] = Unit {0}
AreProper (r ∷ rs) = IsProper r × AreProper rs
