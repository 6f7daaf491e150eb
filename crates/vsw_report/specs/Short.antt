-- Lines that tell of want of memory.
use Rattle.std.specs.Prelude.{List, Bool, true, false}
use Rattle.std.specs.List.{list_any}
use Rattle.vsw_base.specs.declared.fate.Cause.TheVariants.{Memory}
use Rattle.vsw_base.specs.declared.fate.Fate.{Fate}
use Rattle.vsw_base.specs.declared.fate.Fate.TheVariants.{Drop}
use Rattle.vsw_policy.specs.declared.refusal.Refusal.TheVariants as refusal
use Rattle.vsw_policy.specs.declared.refusal.Reply.TheVariants.{Refused}
use Rattle.vsw_report.specs.declared.round.PortRound.{PortRound}
use Rattle.vsw_report.specs.declared.round.Round.{Round}
use Rattle.vsw_report.specs.declared.told.What.{What}
use Rattle.vsw_report.specs.declared.told.What.TheVariants as what

-- a packet was dropped for want of memory
abbrev pub drops_short : Fate → Bool
drops_short (Drop Memory) = true
drops_short fate = false

-- so it was, or a command was refused for it
abbrev pub tells_short : What → Bool
tells_short (what.Fate fate bytes) = drops_short fate
tells_short (what.Reply (Refused refusal.Memory)) = true
tells_short (what.Reply reply) = false

-- so it was at a port
abbrev pub is_short_port : PortRound → Bool
is_short_port p = list_any (λ line. tells_short line.what) p.lines

-- at one of the ports
abbrev pub is_short_round : Round → Bool
is_short_round r = list_any is_short_port r.ports

-- in one of the rounds
abbrev pub are_short : List Round → Bool
are_short rounds = list_any is_short_round rounds
