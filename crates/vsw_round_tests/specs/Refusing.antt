-- A port that has memory for no command.
use Rattle.std.specs.Prelude.{ℕ, List, [], ◌∷◌, true, false}
use Rattle.vsw_round_tests.specs.declared.refusing.Notes.{Notes}
use Rattle.vsw_round_tests.specs.declared.refusing.Refusing.{Refusing}
use Rattle.vsw_commandfile.specs.declared.line.Line.{Line}
use Rattle.vsw_port.specs.Calls.{Job, Ask, Asked, Call}
use Rattle.vsw_many.specs.Passes.{PassNow}
use Rattle.vsw_policy.specs.declared.command.Command.TheVariants.{RemoveLayer}
use Rattle.vsw_policy.specs.declared.refusal.Refusal.TheVariants.{Memory}
use Rattle.vsw_policy.specs.declared.refusal.Reply.TheVariants.{Refused}
use Rattle.vsw_promise.specs.Jobs.{Placed}
use Rattle.vsw_promise.specs.Ports.{PortSeen}

-- the line of this number, of controller 1
abbrev pub line : ℕ → Line
line n = record { number = n; at = 0; during = true; controller = 1; port = 1; command = RemoveLayer 10 }

-- a port of controller 1, without layers
abbrev pub port : Refusing → PortSeen
port p = record { number = p.number; mac = 1; rows = 0; controllers = 1 ∷ []; layers = [] }

-- nothing is ever an entry
abbrev pub pass : Notes → PassNow
pass s = record { number = 16; front = []; receipts = [] }

abbrev pub asked : ℕ → Job
asked n = Ask (line n)

abbrev pub refused : ℕ → Call
refused n = record { deed = Asked (line n) (Refused Memory); entry = false; count = 0 }

abbrev pub tells : Notes → List Call → Type 0
tells s calls = Unit {0}

abbrev pub is_of : Refusing → Notes → Type 0
is_of p s = Unit {0}

abbrev pub permits : Notes → ℕ
permits s = 3

abbrev pub takes : Refusing → ℕ → ℕ → Type 0
takes p place n = Unit {0}

-- it hands nothing on
abbrev pub locals : Refusing → List ℕ
locals p = []

-- a parcel would be a line, at the first port
abbrev pub fits : Refusing → ℕ → ℕ → Type 0
fits p n q = Unit {0}

abbrev pub holds : ℕ → Type 0
holds q = Unit {0}

abbrev pub parcel_in : ℕ → Placed
parcel_in q = (0, asked q)
