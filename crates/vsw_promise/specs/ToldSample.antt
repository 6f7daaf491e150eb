-- Six calls at a port of two controllers, and their lines, worked out by hand.
use Rattle.std.specs.Prelude.{◌≡◌, ℕ, List, [], ◌∷◌, ◌++◌, Bool, true, false, codes}
use Rattle.std.specs.List.{flat_map}
use Rattle.vsw_base.specs.declared.fate.Cause.TheVariants.{Long}
use Rattle.vsw_base.specs.declared.fate.Fate.{Fate}
use Rattle.vsw_base.specs.declared.fate.Fate.TheVariants.{Pass, Drop}
use Rattle.vsw_base.specs.declared.flow.Crossing.{Crossing}
use Rattle.vsw_base.specs.declared.packet.Control.TheVariants as control
use Rattle.vsw_base.specs.declared.packet.Dir.TheVariants.{Out}
use Rattle.vsw_base.specs.Frame.{Parts}
use Rattle.vsw_commandfile.specs.declared.line.Line.{Line}
use Rattle.vsw_policy.specs.declared.command.Command.TheVariants.{RemoveLayer}
use Rattle.vsw_policy.specs.declared.refusal.Refusal.TheVariants as refusal
use Rattle.vsw_policy.specs.declared.refusal.Reply.{Reply}
use Rattle.vsw_policy.specs.declared.refusal.Reply.TheVariants as reply
use Rattle.vsw_port.specs.Calls.{Call, Carried, Asked}
use Rattle.vsw_report.specs.Print.{line_text}
use Rattle.vsw_promise.specs.Told.{lines_of}

-- the policy lists controller 7 before controller 3
abbrev pub controllers : List ℕ
controllers = 7 ∷ 3 ∷ []

abbrev pub parts : Parts
parts = record { stack = []; control = control.None; levels = []; payload = [] }

-- a packet that this worker brings
abbrev pub packet : ℕ → ℕ → Crossing
packet worker n = record { caller = worker; packet = n; id = record { dir = Out; stack = [] }; control = control.None; moment = 0; sizes = record { whole = 0; one = 0; two = 0 } }

abbrev pub carried : ℕ → ℕ → Fate → List ℕ → Bool → ℕ → Call
carried worker n fate bytes entry count = record { deed = Carried (packet worker n) parts fate bytes; entry = entry; count = count }

abbrev pub line : ℕ → ℕ → Line
line controller n = record { number = n; at = 0; during = true; controller = controller; port = 1; command = RemoveLayer 10 }

abbrev pub asked : ℕ → ℕ → Reply → Bool → ℕ → Call
asked controller n reply entry count = record { deed = Asked (line controller n) reply; entry = entry; count = count }

-- two entries, and reads at the counts 0 and 1
abbrev pub sample_calls : List Call
sample_calls = carried 0 0 (Drop Long) [] false 1
    ∷ carried 1 1 (Drop Long) [] false 0
    ∷ carried 0 2 (Pass 2) (0x68 ∷ 0x69 ∷ []) true 1
    ∷ asked 7 1 reply.Ok true 0
    ∷ asked 7 3 (reply.Refused refusal.Memory) false 1
    ∷ asked 3 2 (reply.Refused refusal.Memory) false 1
    ∷ []

-- at each count the reads stand first, those of workers before those of controllers, and controllers by their numbers; then the entry
abbrev pub IsToldSo : Type 0
IsToldSo = flat_map line_text (lines_of controllers sample_calls 0 2) ≡ codes "w1 1 @0 drop long\nc7 1 +0 ok\nw0 0 @1 drop long\nc3 2 @1 refused 10 Memory\nc7 3 @1 refused 10 Memory\nw0 2 +1 pass 2 6869\n"
