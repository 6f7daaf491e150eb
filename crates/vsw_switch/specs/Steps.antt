-- The steps of a round.
use Rattle.std.specs.Prelude.{ℕ, Bool, false, not, List, [], filter, map, option_to_list, if◌then◌else◌}
use Rattle.std.specs.List.{flat_map, slice_get}
use Rattle.vsw_commandfile.specs.declared.line.Line.{Line}
use Rattle.vsw_pcap.specs.declared.capture.Record.{Record}
use Rattle.vsw_promise.specs.Jobs.{loose_among, placed_packets}
use Rattle.vsw_switch.specs.Does.{Hands, Works, macs_in, numbers_in, placed_line}
use Rattle.vsw_switch.specs.Switch.{SwitchNow}

-- the commands at these places of the file
abbrev pub lines_at : List Line → List ℕ → List Line
lines_at lines places = flat_map (λ place. option_to_list (slice_get lines place)) places

-- the command runs beside the packets, or before them
abbrev pub is_when : Bool → Line → Bool
is_when during l = if during then l.during else not l.during

-- of the commands at these places those that run then were asked
abbrev pub AsksAll : SwitchNow → Bool → List Line → List ℕ → SwitchNow → Type 0
AsksAll s during lines places t = Works s (map (placed_line (numbers_in s)) (filter (is_when during) (lines_at lines places))) t

-- these packets were forwarded, each with its number, and handed on
abbrev pub ForwardsAll : SwitchNow → List (ℕ × Record) → SwitchNow → Type 0
ForwardsAll s packets t = Hands s (placed_packets s.workers false (macs_in s) [] packets) (loose_among (macs_in s) packets) t
