-- The text of the report. Every line ends with a line feed; numbers are decimal without leading zeros.
use Rattle.std.specs.Prelude.{◌≡◌, ℕ, List, ◌++◌, Bool, true, false, Result, Ok, Err, codes, decimal, ⊤}
use Rattle.std.specs.List.{flat_map}
use Rattle.hex.specs.Hex.{encode_lower}
use Rattle.vsw_base.specs.Fault.{fault_number, fault_name}
use Rattle.vsw_base.specs.declared.fault.NoMemory.{NoMemory}
use Rattle.vsw_base.specs.declared.fault.BadFrame.{BadFrame}
use Rattle.vsw_base.specs.declared.packet.Dir.{Dir}
use Rattle.vsw_base.specs.declared.packet.Dir.TheVariants.{Out, In}
use Rattle.vsw_base.specs.declared.fate.Cause.{Cause}
use Rattle.vsw_base.specs.declared.fate.Cause.TheVariants.{Rule, Default, Long, Full, Taken, Memory}
use Rattle.vsw_base.specs.declared.fate.Fate.{Fate}
use Rattle.vsw_base.specs.declared.fate.Fate.TheVariants.{Pass, Drop}
use Rattle.vsw_policy.specs.Refusals.{refusal_number, refusal_name}
use Rattle.vsw_policy.specs.declared.refusal.Reply.{Reply}
use Rattle.vsw_policy.specs.declared.refusal.Reply.TheVariants as reply
use Rattle.vsw_report.specs.declared.round.Round.{Round}
use Rattle.vsw_report.specs.declared.round.PortRound.{PortRound}
use Rattle.vsw_report.specs.declared.round.Loose.{Loose}
use Rattle.vsw_report.specs.declared.round.LooseCause.{LooseCause}
use Rattle.vsw_report.specs.declared.round.LooseCause.TheVariants.{Snapped, Malformed, NoPort}
use Rattle.vsw_report.specs.declared.told.By.{By}
use Rattle.vsw_report.specs.declared.told.By.TheVariants.{Worker, Controller}
use Rattle.vsw_report.specs.declared.told.ToldLine.{ToldLine}
use Rattle.vsw_report.specs.declared.told.What.{What}
use Rattle.vsw_report.specs.declared.told.What.TheVariants as what

-- the first line of every report
abbrev pub head_line : List ℕ
head_line = codes "vsw report 1\n"

-- two numbers with a slash between: a controller and its layer, or a group and its rule
unfoldable pub layer_text : ℕ → ℕ → List ℕ
layer_text controller layer = decimal controller ++ codes "/" ++ decimal layer

-- a direction, as it ends the cause of a default
unfoldable pub dir_text : Dir → List ℕ
dir_text Out = codes " out"
dir_text In = codes " in"

-- why a packet was dropped
abbrev pub cause_text : Cause → List ℕ
cause_text (Rule controller layer group rule) = codes "rule " ++ layer_text controller layer ++ codes "/" ++ layer_text group rule
cause_text (Default controller layer dir) = codes "default " ++ layer_text controller layer ++ dir_text dir
cause_text Long = codes "long"
cause_text (Full controller layer) = codes "full " ++ layer_text controller layer
cause_text (Taken controller layer pair) = codes "taken " ++ layer_text controller layer ++ codes " " ++ decimal pair
cause_text Memory = codes "memory"

-- a pass with its length and its bytes in hexadecimal, or a drop with its cause
abbrev pub fate_text : Fate → List ℕ → List ℕ
fate_text (Pass len) bytes = codes "pass " ++ decimal len ++ codes " " ++ encode_lower bytes
fate_text (Drop cause) bytes = codes "drop " ++ cause_text cause

-- before the count: an entry, or a read
abbrev pub mark_text : Bool → List ℕ
mark_text true = codes " +"
mark_text false = codes " @"

-- ok, or a refusal with its number and its name
abbrev pub reply_text : Reply → List ℕ
reply_text reply.Ok = codes "ok"
reply_text (reply.Refused why) = codes "refused " ++ decimal (refusal_number why) ++ codes " " ++ refusal_name why

-- what became of a packet, or of a command
abbrev pub what_text : What → List ℕ
what_text (what.Fate fate bytes) = fate_text fate bytes
what_text (what.Reply r) = reply_text r

-- a worker or a controller, by its number
abbrev pub by_text : By → List ℕ
by_text (Worker n) = codes "w" ++ decimal n
by_text (Controller n) = codes "c" ++ decimal n

-- a line: who brought it, the number of the packet or of the command's line, its count, and what became of it
abbrev pub line_text : ToldLine → List ℕ
line_text l = by_text l.by ++ codes " " ++ decimal l.item ++ mark_text l.entry ++ decimal l.count ++ codes " " ++ what_text l.what ++ codes "\n"

-- the end of a malformed packet's line
unfoldable pub fault_text : BadFrame → List ℕ
fault_text fault = codes " malformed " ++ decimal (fault_number fault) ++ codes " " ++ fault_name fault ++ codes "\n"

-- why a packet reached no port, as it ends its line
abbrev pub loose_cause_text : LooseCause → List ℕ
loose_cause_text Snapped = codes " snapped\n"
loose_cause_text (Malformed fault) = fault_text fault
loose_cause_text NoPort = codes " noport\n"

-- a loose packet's line: its number, and why it reached no port
abbrev pub loose_text : Loose → List ℕ
loose_text l = decimal l.packet ++ loose_cause_text l.cause

-- a port's line: its number, and its counts of entries before and after the round
unfoldable pub port_line : ℕ → ℕ → ℕ → List ℕ
port_line port before after = codes "port " ++ decimal port ++ codes " " ++ decimal before ++ codes " " ++ decimal after ++ codes "\n"

-- a port's line, and the lines of its calls
abbrev pub port_text : PortRound → List ℕ
port_text p = port_line p.port p.before p.after ++ flat_map line_text p.lines

-- a round: its first packet, its ports, and its loose packets
abbrev pub round_text : Round → List ℕ
round_text r = codes "round " ++ decimal r.first ++ codes "\n" ++ flat_map port_text r.ports ++ codes "loose\n" ++ flat_map loose_text r.loose

-- the report of these rounds
abbrev pub report_text : List Round → List ℕ
report_text rounds = head_line ++ flat_map round_text rounds

-- all of a text was appended, or nothing where there was no memory
abbrev pub Appended : List ℕ → List ℕ → List ℕ → Result ⊤ NoMemory → Type 0
Appended old new text (Ok u) = new ≡ old ++ text
Appended old new text (Err e) = new ≡ old
