-- The end of a round at each port, and the text of the round.
use Rattle.std.specs.Prelude.{ℕ, ◌-◌, List, [], ◌++◌, length, map, Bool, codes, decimal}
use Rattle.std.specs.List.{flat_map, list_any}
use Rattle.vsw_report.specs.Line.{TextLine}
use Rattle.vsw_report.specs.Order.{AllInCounts, emptied, in_order}
use Rattle.vsw_policy.specs.Sound.{Each}
use Rattle.vsw_report.specs.Print.{loose_text, port_line}
use Rattle.vsw_promise.specs.Summary.{total}
use Rattle.vsw_switch.specs.Switch.{PortNow, SwitchNow}
use Rattle.vsw_switch.specs.Tally.{none}
use Rattle.vsw_switch.specs.declared.tally.Tally.{Tally}

-- the counts of each caller's lines never fall, rise after an entry, and lie within the round's
abbrev pub IsCounted : PortNow → Type 0
IsCounted p = AllInCounts p.before (p.workers ++ p.controllers) (length p.journal)

abbrev pub AreCounted : SwitchNow → Type 0
AreCounted s = Each IsCounted s.ports

-- what is told of a port, in the order of the report
abbrev pub lines_now : PortNow → List TextLine
lines_now p = in_order (p.workers ++ p.controllers) p.before (length p.journal - p.before)

-- whether want of memory is told of it
abbrev pub is_short_now : PortNow → Bool
is_short_now p = list_any (λ l. l.short) (lines_now p)

-- its part of the round's text
abbrev pub text_now : PortNow → List ℕ
text_now p = port_line p.number p.before (length p.journal) ++ flat_map (λ l. l.text) (lines_now p)

-- the text of the round of which this is the first packet
abbrev pub round_now : ℕ → SwitchNow → List ℕ
round_now first s = codes "round " ++ decimal first ++ codes "\n" ++ flat_map text_now s.ports ++ codes "loose\n" ++ flat_map loose_text s.loose

-- a port at the beginning of the next round
abbrev pub begun : PortNow → PortNow
begun p = record { number = p.number; mac = p.mac; opening = p.opening; journal = p.journal; before = length p.journal; workers = emptied p.workers; controllers = emptied p.controllers; tally = none; last = p.tally }

abbrev pub next_round : SwitchNow → SwitchNow
next_round s = record { workers = s.workers; locals = s.locals; ports = map begun s.ports; loose = [] }

-- what became of the packets of the round that ended last, at all ports
abbrev pub last_of : List PortNow → Tally
last_of ps = record { pass = total (λ p. p.last.pass) ps; drop = total (λ p. p.last.drop) ps; bytes = total (λ p. p.last.bytes) ps }

-- the entries of all ports
abbrev pub entries_in : List PortNow → ℕ
entries_in ps = total (λ p. length p.journal) ps
