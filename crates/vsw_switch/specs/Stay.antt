-- What no call of a switch changes, and what is known of each switch.
use Rattle.std.specs.Prelude.{◌≡◌, ◌≤◌, ◌<◌, ◌^◌, ℕ, List, [], length, map, Option, Some, None, Result, Ok, Err, true}
use Rattle.vsw_port.specs.History.{Opening}
use Rattle.vsw_port.specs.Order.{ascending, counted}
use Rattle.vsw_report.specs.Line.{TextLine}
use Rattle.vsw_pcap.specs.declared.capture.Record.{Record}
use Rattle.vsw_policy.specs.Sound.{Each, are_distinct}
use Rattle.vsw_port.specs.Core.{AreAtMost}
use Rattle.vsw_promise.specs.Ports.{PortSeen}
use Rattle.vsw_promise.specs.Jobs.{aim_of, placed_packet}
use Rattle.vsw_promise.specs.Rounds.{opening_of}
use Rattle.vsw_report.specs.declared.round.LooseCause.{LooseCause}
use Rattle.vsw_switch.specs.Does.{HandsOn}
use Rattle.vsw_switch.specs.Switch.{PortNow}
use Rattle.vsw_switch.specs.Tally.{none}

-- what stays of a port: its number and address, what it began with, and how many workers it has
pub record Standing : Type 0 where
  pub number : ℕ
  pub mac : ℕ
  pub opening : Opening
  pub workers : ℕ

abbrev pub standing : PortNow → Standing
standing p = record { number = p.number; mac = p.mac; opening = p.opening; workers = length p.workers }

-- a port of a policy can be opened: none of its layers has made a pair, and its controllers and rows are as many as a policy may give
pub record CanOpen (p : PortSeen) : Type 0 where
  pub fresh : AreAtMost 0 p.layers
  pub few : length p.controllers ≤ 8
  pub rows : (8 ≤ p.rows) × (p.rows ≤ 16384)

-- a port has lines of the workers that bring it packets, and of its controllers in ascending order, and counts its entries in 32 bits
pub record IsPort (opening : Opening) (listed : List ℕ) (before entries bring : ℕ) (workers controllers : List (List TextLine)) : Type 0 where
  pub brings : bring ≡ length workers
  pub listed_are : listed ≡ ascending opening.controllers
  pub lines : length controllers ≡ length listed
  pub low : before ≤ entries
  pub few : entries < 2 ^ 32

-- ports of these numbers and addresses, no two of one number, with so many workers
pub record ArePorts (workers : ℕ) (numbers macs : List ℕ) (ports : List PortNow) : Type 0 where
  pub some : 0 < workers
  pub numbers_are : numbers ≡ map (λ p. p.number) ports
  pub macs_are : macs ≡ map (λ p. p.mac) ports
  pub callers : Each (λ p. length p.workers ≡ workers) ports
  pub apart : are_distinct numbers ≡ true
  pub few : length macs ≤ 16

-- a port before the first round
abbrev pub port_at_first : ℕ → PortSeen → PortNow
port_at_first workers p = record { number = p.number; mac = p.mac; opening = opening_of p; journal = []; before = 0; workers = map (λ k. []) (counted 0 workers); controllers = map (λ c. []) (ascending p.controllers); tally = none; last = none }

abbrev pub why_of : {A : Type 0} → Result A LooseCause → Option LooseCause
why_of (Err why) = Some why
why_of (Ok a) = None

-- ports before and after packet n, which one of them met and may have handed on to a port of these local addresses, or which is loose
pub record Arrives (workers n : ℕ) (locals macs : List ℕ) (r : Record) (ps qs : List PortNow) (loose : Option LooseCause) : Type 0 where
  pub ports : HandsOn locals (placed_packet workers n r.moment [] (aim_of macs r)) ps qs
  pub why : loose ≡ why_of (aim_of macs r)
