-- What does not change in a run: the workers, the ports and the controllers.
use Rattle.std.specs.Prelude.{◌≡◌, ◌<◌, ◌≤◌, ◌+◌, ℕ, List, [], ◌∷◌, length, map, replicate, ◌++◌, true}
use Rattle.vsw_commandfile.specs.declared.line.Line.{Line}
use Rattle.vsw_dock.specs.ActorsDone.{AreAlike, locals_at}
use Rattle.vsw_dock.specs.Docks.{locals, port_in}
use Rattle.vsw_dock.specs.Seen.{DockSeen}
use Rattle.vsw_port.specs.Order.{ascending}
use Rattle.vsw_policy.specs.Obey.{rules_given}
use Rattle.vsw_policy.specs.Sound.{Each, IsGoodRule, are_distinct, is_listed}
use Rattle.vsw_promise.specs.Ports.{PortSeen, ports_of}
use Rattle.vsw_dock.specs.Handing.{locals_of}
use Rattle.vsw_promise.specs.Jobs.{Setting}
use Rattle.vsw_promise.specs.Rounds.{opening_of}

pub record HarbourSeen : Type 0 where
  pub workers : ℕ
  pub docks : List DockSeen
  pub controllers : List ℕ

-- the workers 0 to 15 and the controllers, whether they are there or not
abbrev pub callers : HarbourSeen → ℕ
callers h = 16 + length h.controllers

abbrev pub ports_in : List DockSeen → List PortSeen
ports_in ds = map port_in ds

-- the addresses of the ports to which the docks hand packets on
abbrev pub locals_in : List DockSeen → List ℕ
locals_in ds = locals_at locals ds

-- by callers, how many entries each may make where it asks before the packets: a controller one
abbrev pub asks_of : HarbourSeen → List ℕ
asks_of h = replicate 16 0 ++ replicate (length h.controllers) 1

-- a line that a controller here asks a port here, with good rules
pub record MayAsk (h : HarbourSeen) (l : Line) : Type 0 where
  pub port : is_listed (map (λ d. d.number) h.docks) l.port ≡ true
  pub controller : is_listed h.controllers l.controller ≡ true
  pub rules : Each IsGoodRule (rules_given l.command)

-- two to sixteen workers, and some ports, of these numbers and addresses, no two of one number, with the same controllers and a pass for each caller,
-- which hand packets on to the same ports
pub record IsHarbour (h : HarbourSeen) (numbers macs listed asks : List ℕ) : Type 0 where
  pub more : 2 ≤ h.workers
  pub most : h.workers ≤ 16
  pub numbers_are : numbers ≡ map (λ d. d.number) h.docks
  pub macs_are : macs ≡ map (λ d. d.mac) h.docks
  pub apart : are_distinct numbers ≡ true
  pub some : 0 < length h.docks
  pub few : length h.docks ≤ 16
  pub listed_are : listed ≡ ascending h.controllers
  pub asks_are : asks ≡ asks_of h
  pub callers_few : length h.controllers ≤ 8
  pub controllers_are : Each (λ d. d.live.looking.1.controllers ≡ h.controllers) h.docks
  pub passes : Each (λ d. d.live.passes ≡ 16 + length h.controllers) h.docks
  pub alike : AreAlike locals h.docks

-- a dock is this port of the policy, but for how many rows it has
pub record IsLike (p : PortSeen) (d : DockSeen) : Type 0 where
  pub number : p.number ≡ d.number
  pub mac : p.mac ≡ d.mac
  pub opening : opening_of p ≡ opening_of (port_in d)

abbrev pub AreLike : List PortSeen → List DockSeen → Type 0
AreLike [] [] = Unit {0}
AreLike (p ∷ ps) (d ∷ ds) = IsLike p d × AreLike ps ds
AreLike _ _ = ⊥

-- the harbour of a run
pub record IsOfRun (h : HarbourSeen) (s : Setting) : Type 0 where
  pub workers : s.workers ≡ h.workers
  pub ports : AreLike (ports_of s.policy) h.docks
  pub controllers : s.policy.controllers ≡ h.controllers
  -- it hands packets on to its own ports, if it does
  pub locals : locals_in h.docks ≡ locals_of s
