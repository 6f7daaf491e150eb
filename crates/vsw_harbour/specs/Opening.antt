-- The ports of a policy file, opened for a run of some workers.
use Rattle.std.specs.Prelude.{◌≡◌, ◌<◌, ◌≤◌, ◌+◌, ◌++◌, ℕ, Bool, List, length, map, replicate}
use Rattle.vsw_harbour.specs.HarbourOpening.{AreOpened}
use Rattle.vsw_port.specs.Order.{ascending}
use Rattle.vsw_harbour.specs.Ports.{OpenSeen}
use Rattle.vsw_config.specs.declared.file.PolicyFile.{PolicyFile}
use Rattle.vsw_config.specs.Good.{IsGoodPolicy}
use Rattle.vsw_promise.specs.declared.port.Port.{Port}
use Rattle.vsw_promise.specs.Ports.{port_seen, ports_of}

-- ports with their numbers and addresses in the policy, still without names, and whether they hand packets on to each other
pub record OpenHarbourSeen : Type 0 where
  pub workers : ℕ
  pub local : Bool
  pub controllers : List ℕ
  pub numbers : List ℕ
  pub macs : List ℕ
  pub ports : List OpenSeen

-- by callers, how many entries each may make where it asks before the packets: a worker none, and a controller one
abbrev pub needs_of : List ℕ → List ℕ
needs_of cs = replicate 16 0 ++ replicate (length cs) 1

-- these are the controllers in ascending order, and the needs of all callers
pub record HasLists (controllers listed asks : List ℕ) : Type 0 where
  pub listed_are : listed ≡ ascending controllers
  pub asks_are : asks ≡ needs_of controllers

-- ports of these numbers and addresses were opened as the file's, with a pass for each of 16 workers and the controllers
pub record ArePortsFor (file : PolicyFile) (numbers macs : List ℕ) (os : List OpenSeen) : Type 0 where
  pub made : List Port
  pub are : map port_seen made ≡ ports_of file
  pub numbers_are : numbers ≡ map (λ p. p.number) made
  pub macs_are : macs ≡ map (λ p. p.mac) made
  pub opened : AreOpened (16 + length file.controllers) made os

-- so they were for two to sixteen workers, where the file has a port
pub record IsOpenFor (workers : ℕ) (file : PolicyFile) (local : Bool) (o : OpenHarbourSeen) : Type 0 where
  pub good : IsGoodPolicy file
  pub some : 0 < length file.ports
  pub more : 2 ≤ workers
  pub most : workers ≤ 16
  pub workers_are : o.workers ≡ workers
  pub local_is : o.local ≡ local
  pub controllers_are : o.controllers ≡ file.controllers
  pub ports_are : ArePortsFor file o.numbers o.macs o.ports
