-- What contracts see of packets that cross a shared port.
use Rattle.vsw_base.specs.declared.flow.Crossing.{Crossing}
use Rattle.vsw_base.specs.Frame.{Parts}
use Rattle.vsw_answer.specs.declared.told.Why.{Why}

-- a packet, and the frame that it is of
pub record UnitSeen : Type 0 where
  pub crossing : Crossing
  pub parts : Parts

-- a packet that no row answered, and why
pub record TicketSeen : Type 0 where
  pub unit : UnitSeen
  pub why : Why
