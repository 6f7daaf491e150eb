-- A piece of a share.
use Rattle.vsw_hands.specs.declared.worked.Worked.{Worked}
use Rattle.vsw_hands.specs.declared.worked.Worked.TheVariants.{Done, More}
use Rattle.vsw_crew.specs.Shares.{DoesShare, GoesOn, ShareSeen}
use Rattle.vsw_crew.specs.declared.share.Carried.{Carried}

-- the next packets are carried: the share goes on, or is done
abbrev pub Carries : ShareSeen → Worked ShareSeen Carried → Type 0
Carries s (More now) = GoesOn s now
Carries s (Done told) = DoesShare s told
