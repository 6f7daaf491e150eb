-- The ports between rounds, whoever runs these.
use Rattle.vsw_crew.specs.Crew.{crew_now}
use Rattle.vsw_replay.specs.declared.runner.Work.{Work}
use Rattle.vsw_replay.specs.declared.runner.Work.TheVariants as work
use Rattle.vsw_crew.specs.Switch.{SwitchNow}

-- as the one thread has them, or as the callers have seen them
abbrev pub now_in : {J G : Type 0} → Work J G → SwitchNow
now_in (work.Alone switch watch) = switch
now_in (work.Beside crew) = crew_now crew
