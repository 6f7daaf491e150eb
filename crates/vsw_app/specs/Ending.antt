-- How a run that checks ends by its answer.
use Rattle.std.specs.Prelude.{Bool, true, false}
use Rattle.vsw_run.specs.declared.ending.Ending.{Ending}
use Rattle.vsw_run.specs.declared.ending.Ending.TheVariants as ending

-- whether the report is legal
abbrev pub answered : Bool → Ending
answered true = ending.Done
answered false = ending.Illegal
