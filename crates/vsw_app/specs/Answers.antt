-- The answer of a check, put.
use Rattle.std.specs.Prelude.{◌≡◌, ℕ, Bool, take}
use Rattle.vsw_app.specs.Ending.{answered}
use Rattle.vsw_host.specs.Outside.{Outside, Grows, Rose, SameInputs}
use Rattle.vsw_run.specs.Checks.{answer_text}
use Rattle.vsw_run.specs.declared.ending.Ending.{Ending}
use Rattle.vsw_run.specs.declared.ending.Ending.TheVariants as ending

-- it was put, and the run ends by it; or a front of it was, where the host counted a fault
pub data Puts (old new : Outside) (answer : Bool) (end : Ending) : Type 0 where
  Whole : end ≡ answered answer → Grows old.put new.put (answer_text answer) → Puts old new answer end
  Broken : end ≡ ending.WriteFault → Rose old.put_faults new.put_faults → (count : ℕ) → Grows old.put new.put (take count (answer_text answer)) → Puts old new answer end

-- and nothing else was done
pub record PutsAnswer (old new : Outside) (answer : Bool) (end : Ending) : Type 0 where
  pub puts : Puts old new answer end
  pub inputs : SameInputs old new
  pub complained : new.complained ≡ old.complained
  pub complain_faults : new.complain_faults ≡ old.complain_faults
