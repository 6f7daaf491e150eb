-- What contracts see of what is told of a packet.
use Rattle.std.specs.Prelude.{ℕ, Bool, Option}
use Rattle.vsw_base.specs.declared.fate.Fate.{Fate}
use Rattle.vsw_answer.specs.declared.told.Why.{Why}

-- what a packet's caller is told: its fate, its place in the history as an entry or a read, why no row answered, and whether its frame
-- leaves as it came
pub record AnswerSeen : Type 0 where
  pub fate : Fate
  pub count : ℕ
  pub entry : Bool
  pub why : Option Why
  pub own : Bool
