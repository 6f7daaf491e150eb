-- Words that are complained piece by piece.
use Rattle.std.specs.Prelude.{◌≡◌, ◌≤◌, ℕ, List, take, Result, Ok, Err, ⊤, decimal}
use Rattle.vsw_host.specs.Outside.{Outside, Rose, Grows, SameInputs}
use Rattle.vsw_host.specs.declared.host.Failed.{Failed}
use Rattle.vsw_config.specs.Path.{word_text}
use Rattle.vsw_config.specs.declared.fault.Step.{Step}
use Rattle.vsw_config.specs.declared.fault.Step.TheVariants.{Member, Place}

-- nothing was put
pub record KeepsPut (old new : Outside) : Type 0 where
  pub put : new.put ≡ old.put
  pub put_faults : new.put_faults ≡ old.put_faults

-- a piece of the words was complained, or a front of it where the host counted a fault
abbrev pub Says : Outside → Outside → List ℕ → Result ⊤ Failed → Type 0
Says old new words (Ok u) = Grows old.complained new.complained words
Says old new words (Err e) = (n : ℕ) × Grows old.complained new.complained (take n words) × Rose old.complain_faults new.complain_faults

-- and nothing else was done
pub record Speaks (old new : Outside) (words : List ℕ) (result : Result ⊤ Failed) : Type 0 where
  pub says : Says old new words result
  pub later : old.complain_faults ≤ new.complain_faults
  pub inputs : SameInputs old new
  pub put : KeepsPut old new

-- a step of a path without its slash
abbrev pub name_text : Step → List ℕ
name_text (Member word) = word_text word
name_text (Place place) = decimal place
