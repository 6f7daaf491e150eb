-- A file that was read, as a run needs it.
use Rattle.std.proofs.Common.{◌≡◌, ◌<◌, ◌≤◌, ◌⊎◌, ◌+◌, ℕ, inl, inr, List, [], ◌∷◌, Option, Some, None, length, take, refl, ap, ◌∙◌, arith}
use Rattle.std.proofs.lemmas.List.{length-take}
use Rattle.vsw_host.specs.Outside.{Opened, Inputs, Outside}
use Rattle.vsw_host.specs.Reading.{piece, ReadsFile, TellsFile}
use Rattle.vsw_host.specs.Told.{ReadsFront, ReadsNothing}
use Rattle.vsw_host.specs.declared.reading.ReadEnd.TheVariants.{Whole, Fault, Long, Memory}
use Rattle.vsw_files.specs.Opened.{OpensFew, OpensOne}
use Rattle.vsw_host.proofs.CallerLemmas.{all-ReadsFile, front-ReadsFile}

-- a file of which these bytes were got
abbrev pub got_of : List ℕ → List ℕ → Opened
got_of name got = record { name = name; bytes = got; read = length got }

pub whole_read : (limit : ℕ) (old new : Outside) (name got : List ℕ) → ReadsFile limit old new name got Whole → OpensOne old.inputs new.inputs name (got_of name got)
whole_read limit old new name got r =
    let all = all-ReadsFile limit old new name got r in
    record { named = refl; since = all.since; held = all.held; within = omega arith }

-- the file of a front that was read
pub front_file : (a b : Option Inputs) (name got : List ℕ) → (r : ReadsFront a b name got) → OpensOne a b name (record { name = name; bytes = r.bytes; read = length got })
front_file a b name got r = record {
  named = refl;
  since = r.since;
  held = r.held;
  within = omega (arith, ap (λ (t : List ℕ). length t) r.front, length-take (length got) r.bytes);
}

-- a file over its limit
pub record IsLong (limit : ℕ) (old new : Option Inputs) (file_name : List ℕ) : Type 0 where
  pub file : Opened
  pub opens : OpensOne old new file_name file
  pub over : limit < file.read
  pub short : file.read ≤ limit + piece

long_of : (limit : ℕ) (a b : Option Inputs) (name got : List ℕ) → limit < length got → length got ≤ limit + piece → ReadsNothing a b got ⊎ ReadsFront a b name got → IsLong limit a b name
long_of limit a b name got over short (inl none) = absurd (omega (arith, over, ap (λ (t : List ℕ). length t) none.nothing))
long_of limit a b name got over short (inr r) = record { file = record { name = name; bytes = r.bytes; read = length got }; opens = front_file a b name got r; over = over; short = short }

pub long_read : (limit : ℕ) (old new : Outside) (name got : List ℕ) → ReadsFile limit old new name got Long → IsLong limit old.inputs new.inputs name
long_read limit old new name got r = long_of limit old.inputs new.inputs name got r.sized.0 r.sized.1 (front-ReadsFile limit old new name got Long (λ e. cc e) r)

fault_of : (limit : ℕ) (a b : Option Inputs) (name got : List ℕ) → length got ≤ limit → ReadsNothing a b got ⊎ ReadsFront a b name got → OpensFew a b name (λ f. f.read ≤ limit)
fault_of limit a b name got few (inl none) = inl none.since
fault_of limit a b name got few (inr r) = inr (record { name = name; bytes = r.bytes; read = length got }, front_file a b name got r, few)

pub fault_read : (limit : ℕ) (old new : Outside) (name got : List ℕ) → ReadsFile limit old new name got Fault → OpensFew old.inputs new.inputs name (λ f. f.read ≤ limit)
fault_read limit old new name got r = fault_of limit old.inputs new.inputs name got r.sized (front-ReadsFile limit old new name got Fault (λ e. cc e) r)

memory_of : (a b : Option Inputs) (name got : List ℕ) → TellsFile a b name got Memory → OpensFew a b name (λ f. Unit {0})
memory_of None b name got t = inl tt
memory_of (Some a) None name got t = absurd t
memory_of (Some a) (Some b) name got (inl none) = absurd (let e = none.fault in cc e)
memory_of (Some a) (Some b) name got (inr one) = inr (record { name = name; bytes = one.bytes; read = one.read }, record { named = refl; since = one.since; held = one.held; within = one.inside }, tt)

pub memory_read : (limit : ℕ) (old new : Outside) (name got : List ℕ) → ReadsFile limit old new name got Memory → OpensFew old.inputs new.inputs name (λ f. Unit {0})
memory_read limit old new name got r = memory_of old.inputs new.inputs name got r.told
