-- Several calls of a host, one after another: what they tell is joined. For callers of `read_file`.
use Rattle.std.proofs.Common.{◌≡◌, ◌⊎◌, ℕ, ◌≤◌, List, [], ◌∷◌, ◌++◌, Option, Some, None, refl, sym, ◌∙◌, ap, inl, inr, arith, subst, length, take, take_all, append_assoc, append-nil}
use Rattle.std.proofs.Math.Seq.{take-length}
use Rattle.std.proofs.lemmas.List.{length-take-le}
use Rattle.vsw_host.specs.Outside.{Opened, Inputs, Outside, SameInputs, SameOutputs}
use Rattle.vsw_host.specs.Reading.{Gets, ReadsFile, TellsFile}
use Rattle.vsw_host.specs.Told.{TellsHeld, TellsSince, ReadsAll, ReadsFront, ReadsNothing}
use Rattle.vsw_host.specs.declared.reading.ReadEnd.{ReadEnd}
use Rattle.vsw_host.specs.declared.reading.ReadEnd.TheVariants.{Whole, Fault, Long, Memory}

pub TellsSince-refl : (a : Option Inputs) → TellsSince a a []
TellsSince-refl None = tt
TellsSince-refl (Some a) = record { files = refl; opened = sym (append-nil a.opened) }

pub TellsSince-trans : (a b c : Option Inputs) (xs ys : List Opened) → TellsSince a b xs → TellsSince b c ys → TellsSince a c (xs ++ ys)
TellsSince-trans None b c xs ys p q = tt
TellsSince-trans (Some a) None c xs ys p q = absurd p
TellsSince-trans (Some a) (Some b) None xs ys p q = absurd q
TellsSince-trans (Some a) (Some b) (Some c) xs ys p q = record {
  files = q.files ∙ p.files;
  opened = q.opened ∙ ap (λ (l : List Opened). l ++ ys) p.opened ∙ append_assoc a.opened xs ys;
}

-- puts and complaints open nothing
pub TellsSince-SameInputs : (a b : Outside) → SameInputs a b → TellsSince a.inputs b.inputs []
TellsSince-SameInputs a b same = let P : Option Inputs → Type 0 = λ i. TellsSince a.inputs i [] in subst P (sym same.inputs) (TellsSince-refl a.inputs)

-- what is held later was held before
pub TellsHeld-before : (a b : Option Inputs) (xs : List Opened) (name bytes : List ℕ) → TellsSince a b xs → TellsHeld b name bytes → TellsHeld a name bytes
TellsHeld-before None b xs name bytes p h = tt
TellsHeld-before (Some a) None xs name bytes p h = absurd p
TellsHeld-before (Some a) (Some b) xs name bytes p h = ap (λ f. f name) (sym p.files) ∙ h

pub SameOutputs-refl : (a : Outside) → SameOutputs a a
SameOutputs-refl a = record { put = refl; complained = refl; put_faults = refl; complain_faults = refl }

pub SameOutputs-trans : (a b c : Outside) → SameOutputs a b → SameOutputs b c → SameOutputs a c
SameOutputs-trans a b c p q = record { put = q.put ∙ p.put; complained = q.complained ∙ p.complained; put_faults = q.put_faults ∙ p.put_faults; complain_faults = q.complain_faults ∙ p.complain_faults }

pub all_told : (a b : Option Inputs) (name got : List ℕ) → TellsFile a b name got Whole → ReadsAll a b name got
all_told None b name got t = record { held = tt; since = tt }
all_told (Some a) None name got t = absurd t
all_told (Some a) (Some b) name got (inl none) = absurd (let e = none.fault in cc)
all_told (Some a) (Some b) name got (inr one) =
    let read : record { name = name; bytes = one.bytes; read = one.read } ≡ record { name = name; bytes = got; read = length got } = rw (one.gets.1, one.gets.0) refl in
    record {
      held = one.held ∙ ap Some (sym one.gets.0);
      since = record { files = one.since.files; opened = one.since.opened ∙ ap (λ (x : Opened). a.opened ++ x ∷ []) read };
    }

-- a file that was read whole
pub all-ReadsFile : (limit : ℕ) (a b : Outside) (name got : List ℕ) → ReadsFile limit a b name got Whole → ReadsAll a.inputs b.inputs name got
all-ReadsFile limit a b name got r = all_told a.inputs b.inputs name got r.told

front_of : (end : ReadEnd) (bytes : List ℕ) (read : ℕ) (got : List ℕ) → (end ≡ Memory → ⊥) → read ≤ length bytes → Gets end bytes read got → got ≡ take read bytes
front_of Whole bytes read got kept inside g = g.0 ∙ sym (take_all read bytes (omega (arith, g.1)))
front_of Fault bytes read got kept inside g = g
front_of Long bytes read got kept inside g = g
front_of Memory bytes read got kept inside g = absurd (kept refl)

front_told : (a b : Option Inputs) (name got : List ℕ) (end : ReadEnd) → (end ≡ Memory → ⊥) → TellsFile a b name got end → ReadsNothing a b got ⊎ ReadsFront a b name got
front_told None b name got end kept t = inr (record { bytes = got; held = tt; since = tt; front = sym (take-length got) })
front_told (Some a) None name got end kept t = absurd t
front_told (Some a) (Some b) name got end kept (inl none) = inl (record { since = none.since; nothing = none.gets })
front_told (Some a) (Some b) name got end kept (inr one) =
    let front = front_of end one.bytes one.read got kept one.inside one.gets in
    let count : one.read ≡ length got = sym (ap (λ (l : List ℕ). length l) front ∙ length-take-le one.read one.bytes one.inside) in
    inr (record {
      bytes = one.bytes;
      held = one.held;
      since = record { files = one.since.files; opened = one.since.opened ∙ ap (λ (k : ℕ). a.opened ++ record { name = name; bytes = one.bytes; read = k } ∷ []) count };
      front = front ∙ ap (λ (k : ℕ). take k one.bytes) count;
    })

-- a file that was read as far as it was got, since memory didn't end it
pub front-ReadsFile : (limit : ℕ) (a b : Outside) (name got : List ℕ) (end : ReadEnd) → (end ≡ Memory → ⊥) → ReadsFile limit a b name got end → ReadsNothing a.inputs b.inputs got ⊎ ReadsFront a.inputs b.inputs name got
front-ReadsFile limit a b name got end kept r = front_told a.inputs b.inputs name got end kept r.told
