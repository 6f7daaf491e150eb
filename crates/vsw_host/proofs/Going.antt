-- A file that is being read.
use Rattle.std.proofs.Common.{◌≡◌, ℕ, ◌+◌, ◌<◌, ◌≤◌, List, [], ◌∷◌, ◌++◌, Option, Some, None, Ok, refl, sym, ◌∙◌, ap, length, take, drop, arith, length-append, length-take}
use Rattle.std.specs.Prelude.{slice_get, slice_set}
use Rattle.std.proofs.Math.Seq.{take-add, set-append_seam}
use Rattle.vsw_host.specs.Outside.{Opened, Inputs, Outside, OpensSince, ReadsOn, SameOutputs, DoesOpen, DoesRead, TellsOpen, TellsRead}
use Rattle.vsw_host.proofs.CallerLemmas.{SameOutputs-trans}

-- a file of this name was opened since, as the last, and what was got is all that was read of it
pub record Partly (old now : Inputs) (file_name : List ℕ) (number : ℕ) (got : List ℕ) : Type 0 where
  pub bytes : List ℕ
  pub held : old.files file_name ≡ Some bytes
  pub since : OpensSince old now (record { name = file_name; bytes = bytes; read = length got } ∷ [])
  pub next : number ≡ length old.opened
  pub inside : length got ≤ length bytes
  pub front : got ≡ take (length got) bytes

abbrev pub TellsPartly : Option Inputs → Option Inputs → List ℕ → ℕ → List ℕ → Type 0
TellsPartly None now name number got = Unit {0}
TellsPartly (Some a) None name number got = ⊥
TellsPartly (Some a) (Some b) name number got = Partly a b name number got

pub record Going (old now : Outside) (name : List ℕ) (number : ℕ) (got : List ℕ) : Type 0 where
  pub told : TellsPartly old.inputs now.inputs name number got
  pub is_open : number < now.opens
  pub opens : old.opens ≤ now.opens
  pub later : old.input_faults ≤ now.input_faults
  pub outputs : SameOutputs old now

told_start : (a b : Option Inputs) (name : List ℕ) (number : ℕ) → TellsOpen a b name (Ok number) → TellsPartly a b name number []
told_start None b name number h = tt
told_start (Some a) None name number h = absurd h
told_start (Some a) (Some b) name number h = record { bytes = h.bytes; held = h.held; since = h.since; next = h.next; inside = omega arith; front = refl }

pub start : (old now : Outside) (name : List ℕ) (number : ℕ) → DoesOpen old now name (Ok number) → Going old now name number []
start old now name number h = record {
  told = told_start old.inputs now.inputs name number h.told;
  is_open = omega (arith, h.number.0, h.number.1);
  opens = omega (arith, h.number.1);
  later = h.cause.later;
  outputs = h.outputs;
}

slice_get-append_seam : (xs : List Opened) (x : Opened) → slice_get (xs ++ x ∷ []) (length xs) ≡ Some x
slice_get-append_seam [] x = refl
slice_get-append_seam (y ∷ ys) x = slice_get-append_seam ys x

-- the file that a step reads is the one that was opened last
pub file-Partly : (a b c : Inputs) (name : List ℕ) (number : ℕ) (got buffer : List ℕ) (n : ℕ) (p : Partly a b name number got) (r : ReadsOn b c number buffer n) → r.file ≡ record { name = name; bytes = p.bytes; read = length got }
file-Partly a b c name number got buffer n p r =
    let file : Opened = record { name = name; bytes = p.bytes; read = length got } in
    let found : slice_get b.opened number ≡ Some file = rw (p.since.opened, p.next) (slice_get-append_seam a.opened file) in
    cc (r.found, found)

-- a step leaves it read so far, as the last
pub since-Partly : (a b c : Inputs) (name : List ℕ) (number : ℕ) (got buffer : List ℕ) (n : ℕ) (p : Partly a b name number got) (r : ReadsOn b c number buffer n) → OpensSince a c (record { name = name; bytes = p.bytes; read = length got + n } ∷ [])
since-Partly a b c name number got buffer n p r =
    let at : ℕ → Opened = λ k. record { name = name; bytes = p.bytes; read = k } in
    let moved : c.opened ≡ slice_set (a.opened ++ at (length got) ∷ []) (length a.opened) (at (length got + n)) = r.opened ∙ rw (file-Partly a b c name number got buffer n p r, p.since.opened, p.next) refl in
    record { files = r.files ∙ p.since.files; opened = moved ∙ set-append_seam a.opened (at (length got)) [] (at (length got + n)) }

partly_on : (a b c : Inputs) (name : List ℕ) (number : ℕ) (got buffer : List ℕ) (n : ℕ) → n ≤ length buffer → Partly a b name number got → ReadsOn b c number buffer n → Partly a c name number (got ++ take n buffer)
partly_on a b c name number got buffer n le p r =
    let file_is = file-Partly a b c name number got buffer n p r in
    let front : take n buffer ≡ take n (drop (length got) p.bytes) = r.front ∙ rw file_is refl in
    let inside : length got + n ≤ length p.bytes = rw file_is at r.inside in
    let longer : length (got ++ take n buffer) ≡ length got + n = omega (arith, length-append got (take n buffer), length-take n buffer) in
    let joined : got ++ take n buffer ≡ take (length got + n) p.bytes = ap (λ (t : List ℕ). t ++ take n buffer) p.front ∙ ap (λ (t : List ℕ). take (length got) p.bytes ++ t) front ∙ sym (take-add (length got) n p.bytes) in
    record {
      bytes = p.bytes;
      held = p.held;
      since = rw longer (since-Partly a b c name number got buffer n p r);
      next = p.next;
      inside = omega (arith, inside, longer);
      front = joined ∙ ap (λ (k : ℕ). take k p.bytes) (sym longer);
    }

pub told_on : (a b c : Option Inputs) (name : List ℕ) (number : ℕ) (got buffer : List ℕ) (n : ℕ) → n ≤ length buffer → TellsPartly a b name number got → TellsRead b c number buffer (Ok n) → TellsPartly a c name number (got ++ take n buffer)
told_on None b c name number got buffer n le g r = tt
told_on (Some a) None c name number got buffer n le g r = absurd g
told_on (Some a) (Some b) None name number got buffer n le g r = absurd r
told_on (Some a) (Some b) (Some c) name number got buffer n le g r = partly_on a b c name number got buffer n le g r

pub onward : (old now next : Outside) (name : List ℕ) (number : ℕ) (got buffer : List ℕ) (n : ℕ) → Going old now name number got → DoesRead now next number buffer (Ok n) → Going old next name number (got ++ take n buffer)
onward old now next name number got buffer n g r = record {
  told = told_on old.inputs now.inputs next.inputs name number got buffer n r.within g.told r.told;
  is_open = omega (arith, g.is_open, r.opens);
  opens = omega (arith, g.opens, r.opens);
  later = omega (arith, g.later, r.cause.later);
  outputs = SameOutputs-trans old now next g.outputs r.outputs;
}
