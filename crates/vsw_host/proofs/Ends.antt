-- The ends of a reading.
use Rattle.std.proofs.Common.{◌≡◌, ℕ, ◌+◌, ◌<◌, ◌≤◌, List, ◌++◌, Option, Some, None, Ok, Err, refl, sym, ◌∙◌, ap, subst, length, take, drop, arith, inr, length-append, add-zero, append_assoc}
use Rattle.std.proofs.Math.Seq.{take-append_seam, take-length}
use Rattle.std.proofs.lemmas.List.{take-append-drop}
use Rattle.vsw_host.specs.Outside.{Inputs, Outside, DoesRead, TellsRead}
use Rattle.vsw_host.specs.Reading.{piece, ReadsFile, TellsFile}
use Rattle.vsw_host.specs.declared.host.Failed.{Failed}
use Rattle.vsw_host.specs.declared.reading.ReadEnd.TheVariants.{Whole, Fault, Long, Memory}
use Rattle.vsw_host.proofs.CallerLemmas.{SameOutputs-trans}
use Rattle.vsw_host.proofs.Going.{Partly, TellsPartly, Going, file-Partly, since-Partly, onward}

told_long : (a b : Option Inputs) (name : List ℕ) (number : ℕ) (got : List ℕ) → TellsPartly a b name number got → TellsFile a b name got Long
told_long None b name number got g = tt
told_long (Some a) None name number got g = absurd g
told_long (Some a) (Some b) name number got g = inr (record { bytes = g.bytes; read = length got; held = g.held; since = g.since; inside = g.inside; gets = g.front })

pub long : (limit : ℕ) (old now : Outside) (name : List ℕ) (number : ℕ) (got : List ℕ) → Going old now name number got → limit < length got → length got ≤ limit + piece → ReadsFile limit old now name got Long
long limit old now name number got g above short = record {
  told = told_long old.inputs now.inputs name number got g.told;
  sized = (above, short);
  fault = λ e. cc;
  later = g.later;
  opens = g.opens;
  outputs = g.outputs;
}

told_fault : (a b c : Option Inputs) (name : List ℕ) (number : ℕ) (got buffer : List ℕ) (e : Failed) → TellsPartly a b name number got → TellsRead b c number buffer (Err e) → TellsFile a c name got Fault
told_fault None b c name number got buffer e g r = tt
told_fault (Some a) None c name number got buffer e g r = absurd g
told_fault (Some a) (Some b) None name number got buffer e g r = absurd r
told_fault (Some a) (Some b) (Some c) name number got buffer e g r =
    let P : Inputs → Type 0 = λ i. Partly a i name number got in
    let p = subst P (sym r) g in
    inr (record { bytes = p.bytes; read = length got; held = p.held; since = p.since; inside = p.inside; gets = p.front })

pub fault : (limit : ℕ) (old now next : Outside) (name : List ℕ) (number : ℕ) (got buffer : List ℕ) (e : Failed) → Going old now name number got → length got ≤ limit → DoesRead now next number buffer (Err e) → ReadsFile limit old next name got Fault
fault limit old now next name number got buffer e g short r = record {
  told = told_fault old.inputs now.inputs next.inputs name number got buffer e g.told r.told;
  sized = short;
  fault = λ same. omega (arith, g.later, r.cause.failed);
  later = omega (arith, g.later, r.cause.later);
  opens = omega (arith, g.opens, r.opens);
  outputs = SameOutputs-trans old now next g.outputs r.outputs;
}

told_memory : (a b : Option Inputs) (name : List ℕ) (number : ℕ) (got more : List ℕ) → TellsPartly a b name number (got ++ more) → TellsFile a b name got Memory
told_memory None b name number got more g = tt
told_memory (Some a) None name number got more g = absurd g
told_memory (Some a) (Some b) name number got more g =
    let read = length (got ++ more) in
    let all : (got ++ more) ++ drop read g.bytes ≡ g.bytes = ap (λ (t : List ℕ). t ++ drop read g.bytes) g.front ∙ take-append-drop read g.bytes in
    let front : got ≡ take (length got) g.bytes = rw (← all, append_assoc) (sym (take-append_seam got (more ++ drop read g.bytes))) in
    inr (record { bytes = g.bytes; read = read; held = g.held; since = g.since; inside = g.inside; gets = (length got, omega (arith, length-append got more), front) })

pub memory : (limit : ℕ) (old now next : Outside) (name : List ℕ) (number : ℕ) (got buffer : List ℕ) (n : ℕ) → Going old now name number got → length got ≤ limit → DoesRead now next number buffer (Ok n) → ReadsFile limit old next name got Memory
memory limit old now next name number got buffer n g short r =
    let more = onward old now next name number got buffer n g r in
    record {
      told = told_memory old.inputs next.inputs name number got (take n buffer) more.told;
      sized = short;
      fault = λ e. cc;
      later = more.later;
      opens = more.opens;
      outputs = more.outputs;
    }

pub told_whole : (a b c : Option Inputs) (name : List ℕ) (number : ℕ) (got buffer : List ℕ) → 0 < length buffer → TellsPartly a b name number got → TellsRead b c number buffer (Ok 0) → TellsFile a c name got Whole
told_whole None b c name number got buffer room g r = tt
told_whole (Some a) None c name number got buffer room g r = absurd g
told_whole (Some a) (Some b) None name number got buffer room g r = absurd r
told_whole (Some a) (Some b) (Some c) name number got buffer room g r =
    let file_is = file-Partly a b c name number got buffer 0 g r in
    let all : length got ≡ length g.bytes = rw file_is at (r.end refl room) in
    inr (record { bytes = g.bytes; read = length got; held = g.held; since = rw (← add-zero (length got)) (since-Partly a b c name number got buffer 0 g r); inside = g.inside; gets = (g.front ∙ rw all (take-length g.bytes), all) })

pub whole : (limit : ℕ) (old now next : Outside) (name : List ℕ) (number : ℕ) (got buffer : List ℕ) (n : ℕ) → Going old now name number got → length got ≤ limit → 0 < length buffer → n ≡ 0 → DoesRead now next number buffer (Ok n) → ReadsFile limit old next name got Whole
whole limit old now next name number got buffer n g short room zero r =
    let P : ℕ → Type 0 = λ k. TellsRead now.inputs next.inputs number buffer (Ok k) in
    record {
      told = told_whole old.inputs now.inputs next.inputs name number got buffer room g.told (subst P zero r.told);
      sized = short;
      fault = λ e. cc;
      later = omega (arith, g.later, r.cause.later);
      opens = omega (arith, g.opens, r.opens);
      outputs = SameOutputs-trans old now next g.outputs r.outputs;
    }
