-- A file that is read in pieces.
use Rattle.std.proofs.Common.{◌≡◌, ℕ, ◌<◌, List, ◌++◌, Option, Some, None, Result, Ok, Err, sym, ap, subst, length, take, arith, length-take}
use Rattle.std.proofs.Math.Seq.{take-length}
use Rattle.vsw_host.specs.Outside.{Inputs, Outside, DoesRead, TellsRead}
use Rattle.vsw_host.specs.Source.{IsNumbered, IsReading, NextPiece}
use Rattle.vsw_host.specs.Told.{ReadsAll, ReadsFront}
use Rattle.vsw_host.specs.declared.host.Failed.{Failed}
use Rattle.vsw_host.proofs.CallerLemmas.{all_told}
use Rattle.vsw_host.proofs.Ends.{told_whole}
use Rattle.vsw_host.proofs.Going.{TellsPartly, told_on}

-- what is known of a file that is read in pieces, in the words of one that is got whole
partly : (a b : Option Inputs) (name : List ℕ) (file : ℕ) (got : List ℕ) → ReadsFront a b name got → IsNumbered a file → TellsPartly a b name file got
partly None b name file got r n = tt
partly (Some a) None name file got r n = absurd r.since
partly (Some a) (Some b) name file got r n = record {
  bytes = r.bytes;
  held = r.held;
  since = r.since;
  next = n;
  inside = omega (arith, length-take (length got) r.bytes, ap (λ (t : List ℕ). length t) r.front);
  front = r.front;
}

front : (a b : Option Inputs) (name : List ℕ) (file : ℕ) (got : List ℕ) → TellsPartly a b name file got → ReadsFront a b name got
front None b name file got t = record { bytes = got; held = tt; since = tt; front = sym (take-length got) }
front (Some a) None name file got t = absurd t
front (Some a) (Some b) name file got t = record { bytes = t.bytes; held = t.held; since = t.since; front = t.front }

-- a piece was read
read : (start old new : Outside) (name : List ℕ) (file : ℕ) (got buffer : List ℕ) (n : ℕ) → DoesRead old new file buffer (Ok n) → IsReading start old name file got → IsReading start new name file (got ++ take n buffer)
read start old new name file got buffer n h r =
    let told = told_on start.inputs old.inputs new.inputs name file got buffer n h.within (partly start.inputs old.inputs name file got r.front r.number) h.told in
    record {
      front = front start.inputs new.inputs name file (got ++ take n buffer) told;
      number = r.number;
      is_open = omega (arith, r.is_open, h.opens);
      later = omega (arith, r.later, h.cause.later);
    }

end : (start old new : Outside) (name : List ℕ) (file : ℕ) (got buffer : List ℕ) (n : ℕ) → 0 < length buffer → n ≡ 0 → DoesRead old new file buffer (Ok n) → IsReading start old name file got → ReadsAll start.inputs new.inputs name got
end start old new name file got buffer n room zero h r =
    let P : ℕ → Type 0 = λ k. TellsRead old.inputs new.inputs file buffer (Ok k) in
    all_told start.inputs new.inputs name got (told_whole start.inputs old.inputs new.inputs name file got buffer room (partly start.inputs old.inputs name file got r.front r.number) (subst P zero h.told))

pub next_read : (old new : Outside) (file : ℕ) (room : List ℕ) (n : ℕ) → 0 < length room → DoesRead old new file room (Ok n) → NextPiece old new file room (Ok n)
next_read old new file room n some h = (
  h.outputs,
  h.within,
  λ start name got r. record {
    reading = read start old new name file got room n h r;
    end = λ none. end start old new name file got room n some (omega (arith, h.within, length-take n room, ap (λ (t : List ℕ). length t) none)) h r;
  },
)

front_same : (a b c : Option Inputs) (name : List ℕ) (file : ℕ) (got room : List ℕ) (e : Failed) → TellsRead b c file room (Err e) → ReadsFront a b name got → ReadsFront a c name got
front_same None b c name file got room e t r = record { bytes = r.bytes; held = tt; since = tt; front = r.front }
front_same (Some a) None c name file got room e t r = absurd r.since
front_same (Some a) (Some b) None name file got room e t r = absurd t
front_same (Some a) (Some b) (Some c) name file got room e t r = subst (λ i. ReadsFront (Some a) (Some i) name got) (sym t) r

pub next_fault : (old new : Outside) (file : ℕ) (room : List ℕ) (e : Failed) → DoesRead old new file room (Err e) → NextPiece old new file room (Err e)
next_fault old new file room e h = (
  h.outputs,
  h.cause.failed,
  λ start name got r. record {
    front = front_same start.inputs old.inputs new.inputs name file got room e h.told r.front;
    number = r.number;
    is_open = omega (arith, r.is_open, h.opens);
    later = omega (arith, r.later, h.cause.later);
  },
)

pub next_by : (old new : Outside) (file : ℕ) (room : List ℕ) (result : Result ℕ Failed) → 0 < length room → DoesRead old new file room result → NextPiece old new file room result
next_by old new file room (Ok n) some h = next_read old new file room n some h
next_by old new file room (Err e) some h = next_fault old new file room e h
