-- What `read_into` finds, and where the reader then stands.
use Rattle.std.proofs.Common.{◌≡◌, List, ℕ, Result, Ok, Err, IfOk, OnOk, OnErr, subst, sym, ap}
use Rattle.vsw_base.specs.declared.fault.NoMemory.{NoMemory}
use Rattle.vsw_pcap.specs.Batch.{found_of, with_next, MovesTo, ReadsInto}
use Rattle.vsw_pcap.specs.Progress.{Progress}
use Rattle.vsw_pcap.specs.Reader.{next_of, after_next, Stands, Moves, Tells}
use Rattle.vsw_pcap.specs.declared.batch.Found.{Found}
use Rattle.vsw_pcap.specs.declared.capture.Record.{Record}
use Rattle.vsw_pcap.specs.declared.reader.Next.{Next}
use Rattle.vsw_pcap.specs.declared.reader.Next.TheVariants as next
use Rattle.vsw_pcap.proofs.Standing.{moves, told, same_end}

-- what is found by this answer of a reader that stood so
moves_found : (p q : Progress) (answer : Next) → Moves p q answer → MovesTo p q (found_of answer)
moves_found p q (next.Record r) m = m
moves_found p q next.More m = m
moves_found p q next.End m = m
moves_found p q (next.Bad bad) m = m

reads_found : (p q : Progress) (bytes : List ℕ) (rs old new : List Record) (answer : Next) → new ≡ with_next answer old → Stands p bytes rs → Moves p q answer → Tells q bytes rs answer → ReadsInto q bytes rs old new (found_of answer)
reads_found p q bytes rs old new (next.Record r) e s m t = (r, e, t)
reads_found p q bytes rs old new next.More e s m t = let P : Progress → Type 0 = λ x. Stands x bytes rs in (e, subst P (sym m) s, t.0, t.1)
reads_found p q bytes rs old new next.End e s m t = let P : Progress → Type 0 = λ x. Stands x bytes rs in (e, subst P (sym m) s, t.0, t.1)
reads_found p q bytes rs old new (next.Bad bad) e s m t = let P : Progress → Type 0 = λ x. Stands x bytes rs in (e, subst P (sym m) s, t.0, t.1)

-- the same of what the reader answers next
moves_same : (p q : Progress) → q ≡ after_next p → Moves p q (next_of p)
moves_same p q e = let P : Progress → Type 0 = λ x. Moves p x (next_of p) in subst P (sym e) (moves p)

tells_same : (p q : Progress) (bytes : List ℕ) (rs : List Record) → q ≡ after_next p → Stands p bytes rs → Tells q bytes rs (next_of p)
tells_same p q bytes rs e s = let P : Progress → Type 0 = λ x. Tells x bytes rs (next_of p) in subst P (sym e) (told p bytes rs s)

-- and of an answer of `read_into`
pub moves_into : (p q : Progress) (r : Result Found NoMemory) → IfOk r (λ found. found ≡ found_of (next_of p)) → OnOk r (q ≡ after_next p) → IfOk r (λ found. MovesTo p q found)
moves_into p q (Ok f) h e = let P : Found → Type 0 = λ x. MovesTo p q x in subst P (sym h) (moves_found p q (next_of p) (moves_same p q e))
moves_into p q (Err x) h e = tt

pub finished_into : (p q : Progress) (r : Result Found NoMemory) → OnOk r (q ≡ after_next p) → OnErr r (q ≡ p) → q.finished ≡ p.finished
finished_into p q (Ok f) e h = same_end p q (next_of p) (moves_same p q e)
finished_into p q (Err x) e h = ap (λ (t : Progress). t.finished) h

pub reads_into : (p q : Progress) (old new : List Record) (r : Result Found NoMemory) → IfOk r (λ found. found ≡ found_of (next_of p)) → OnOk r (q ≡ after_next p) → OnOk r (new ≡ with_next (next_of p) old)
    → IfOk r (λ found. (bytes : List ℕ) (rs : List Record) → Stands p bytes rs → ReadsInto q bytes rs old new found)
reads_into p q old new (Ok f) h e b = λ bytes rs s.
    let P : Found → Type 0 = λ x. ReadsInto q bytes rs old new x in
    subst P (sym h) (reads_found p q bytes rs old new (next_of p) b s (moves_same p q e) (tells_same p q bytes rs e s))
reads_into p q old new (Err x) h e b = tt
