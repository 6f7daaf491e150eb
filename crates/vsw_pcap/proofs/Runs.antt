-- What the runs of a reader answer.
use Rattle.std.proofs.Common.{◌≡◌, ℕ, Bool, true, false, List, [], ◌∷◌, ◌++◌, Option, Some, None, subst, refl, sym, ◌∙◌, ap, append_assoc}
use Rattle.std.proofs.lemmas.List.{append-nil}
use Rattle.vsw_pcap.specs.Capture.{IsCapture}
use Rattle.vsw_pcap.specs.Cutting.{Call, Feed, Finish, Answer, IsRun, bytes_of, answers_of, IsOver, answers_for, RunsRead, CuttingsAgree}
use Rattle.vsw_pcap.specs.Progress.{Progress}
use Rattle.vsw_pcap.specs.Reader.{next_of, after_next, unfed, fed_with, finished_at, Stands, Moves, Tells}
use Rattle.vsw_pcap.specs.declared.capture.Record.{Record}
use Rattle.vsw_pcap.specs.declared.fault.BadTrace.{BadTrace}
use Rattle.vsw_pcap.specs.declared.reader.Next.{Next}
use Rattle.vsw_pcap.specs.declared.reader.Next.TheVariants as next
use Rattle.vsw_pcap.proofs.Standing.{Stands_fed, moves, told, same_end, refused_fed}
use Rattle.vsw_pcap.proofs.Unique.{captures_are_unique}

-- nothing is fed once the bytes are at their end
fed_after_end : (calls : List Call) (p : Progress) → p.finished ≡ true → IsRun p calls → bytes_of calls ≡ []
fed_after_end [] p f run = refl
fed_after_end (Feed piece ∷ calls) p f run = absurd (cc)
fed_after_end (Finish ∷ calls) p f run = fed_after_end calls (finished_at p) refl run
fed_after_end (Answer answer ∷ calls) p f run = fed_after_end calls (after_next p) (same_end p (after_next p) (next_of p) (moves p) ∙ f) run.1

-- what a run answers from here on, up to its end
abbrev Goes : List ℕ → List Record → List Call → Type 0
Goes bytes rs calls = (later : List Record) × (fault : Option BadTrace) × IsCapture (bytes ++ bytes_of calls) (rs ++ later) fault × (answers_of calls ≡ answers_for later fault)

-- what an answer says of a reader that stands so, and how the reader moves
answered : (p : Progress) (bytes : List ℕ) (rs : List Record) (answer : Next) → Stands p bytes rs → answer ≡ next_of p
    → Tells (after_next p) bytes rs answer × Moves p (after_next p) answer
answered p bytes rs answer s e =
    let P : Next → Type 0 = λ a. Tells (after_next p) bytes rs a × Moves p (after_next p) a in
    subst P (sym e) (told p bytes rs s, moves p)

-- a capture that ends here stays it where nothing is fed any more
ends : (bytes more : List ℕ) (rs : List Record) (fault : Option BadTrace) → more ≡ [] → IsCapture bytes rs fault → IsCapture (bytes ++ more) (rs ++ []) fault
ends bytes more rs fault e h =
    let same : bytes ++ more ≡ bytes = ap (λ (t : List ℕ). bytes ++ t) e ∙ append-nil bytes in
    let P : List ℕ × List Record → Type 0 = λ t. IsCapture t.0 t.1 fault in
    let pair : (bytes, rs) ≡ (bytes ++ more, rs ++ []) = let none = append-nil rs in cc in
    subst P pair h

-- a capture that was refused is so with all that is fed
refused : (p : Progress) (bytes : List ℕ) (rs : List Record) (bad : BadTrace) (calls : List Call) (finished : Bool) → p.finished ≡ finished
    → Stands p bytes rs → next.Bad bad ≡ next_of p → IsRun p calls → IsCapture (bytes ++ bytes_of calls) (rs ++ []) (Some bad)
refused p bytes rs bad calls true f s e run = ends bytes (bytes_of calls) rs (Some bad) (fed_after_end calls p f run) (answered p bytes rs (next.Bad bad) s e).0.0
refused p bytes rs bad calls false f s e run =
    let more = bytes_of calls in
    let told = (answered (fed_with more p) (bytes ++ more) rs (next.Bad bad) (Stands_fed p more bytes rs s) (sym (refused_fed p more bad f (sym e)))).0.0 in
    let P : List Record → Type 0 = λ t. IsCapture (bytes ++ more) t (Some bad) in
    subst P (sym (append-nil rs)) told

goes : (calls : List Call) (p : Progress) (bytes : List ℕ) (rs : List Record) → Stands p bytes rs → IsRun p calls → IsOver calls → Goes bytes rs calls
goes [] p bytes rs s run over = absurd over
goes (Feed piece ∷ calls) p bytes rs s run over =
    let g = goes calls (fed_with piece p) (bytes ++ piece) rs (Stands_fed p piece bytes rs s) run.1 over in
    (g.0, g.1, rw append_assoc at g.2, g.3)
goes (Finish ∷ calls) p bytes rs s run over = goes calls (finished_at p) bytes rs (record { gave = s.gave; place = s.place }) run over
goes (Answer (next.Record r) ∷ calls) p bytes rs s run over =
    let g = goes calls (after_next p) bytes (rs ++ r ∷ []) (answered p bytes rs (next.Record r) s run.0).0 run.1 over in
    (r ∷ g.0, g.1, rw append_assoc at g.2, ap (λ (t : List Next). next.Record r ∷ t) g.3)
goes (Answer next.More ∷ calls) p bytes rs s run over =
    let P : Progress → Type 0 = λ t. Stands t bytes rs in
    goes calls (after_next p) bytes rs (subst P (sym (answered p bytes rs next.More s run.0).1) s) run.1 over
goes (Answer next.End ∷ calls) p bytes rs s run over =
    let t = (answered p bytes rs next.End s run.0).0 in
    ([], None, ends bytes (bytes_of calls) rs None (fed_after_end calls (after_next p) t.0 run.1) t.1, refl)
goes (Answer (next.Bad bad) ∷ calls) p bytes rs s run over =
    let same = (answered p bytes rs (next.Bad bad) s run.0).1 in
    let P : Progress → Type 0 = λ t. IsRun t calls in
    ([], Some bad, refused p bytes rs bad calls p.finished refl s run.0 (subst P same run.1), refl)

pub runs_read : RunsRead
runs_read calls run over = goes calls unfed [] [] (record { gave = (refl, refl); place = refl }) run over

pub cuttings_agree : CuttingsAgree
cuttings_agree one two run other over done e =
    let a = runs_read one run over in
    let b = runs_read two other done in
    let P : List ℕ → Type 0 = λ t. IsCapture t b.0 b.1 in
    let same = captures_are_unique (bytes_of one) a.0 b.0 a.1 b.1 a.2 (subst P (sym e) b.2) in
    let records = same.0 in
    let fault = same.1 in
    a.3 ∙ (let answers : answers_for a.0 a.1 ≡ answers_for b.0 b.1 = cc in answers) ∙ sym b.3
