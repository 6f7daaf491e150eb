-- One worker's calls are those worked out.
use Rattle.std.proofs.Common.{◌≡◌, ◌≤◌, ℕ, ◌+◌, Bool, true, false, List, [], ◌∷◌, ◌++◌, length, map, take, refl, ap, sym, ◌∙◌, subst, arith, append_assoc, length-append}
use Rattle.vsw_base.specs.declared.fate.Cause.TheVariants as cause
use Rattle.vsw_base.specs.declared.fate.Fate.{Fate}
use Rattle.vsw_base.specs.declared.fate.Fate.TheVariants.{Pass, Drop}
use Rattle.vsw_base.specs.declared.flow.Crossing.{Crossing}
use Rattle.vsw_base.specs.Frame.{Parts}
use Rattle.vsw_policy.specs.Layer.{LayerSeen}
use Rattle.vsw_policy.specs.Sound.{Each}
use Rattle.vsw_port.specs.declared.event.Event.{Event}
use Rattle.vsw_report.specs.declared.told.What.TheVariants as what
use Rattle.vsw_port.specs.History.{Opening, after, after_all, replay, IsRight, AreRight, AllRight}
use Rattle.vsw_port.specs.Calls.{Deed, Carried, Asked, Call, job_of, entries_of, event_of, next_count, Reads, Wants, Shows, ShowsAt, HasBytes, IsCall, Entry, Read, Short, InOrder}
use Rattle.vsw_port.specs.Next.{IsDone, Enters, Reading, Wanting, IsNext}
use Rattle.vsw_promise.specs.Told.{what_of}
use Rattle.vsw_report.specs.Short.{tells_short}
use Rattle.vsw_promise.specs.Alone.{shown, deed_at, enters_at, call_at, calls_from}
use Rattle.vsw_port.proofs.Calls.{entries_append}
use Rattle.vsw_port.proofs.Next.{take_front}

-- calls one after the other, from a history on
abbrev pub Runs : Opening → List Event → List Call → Type 0
Runs o g [] = Unit {0}
Runs o g (c ∷ cs) = IsNext o g c × Runs o (g ++ entries_of (c ∷ [])) cs

room_if : (c : Call) (cs : List Call) (b : Bool) → c.entry ≡ b → c.count + length (entries_of (c ∷ cs)) ≡ next_count c + length (entries_of cs)
room_if c cs true e = rw e (omega arith)
room_if c cs false e = rw e refl

-- from the low count to the high one there is room for the entries
pub room : (low high : ℕ) (cs : List Call) → InOrder low cs high → low + length (entries_of cs) ≤ high
room low high [] p = omega (arith, p)
room low high (c ∷ cs) p = omega (arith, p.0, room (next_count c) high cs p.1, room_if c cs c.entry refl)

right_at_end : (cs : List ℕ) (ls : List LayerSeen) (g : List Event) (e : Event) (es : List Event) → AreRight cs ls (g ++ e ∷ es) → IsRight cs (after_all cs ls g) e
right_at_end cs ls [] e es a = a.0
right_at_end cs ls (x ∷ g) e es a = right_at_end cs (after cs ls x) g e es a.1

entry_front : (c : Call) (cs : List Call) → c.entry ≡ true → entries_of (c ∷ cs) ≡ event_of c.deed ∷ entries_of cs
entry_front c cs e = rw e refl

done_as : (o : Opening) (g h : List Event) (c : Call) (cs : List Call) → AllRight o h → h ≡ g ++ entries_of (c ∷ cs) → take c.count h ≡ g → IsCall o h c → IsDone o g c.deed c.entry
done_as o g h c cs right e t (Entry i) = Enters i.marked (right_at_end o.controllers o.layers g (event_of c.deed) (entries_of cs) (subst (AllRight o) (e ∙ ap (λ w. g ++ w) (entry_front c cs i.marked)) right))
done_as o g h c cs right e t (Read r) = Reading r.marked (subst (λ w. Reads (replay o w) c.deed) t r.reads)
done_as o g h c cs right e t (Short s) = Wanting s.marked (subst (λ w. Wants (replay o w) c.deed) t s.wants)

next_if : (g : List Event) (c : Call) (b : Bool) → c.entry ≡ b → c.count ≡ length g → next_count c ≡ length (g ++ entries_of (c ∷ []))
next_if g c true e n = rw e (omega (arith, n, length-append g (event_of c.deed ∷ [])))
next_if g c false e n = rw e (omega (arith, n, length-append g []))

-- calls in one order are so
pub runs_of : (o : Opening) (g h : List Event) (cs : List Call) → AllRight o h → h ≡ g ++ entries_of cs → InOrder (length g) cs (length h) → Each (IsCall o h) cs → Each (HasBytes o h) cs → Runs o g cs
runs_of o g h [] right e p calls bytes = tt
runs_of o g h (c ∷ cs) right e p calls bytes =
    let last : c.count ≡ length g = omega (arith, p.0, room (next_count c) (length h) cs p.1, room_if c cs c.entry refl, ap length e, length-append g (entries_of (c ∷ cs))) in
    let t : take c.count h ≡ g = ap (λ n. take n h) last ∙ (ap (take (length g)) e ∙ take_front g (entries_of (c ∷ cs))) in
    let grown : h ≡ (g ++ entries_of (c ∷ [])) ++ entries_of cs = e ∙ (ap (λ w. g ++ w) (entries_append (c ∷ []) cs) ∙ sym (append_assoc g (entries_of (c ∷ [])) (entries_of cs))) in (
      record { last = last; done = done_as o g h c cs right e t calls.0; shows = subst (λ w. ShowsAt (replay o w) c.deed) t bytes.0 },
      runs_of o (g ++ entries_of (c ∷ [])) h cs right grown (subst (λ n. InOrder n cs (length h)) (next_if g c c.entry refl last) p.1) calls.1 bytes.1,
    )

pub shown_is : (ls : List LayerSeen) (x : Crossing) (p : Parts) (fate : Fate) (bytes : List ℕ) → Shows ls x p fate bytes → bytes ≡ shown ls x p fate
shown_is ls x p (Pass len) bytes s = s
shown_is ls x p (Drop cause) bytes s = s

short_fate : (fate : Fate) (bytes : List ℕ) → fate ≡ Drop cause.Memory → tells_short (what.Fate fate bytes) ≡ true
short_fate fate bytes e = rw e refl

-- a deed is as the layers tell, unless memory was wanting
deed_is : (o : Opening) (g : List Event) (d : Deed) (b : Bool) → IsDone o g d b → ShowsAt (replay o g) d → tells_short (what_of d) ≡ false → (d ≡ deed_at o.controllers (replay o g) (job_of d)) × (b ≡ enters_at o.controllers (replay o g) (job_of d))
deed_is o g (Carried x p fate bytes) b (Enters e r) s n =
    (ap (λ w. Carried x p fate w) (shown_is (replay o g) x p fate bytes s) ∙ ap (λ f. Carried x p f (shown (replay o g) x p f)) r.0, e ∙ sym r.1)
deed_is o g (Carried x p fate bytes) b (Reading e r) s n =
    (ap (λ w. Carried x p fate w) (shown_is (replay o g) x p fate bytes s) ∙ ap (λ f. Carried x p f (shown (replay o g) x p f)) r.0, e ∙ sym r.1)
deed_is o g (Carried x p fate bytes) b (Wanting e r) s n = absurd (let t = short_fate fate bytes r.0 in cc (t, n))
deed_is o g (Asked l reply) b (Enters e r) s n = (ap (Asked l) r, e)
deed_is o g (Asked l reply) b (Reading e r) s n = absurd r
deed_is o g (Asked l reply) b (Wanting e r) s n = absurd (let t : tells_short (what_of (Asked l reply)) ≡ true = rw r refl in cc (t, n))

call_is : (o : Opening) (g : List Event) (c : Call) → IsNext o g c → tells_short (what_of c.deed) ≡ false → c ≡ call_at o g (job_of c.deed)
call_is o g c n s =
    let d = deed_is o g c.deed c.entry n.done n.shows s in
    λ i. record { deed = d.0 i; entry = d.1 i; count = n.last i }

-- calls one after the other, for none of which memory was wanting, are those worked out
pub calls_are : (o : Opening) (g : List Event) (cs : List Call) → Runs o g cs → Each (λ c. tells_short (what_of c.deed) ≡ false) cs → cs ≡ calls_from o g (map (λ c. job_of c.deed) cs)
calls_are o g [] r s = refl
calls_are o g (c ∷ cs) r s =
    let first = call_is o g c r.0 s.0 in
    let rest : cs ≡ calls_from o (g ++ entries_of (c ∷ [])) (map (λ c. job_of c.deed) cs) = calls_are o (g ++ entries_of (c ∷ [])) cs r.1 s.1 in
    ap (λ w. w ∷ cs) first ∙ ap (λ w. call_at o g (job_of c.deed) ∷ w) (rest ∙ ap (λ d. calls_from o (g ++ entries_of (d ∷ [])) (map (λ c. job_of c.deed) cs)) first)
