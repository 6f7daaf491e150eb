-- Calls at the end of a history.
use Rattle.std.proofs.Common.{◌≡◌, ◌<◌, ◌+◌, ◌-◌, ℕ, List, [], ◌∷◌, ◌++◌, Bool, true, false, length, take, refl, sym, ◌∙◌, ap, subst, arith, length-append}
use mathlib.Core.List.{IsPrefix}
use Rattle.vsw_core.specs.Calls.{called}
use Rattle.vsw_port.specs.declared.event.Event.{Event}
use Rattle.vsw_port.specs.Calls.{Call, Deed, HasBytes, IsCall, ShowsAt, entries_of, event_of, next_count}
use Rattle.vsw_port.specs.History.{AllRight, Opening, replay}
use Rattle.vsw_port.specs.Next.{IsDone, IsNext}
use Rattle.vsw_port.proofs.Fronts.{prefix_length, prefix_trans}
use Rattle.vsw_port.proofs.Next.{goes_none, goes_on, take_front}
use Rattle.vsw_live.specs.Calls.{Crosses, one_if}
use Rattle.vsw_table.specs.Rules.{counted_record}
use Rattle.vsw_port.specs.Core.{entered}
use Rattle.vsw_flows.specs.Flows.{Writing}

entered_is : (d : Deed) (entry : Bool) (count : ℕ) → entries_of (record { deed = d; entry = entry; count = count } ∷ []) ≡ entered entry (event_of d)
entered_is d true count = refl
entered_is d false count = refl

spent : (e : Event) (entry : Bool) (n : ℕ) → 0 < n → n ≡ (n - length (entered entry e)) + one_if entry
spent e true n some_left = omega (arith, some_left)
spent e false n some_left = omega arith

ends : (d : Deed) (entry : Bool) (count : ℕ) (h : List Event) → count ≡ length h → next_count (record { deed = d; entry = entry; count = count }) ≡ length (h ++ entered entry (event_of d))
ends d true count h e = omega (arith, e, length-append h (event_of d ∷ []))
ends d false count h e = omega (arith, e, length-append {A = Event} h [])

-- the layers after the history that stood before the last call
pub taken_front : (h es : List Event) (count : ℕ) → count ≡ length h → take count (h ++ es) ≡ h
taken_front h es count e = ap (λ n. take n (h ++ es)) e ∙ take_front h es

-- a call at the end of the journal, by a pass that has seen a beginning of it
crosses_end : (o : Opening) (h : List Event) (p : Writing) (d : Deed) (entry : Bool) (count : ℕ) → AllRight o h → IsPrefix p.view.front h → count ≡ length h → IsDone o h d entry → 0 < p.view.permits
    → ShowsAt (replay o h) d → Crosses o p (record p { view = called p.view (h ++ entered entry (event_of d)) (entered entry (event_of d)) }) (record { deed = d; entry = entry; count = count })
crosses_end o h p d entry count right seen many done some_left shows =
    let c : Call = record { deed = d; entry = entry; count = count } in
    let next : IsNext o h c = record { last = many; done = done; shows = shows } in
    let g = goes_on o h h [] c (goes_none o h right) next in
    let same : h ++ entries_of (c ∷ []) ≡ h ++ entered entry (event_of d) = ap (λ es. h ++ es) (entered_is d entry count) in record {
      table = refl;
      number = refl;
      opens = refl;
      seen = prefix_trans p.view.front h (h ++ entered entry (event_of d)) seen (entered entry (event_of d), refl);
      call = subst (λ k. IsCall o k c) same g.each.0;
      shows = subst (λ k. HasBytes o k c) same g.bytes.0;
      low = omega (arith, prefix_length p.view.front h seen, many);
      last = ends d entry count h many;
      receipts = ap (λ es. p.view.receipts ++ es) (sym (entered_is d entry count));
      permits = spent (event_of d) entry p.view.permits some_left;
    }

-- the same of a call as a core tells it
pub crosses_at : (o : Opening) (h k : List Event) (p q : Writing) (d : Deed) (e : Event) (entry : Bool) (count : ℕ) → AllRight o h → IsPrefix p.view.front h → count ≡ length h → event_of d ≡ e → IsDone o h d entry → 0 < p.view.permits
    → k ≡ h ++ entered entry e → q ≡ record p { view = called p.view k (entered entry e) }
    → HasBytes o q.view.front (record { deed = d; entry = entry; count = count }) → Crosses o p q (record { deed = d; entry = entry; count = count })
crosses_at o h k p q d e entry count right seen many named done some_left grown is shows =
    let c : Call = record { deed = d; entry = entry; count = count } in
    let q_is : q ≡ record p { view = called p.view (h ++ entered entry (event_of d)) (entered entry (event_of d)) } =
    is ∙ (ap (λ (f : List Event). record p { view = called p.view f (entered entry e) }) grown ∙ ap (λ (v : Event). record p { view = called p.view (h ++ entered entry v) (entered entry v) }) (sym named)) in
    let front_is : take count q.view.front ≡ h = ap (λ (w : Writing). take count w.view.front) q_is ∙ taken_front h (entered entry (event_of d)) count many in
    let here : ShowsAt (replay o h) d = subst (λ f. ShowsAt (replay o f) d) front_is shows in
    subst (λ w. Crosses o p w c) (sym q_is) (crosses_end o h p d entry count right seen many done some_left here)

-- the same where the pass has met the journal first
pub crosses_met : (o : Opening) (h g k : List Event) (p m q : Writing) (d : Deed) (e : Event) (entry : Bool) (count : ℕ) → AllRight o h → IsPrefix p.view.front h → count ≡ length h → g ≡ h → m ≡ record p { view = record p.view { front = h; shown = counted_record h } }
    → event_of d ≡ e → IsDone o g d entry → 0 < p.view.permits → k ≡ g ++ entered entry e → q ≡ record m { view = called m.view k (entered entry e) }
    → HasBytes o q.view.front (record { deed = d; entry = entry; count = count }) → Crosses o p q (record { deed = d; entry = entry; count = count })
crosses_met o h g k p m q d e entry count right seen many same met named done some_left grown is shows =
    crosses_at o h k p q d e entry count right seen many named (subst (λ f. IsDone o f d entry) same done) some_left (grown ∙ ap (λ f. f ++ entered entry e) same)
    (is ∙ ap (λ (w : Writing). record w { view = called w.view k (entered entry e) }) met) shows

-- what the pass has seen before the call
pub met_front : (h g k es : List Event) (m q : Writing) (count : ℕ) → count ≡ length h → g ≡ h → k ≡ g ++ es → q ≡ record m { view = called m.view k es } → take count q.view.front ≡ h
met_front h g k es m q count many same grown is = ap (λ (w : Writing). take count w.view.front) is ∙ (ap (λ f. take count f) grown ∙ (ap (λ f. take count (f ++ es)) same ∙ taken_front h es count many))
