-- A port's call, from what its parts ensure.
use Rattle.std.proofs.Common.{◌≡◌, ◌<◌, ℕ, Bool, true, false, List, [], ◌∷◌, ◌++◌, length, Result, Ok, Err, OnOk, refl, ap, ap₂, sym, ◌∙◌, subst}
use Rattle.std.specs.Prelude.{⊤}
use Rattle.vsw_base.specs.declared.fate.Fate.{Fate}
use Rattle.vsw_base.specs.declared.fault.NoMemory.{NoMemory}
use Rattle.vsw_base.specs.declared.flow.Crossing.{Crossing}
use Rattle.vsw_base.specs.Frame.{Parts}
use Rattle.vsw_commandfile.specs.declared.line.Line.{Line}
use Rattle.vsw_port.specs.Calls.{Call, Deed, Ask, Carried, Asked, entries_of, event_of}
use Rattle.vsw_port.specs.Next.{IsDone, IsNext}
use Rattle.vsw_port.specs.Order.{ascending}
use Rattle.vsw_report.specs.Line.{TextLine, text_of}
use Rattle.vsw_policy.specs.declared.refusal.Reply.{Reply}
use Rattle.vsw_policy.specs.Layers.{place_of}
use Rattle.vsw_policy.specs.Sound.{is_listed}
use Rattle.vsw_port.specs.Core.{entered}
use Rattle.vsw_report.specs.declared.told.By.TheVariants as by
use Rattle.vsw_sole.specs.Sole.{SoleSeen}
use Rattle.vsw_report.specs.declared.told.What.TheVariants as what
use Rattle.vsw_switch.specs.Does.{Does, Makes, told_at}
use Rattle.vsw_switch.specs.Switch.{PortNow}
use Rattle.vsw_switch.specs.Tally.{both, tally_of}
use Rattle.vsw_switch.specs.declared.tally.Tally.{Tally}

entered_is : (b : Bool) (d : Deed) (n : ℕ) → entered b (event_of d) ≡ entries_of (record { deed = d; entry = b; count = n } ∷ [])
entered_is true d n = refl
entered_is false d n = refl

-- a port before a call, with room, and after it
pub record Moves (old mid new : SoleSeen) (d : Deed) (entry : Bool) (count : ℕ) : Type 0 where
  pub mid_opening : mid.opening ≡ old.opening
  pub mid_journal : mid.journal ≡ old.journal
  pub count_is : count ≡ length old.journal
  pub opening : new.opening ≡ mid.opening
  pub journal : new.journal ≡ mid.journal ++ entered entry (event_of d)

abbrev pub call_of : Deed → Bool → ℕ → Call
call_of d entry count = record { deed = d; entry = entry; count = count }

opening_is : (old mid new : SoleSeen) (d : Deed) (entry : Bool) (count : ℕ) → Moves old mid new d entry count → new.opening ≡ old.opening
opening_is old mid new d entry count m = m.opening ∙ m.mid_opening

-- whatever count the call has
journal_is : (old mid new : SoleSeen) (d : Deed) (entry : Bool) (count at : ℕ) → Moves old mid new d entry count → new.journal ≡ old.journal ++ entries_of (call_of d entry at ∷ [])
journal_is old mid new d entry count at m = m.journal ∙ ap₂ (λ x y. x ++ y) m.mid_journal (entered_is entry d at)

-- the call of a packet
pub carried : (number mac before : ℕ) (old mid new : SoleSeen) (ws us cs : List (List TextLine)) (tally after last : Tally) (p : PortNow) (x : Crossing) (parts : Parts) (fate : Fate) (bytes : List ℕ) (entry : Bool) (count : ℕ)
    → record { number = number; mac = mac; opening = old.opening; journal = old.journal; before = before; workers = ws; controllers = cs; tally = tally; last = last } ≡ p → after ≡ both tally (tally_of fate)
    → Moves old mid new (Carried x parts fate bytes) entry count → IsNext mid.opening mid.journal (call_of (Carried x parts fate bytes) entry (length mid.journal)) → x.caller < length p.workers
    → us ≡ told_at x.caller (text_of (record { by = by.Worker x.caller; item = x.packet; entry = entry; count = count; what = what.Fate fate bytes })) ws
    → Makes p (call_of (Carried x parts fate bytes) entry (length p.journal)) (record { number = number; mac = mac; opening = new.opening; journal = new.journal; before = before; workers = us; controllers = cs; tally = after; last = last })
carried number mac before old mid new ws us cs tally after last p x parts fate bytes entry count view sums m n lt t =
    let d : Deed = Carried x parts fate bytes in
    let n1 : IsNext old.opening mid.journal (call_of d entry (length mid.journal)) = subst (λ o. IsNext o mid.journal (call_of d entry (length mid.journal))) m.mid_opening n in
    let next : IsNext old.opening old.journal (call_of d entry (length old.journal)) = subst (λ h. IsNext old.opening h (call_of d entry (length h))) m.mid_journal n1 in
    let opening = opening_is old mid new d entry count m in
    let journal = journal_is old mid new d entry count (length old.journal) m in
    let told : us ≡ told_at x.caller (text_of (record { by = by.Worker x.caller; item = x.packet; entry = entry; count = length old.journal; what = what.Fate fate bytes })) ws =
    t ∙ ap (λ k. told_at x.caller (text_of (record { by = by.Worker x.caller; item = x.packet; entry = entry; count = k; what = what.Fate fate bytes })) ws) m.count_is in
    subst (λ (w : PortNow). Makes w (call_of d entry (length w.journal)) (record { number = number; mac = mac; opening = new.opening; journal = new.journal; before = before; workers = us; controllers = cs; tally = after; last = last })) view (record {
      caller = subst (λ (w : PortNow). x.caller < length w.workers) (sym view) lt;
      next = next;
      is = λ i. record { number = number; mac = mac; opening = opening i; journal = journal i; before = before; workers = told i; controllers = cs; tally = sums i; last = last };
    })

-- the call of a command
pub asked : (number mac before : ℕ) (old mid new : SoleSeen) (ws cs ds : List (List TextLine)) (tally last : Tally) (listed : List ℕ) (p : PortNow) (l : Line) (reply : Reply) (entry : Bool) (count place : ℕ) (r : Result ⊤ NoMemory)
    → record { number = number; mac = mac; opening = old.opening; journal = old.journal; before = before; workers = ws; controllers = cs; tally = tally; last = last } ≡ p
    → Moves old mid new (Asked l reply) entry count → IsDone mid.opening mid.journal (Asked l reply) entry → is_listed p.opening.controllers l.controller ≡ true
    → place ≡ place_of l.controller listed → listed ≡ ascending old.opening.controllers
    → OnOk r (ds ≡ told_at place (text_of (record { by = by.Controller l.controller; item = l.number; entry = entry; count = count; what = what.Reply reply })) cs)
    → OnOk r (Does p (Ask l) (record { number = number; mac = mac; opening = new.opening; journal = new.journal; before = before; workers = ws; controllers = ds; tally = tally; last = last }))
asked number mac before old mid new ws cs ds tally last listed p l reply entry count place (Err e) view m d li at lists t = tt
asked number mac before old mid new ws cs ds tally last listed p l reply entry count place (Ok u) view m d li at lists t =
    let done : IsDone old.opening old.journal (Asked l reply) entry = subst (λ o. IsDone o old.journal (Asked l reply) entry) m.mid_opening (subst (λ h. IsDone mid.opening h (Asked l reply) entry) m.mid_journal d) in
    let opening = opening_is old mid new (Asked l reply) entry count m in
    let journal = journal_is old mid new (Asked l reply) entry count count m in
    let there : place ≡ place_of l.controller (ascending old.opening.controllers) = at ∙ ap (place_of l.controller) lists in
    let line : TextLine = text_of (record { by = by.Controller l.controller; item = l.number; entry = entry; count = count; what = what.Reply reply }) in
    let told : ds ≡ told_at (place_of l.controller (ascending old.opening.controllers)) line cs = t ∙ ap (λ k. told_at k line cs) there in
    subst (λ w. Does w (Ask l) (record { number = number; mac = mac; opening = new.opening; journal = new.journal; before = before; workers = ws; controllers = ds; tally = tally; last = last })) view (record {
      call = call_of (Asked l reply) entry count;
      job = refl;
      makes = record {
        caller = subst (λ w. is_listed w.opening.controllers l.controller ≡ true) (sym view) li;
        next = record { last = m.count_is; done = done; shows = tt };
        is = λ i. record { number = number; mac = mac; opening = opening i; journal = journal i; before = before; workers = ws; controllers = told i; tally = tally; last = last };
      };
    })
