-- Under a port's lock.
use Rattle.std.proofs.Common.{◌≡◌, inl, inr, ◌<◌, ◌+◌, ◌==◌, ℕ, List, [], ◌∷◌, Bool, true, false, refl, sym, ◌∙◌, ap, subst}
use mathlib.Core.List.{IsPrefix}
use Rattle.vsw_base.specs.declared.fate.Fate.{Fate}
use Rattle.vsw_base.specs.declared.flow.Crossing.{Crossing}
use Rattle.vsw_base.specs.Frame.{Parts}
use Rattle.std.specs.Prelude.{OnOk, Result, Ok, Err}
use Rattle.vsw_base.specs.declared.fault.NoMemory.{NoMemory}
use Rattle.vsw_core.specs.Core.{CoreSeen}
use Rattle.vsw_port.specs.declared.event.Event.{Event}
use Rattle.vsw_port.specs.Calls.{Carried, entries_naming, named}
use Rattle.vsw_port.specs.History.{AllRight, Opening, replay}
use Rattle.vsw_port.specs.Next.{IsDone}
use Rattle.vsw_port.specs.Next.IsDone.{Enters, Reading, Wanting}
use Rattle.vsw_live.specs.Meeting.{Meets}
use Rattle.vsw_live.specs.Ports.{PortSeen, StandsAt}
use Rattle.vsw_live.specs.Private.Locked.{HasLookup, IsFateAt, IsLocked, Stays}
use Rattle.vsw_table.specs.Held as held
use Rattle.vsw_table.specs.Rules as table
use Rattle.vsw_policy.specs.Sound.{Each}
use Rattle.vsw_flows.specs.Flows.{IsOf, Looking, Writing}
use Rattle.vsw_rows.specs.GoodRows.{opening_of}

-- a packet that was done has the fate of its crossing, or memory was wanting
pub fate_is : (o : Opening) (h : List Event) (x : Crossing) (p : Parts) (fate : Fate) (bytes : List ℕ) (entry : Bool) → IsDone o h (Carried x p fate bytes) entry → IsFateAt (replay o h) x fate
fate_is o h x p fate bytes entry (Enters e r) = inl r.0
fate_is o h x p fate bytes entry (Reading e r) = inl r.0
fate_is o h x p fate bytes entry (Wanting e w) = inr w.0

naming_if : (cs : List ℕ) (n : ℕ) (e : Event) (h : List Event) (b : Bool) → (named cs e == n) ≡ b → table.by_caller (λ e. named cs e) n h ≡ entries_naming cs n h → table.by_caller (λ e. named cs e) n (e ∷ h) ≡ entries_naming cs n (e ∷ h)
naming_if cs n e h true is more = rw is (ap (λ w. e ∷ w) more)
naming_if cs n e h false is more = rw is more

-- the entries that name a caller
naming_is : (cs : List ℕ) (n : ℕ) (h : List Event) → table.by_caller (λ e. named cs e) n h ≡ entries_naming cs n h
naming_is cs n [] = refl
naming_is cs n (e ∷ h) = naming_if cs n e h (named cs e == n) refl (naming_is cs n h)

below_all : (cs : List ℕ) (n : ℕ) (h : List Event) → table.AllBelow (λ e. named cs e) n h → Each (λ e. named cs e < n) h
below_all cs n [] a = tt
below_all cs n (e ∷ h) a = (a.0, below_all cs n h a.1)

-- what a core's grant tells is that the pass met the port
pub meets_of : (l : Looking) (n more : ℕ) (h : List Event) (w p q : Writing) → w.view.history ≡ h → w.view.passes ≡ n → IsPrefix p.view.front q.view.front
    → q ≡ record p { view = record p.view { front = h; permits = p.view.permits + more; shown = table.counted_record h } } → held.Meets (λ o e. named o.controllers e) l.1 w.view q.view → AllRight (opening_of l.1) h
    → Meets (record { port = record { looking = l; passes = n }; history = h }) more p q
meets_of l n more h w p q history passes seen is m right = record {
  table = ap (λ (v : Writing). v.table) is;
  number = ap (λ (v : Writing). v.view.number) is;
  opens = ap (λ (v : Writing). v.view.opening) is;
  seen = subst (IsPrefix p.view.front) (ap (λ (v : Writing). v.view.front) is) seen;
  front = ap (λ (v : Writing). v.view.front) is;
  receipts = ap (λ (v : Writing). v.view.receipts) is;
  own = m.receipts ∙ (ap (λ k. table.by_caller (λ e. named l.1.controllers e) q.view.number k) history ∙ naming_is l.1.controllers q.view.number h);
  permits = ap (λ (v : Writing). v.view.permits) is;
  named = below_all l.1.controllers n h (subst (λ k. table.AllBelow (λ e. named l.1.controllers e) k h) passes (subst (λ k. table.AllBelow (λ e. named l.1.controllers e) w.view.passes k) history m.named));
  right = right;
}

same_port : (ports : List PortSeen) (place : ℕ) (a b : PortSeen) → StandsAt ports place a → StandsAt ports place b → a ≡ b
same_port ports place a b p q = cc (sym p ∙ q)

-- what lies under the lock of the port with this lookup
pub of_lookup : (ports : List PortSeen) (place : ℕ) (l : Looking) (v : Writing) → IsLocked ports place v → HasLookup ports place l → IsOf l v
of_lookup ports place l v i has = subst (λ (a : PortSeen). IsOf a.looking v) (same_port ports place i.port (record { looking = l; passes = has.0 }) i.there has.1) i.of

pub right_there : (ports : List PortSeen) (place : ℕ) (l : Looking) (v : Writing) → IsLocked ports place v → HasLookup ports place l → AllRight (opening_of l.1) v.view.history
right_there ports place l v i has = subst (λ (a : PortSeen). AllRight (opening_of a.looking.1) v.view.history) (same_port ports place i.port (record { looking = l; passes = has.0 }) i.there has.1) i.right

pub counts_there : (ports : List PortSeen) (place n : ℕ) (l : Looking) (v : Writing) → IsLocked ports place v → StandsAt ports place (record { looking = l; passes = n }) → v.view.passes ≡ n
counts_there ports place n l v i there = i.counts ∙ ap (λ (a : PortSeen). a.passes) (same_port ports place i.port (record { looking = l; passes = n }) i.there there)

-- it stays so
pub locked_on : (ports : List PortSeen) (place : ℕ) (l : Looking) (v w : Writing) → IsLocked ports place v → HasLookup ports place l → Stays v w → AllRight (opening_of l.1) w.view.history → IsLocked ports place w
locked_on ports place l v w i has s right =
    let of = of_lookup ports place l v i has in record {
      port = record { looking = l; passes = has.0 };
      there = has.1;
      of = record { table = s.table ∙ of.table; opens = s.opens ∙ of.opens };
      counts = s.passes ∙ counts_there ports place has.0 l v i has.1;
      right = right;
    }

pub stays_same : (v w : Writing) → w ≡ v → Stays v w
stays_same v w e = record { table = ap (λ (u : Writing). u.table) e; opens = ap (λ (u : Writing). u.view.opening) e; passes = ap (λ (u : Writing). u.view.passes) e }

pub stays_trans : (u v w : Writing) → Stays u v → Stays v w → Stays u w
stays_trans u v w a b = record { table = b.table ∙ a.table; opens = b.opens ∙ a.opens; passes = b.passes ∙ a.passes }

pub granted : (r : Result (Unit {0}) NoMemory) (ports : List PortSeen) (place : ℕ) (core : CoreSeen) (s : ℕ × CoreSeen) (l : Looking) (more : ℕ) (k : List ℕ) (w p q : Writing) → (place, core) ≡ s → IsLocked ports place core.writer → HasLookup ports s.0 l
    → OnOk r (w ≡ record core.writer { view = record core.writer.view { kept = k } }) → OnOk r (q ≡ record p { view = record p.view { front = core.writer.view.history; permits = p.view.permits + more; shown = table.counted_record core.writer.view.history } })
    → OnOk r (held.Meets (λ o e. named o.controllers e) l.1 w.view q.view) → OnOk r (AllRight (opening_of l.1) w.view.history) → OnOk r (IsPrefix p.view.front q.view.front)
    → OnOk r ((n : ℕ) → StandsAt ports s.0 (record { looking = l; passes = n }) → Meets (record { port = record { looking = l; passes = n }; history = s.1.writer.view.history }) more p q)
granted r ports place core s l more k w p q at i has0 = subst (λ t. HasLookup ports t.0 l
    → OnOk r (w ≡ record core.writer { view = record core.writer.view { kept = k } }) → OnOk r (q ≡ record p { view = record p.view { front = core.writer.view.history; permits = p.view.permits + more; shown = table.counted_record core.writer.view.history } })
    → OnOk r (held.Meets (λ o e. named o.controllers e) l.1 w.view q.view) → OnOk r (AllRight (opening_of l.1) w.view.history) → OnOk r (IsPrefix p.view.front q.view.front)
    → OnOk r ((n : ℕ) → StandsAt ports t.0 (record { looking = l; passes = n }) → Meets (record { port = record { looking = l; passes = n }; history = t.1.writer.view.history }) more p q)) at (here r) has0
  where
    here : (r : Result (Unit {0}) NoMemory) → HasLookup ports place l → OnOk r (w ≡ record core.writer { view = record core.writer.view { kept = k } }) → OnOk r (q ≡ record p { view = record p.view { front = core.writer.view.history; permits = p.view.permits + more; shown = table.counted_record core.writer.view.history } })
        → OnOk r (held.Meets (λ o e. named o.controllers e) l.1 w.view q.view) → OnOk r (AllRight (opening_of l.1) w.view.history) → OnOk r (IsPrefix p.view.front q.view.front)
        → OnOk r ((n : ℕ) → StandsAt ports place (record { looking = l; passes = n }) → Meets (record { port = record { looking = l; passes = n }; history = core.writer.view.history }) more p q)
    here (Ok u) has a b m right seen = λ n there. meets_of l n more core.writer.view.history w p q (ap (λ (v : Writing). v.view.history) a) (ap (λ (v : Writing). v.view.passes) a ∙ counts_there ports place n l core.writer i there) seen b m (subst (AllRight (opening_of l.1)) (ap (λ (v : Writing). v.view.history) a) right)
    here (Err e) has a b m right seen = tt
