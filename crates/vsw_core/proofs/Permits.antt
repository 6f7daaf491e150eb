-- The journal has room for all entries that passes may make.
use Rattle.std.proofs.Common.{◌≡◌, ◌≤◌, ◌<◌, ◌+◌, ◌-◌, ◌++◌, ℕ, zero, suc, List, [], ◌∷◌, length, set, get_or, slice_set, sym, ap, ◌∙◌, arith}
use Rattle.vsw_core.specs.Calls.{grown}
use Rattle.vsw_core.specs.Core.{IsOwned, total}
use Rattle.vsw_port.specs.declared.event.Event.{Event}
use Rattle.vsw_table.specs.Rules.{permits_of}
use Rattle.vsw_port.specs.Ledger.{LedgerSeen}
use Rattle.vsw_flows.specs.Flows.{Writing}

pub at_most_total : (ns : List ℕ) (k : ℕ) → get_or ns k 0 ≤ total ns
at_most_total [] k = omega arith
at_most_total (n ∷ ns) zero = omega arith
at_most_total (n ∷ ns) (suc k) = let ih = at_most_total ns k in omega (arith, ih)

-- one number becomes another
pub total_set : (ns : List ℕ) (k x : ℕ) → total (set ns k x) + get_or ns k 0 ≤ total ns + x
total_set [] k x = omega arith
total_set (n ∷ ns) zero x = omega arith
total_set (n ∷ ns) (suc k) x = let ih = total_set ns k x in omega (arith, ih)

-- who has a permit finds room for an entry
pub has_permit : (c : LedgerSeen) (w : Writing) (permits n k : ℕ) → IsOwned c w permits → k ≡ permits_of w.view n → 0 < k → (1 ≤ permits) × (1 ≤ c.room)
has_permit c w permits n k o held some =
    let few = at_most_total w.view.kept n in
    let one : 1 ≤ permits = omega (arith, few, held, some, o.granted) in
    (one, omega (arith, one, o.room))

-- the permits of one pass are now x
pub owned_as : (c d : LedgerSeen) (w v : Writing) (n x permits now : ℕ) → IsOwned c w permits → v.view.opening ≡ w.view.opening → d.opening ≡ c.opening → d.journal ≡ v.view.history → v.view.kept ≡ slice_set w.view.kept n x
    → permits + x ≤ now + permits_of w.view n → now ≤ d.room → IsOwned d v now
owned_as c d w v n x permits now o opens opening journal kept even room = record {
  opening = λ p is. opening ∙ o.opening p (sym opens ∙ is);
  journal = journal;
  granted = let change = total_set w.view.kept n x in rw kept (omega (arith, change, even, o.granted));
  room = room;
}

-- the pass has made these entries
pub owned_grown : (c d : LedgerSeen) (w v s : Writing) (permits now : ℕ) (es : List Event) → IsOwned c w permits → s.view.permits ≡ permits_of w.view s.view.number → v ≡ record w { view = grown w.view s.view es v.view } → d.opening ≡ c.opening → d.journal ≡ c.journal ++ es
    → c.room ≤ d.room + length es → length es ≤ s.view.permits → now + length es ≡ permits → IsOwned d v now
owned_grown c d w v s permits now es o held is opening journal room few even =
    owned_as c d w v s.view.number (s.view.permits - length es) permits now o (ap (λ (u : Writing). u.view.opening) is) opening (journal ∙ (ap (λ (h : List Event). h ++ es) o.journal ∙ sym (ap (λ (u : Writing). u.view.history) is))) (ap (λ (u : Writing). u.view.kept) is)
    (omega (arith, held, few, even)) (omega (arith, room, even, o.room))
