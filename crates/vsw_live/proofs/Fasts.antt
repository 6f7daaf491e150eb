-- A packet that a row answers, and one that looked in vain.
use Rattle.std.proofs.Common.{◌≡◌, ◌≤◌, inl, ℕ, List, [], ◌∷◌, ◌++◌, Bool, false, None, length, take, refl, sym, ◌∙◌, ap, subst, arith}
use mathlib.Core.List.{IsPrefix}
use Rattle.vsw_answer.specs.Answers.{Answers, HitsInTime}
use Rattle.vsw_base.specs.declared.fate.Fate.{Fate}
use Rattle.vsw_base.specs.declared.flow.Crossing.{Crossing}
use Rattle.vsw_base.specs.declared.header.Header.{Header}
use Rattle.vsw_flows.specs.Flows.{Looking, Writing}
use Rattle.vsw_port.specs.declared.event.Event.{Event}
use Rattle.vsw_port.specs.Calls.{Call, Carried, IsRead, Reads, Shows, entries_of}
use Rattle.vsw_port.specs.Calls.IsCall.{Read}
use Rattle.vsw_port.specs.History.{Opening, replay}
use Rattle.vsw_port.proofs.Fronts.{append_end, prefix_length, prefix_trans}
use Rattle.vsw_live.specs.declared.answer.Fast.TheVariants.{Done}
use Rattle.vsw_answer.specs.declared.told.Why.{Why}
use Rattle.vsw_answer.specs.declared.told.Why.TheVariants.{Control, Miss, Late, Light}
use Rattle.vsw_live.specs.Calls.{Causes, Crosses, HasCause, IsFast, KeepsLook, Looks}
use Rattle.vsw_live.specs.Private.Locked.{IsFateAt}
use Rattle.vsw_answer.specs.Seen.{AnswerSeen}
use Rattle.vsw_live.specs.Seen.{UnitSeen}
use Rattle.vsw_table.specs.Held as held
use Rattle.vsw_port.specs.declared.crossing.Outcome.{Outcome}
use Rattle.vsw_rows.specs.GoodRows.{opening_of}
use Rattle.vsw_answer.specs.Transit.{bytes_in}

take_whole : {A : Type 0} (xs : List A) → take (length xs) xs ≡ xs
take_whole [] = refl
take_whole (x ∷ xs) = ap (λ ys. x ∷ ys) (take_whole xs)

-- the layers that answered a read are those of all that its pass has seen
whole : (o : Opening) (h : List Event) (count : ℕ) → count ≡ length h → replay o h ≡ replay o (take count h)
whole o h count e = ap (replay o) (sym (ap (λ n. take n h) e ∙ take_whole h))

reads_at : (o : Opening) (p q : Writing) (u : UnitSeen) (fate : Fate) (own : Bool) (count : ℕ) (out : List ℕ) → q.table ≡ p.table → held.IsRead p.view q.view → count ≡ length q.view.front → Reads (replay o q.view.front) (Carried u.crossing u.parts fate (bytes_in own u.parts fate out))
    → Shows (replay o q.view.front) u.crossing u.parts fate (bytes_in own u.parts fate out)
    → Crosses o p q (record { deed = Carried u.crossing u.parts fate (bytes_in own u.parts fate out); entry = false; count = count }) × IsRead o q.view.front (record { deed = Carried u.crossing u.parts fate (bytes_in own u.parts fate out); entry = false; count = count })
reads_at o p q u fate own count out table is many reads shows =
    let h = q.view.front in
    let read : IsRead o h (record { deed = Carried u.crossing u.parts fate (bytes_in own u.parts fate out); entry = false; count = count }) = record { marked = refl; within = omega (arith, many); reads = subst (λ ls. Reads ls (Carried u.crossing u.parts fate (bytes_in own u.parts fate out))) (whole o h count many) reads } in
    let low : length p.view.front ≤ count = omega (arith, many, prefix_length p.view.front h is.1) in
    let permits : q.view.permits ≡ p.view.permits = ap (λ v. v.permits) is.0 in (
      record {
        table = table;
        number = ap (λ v. v.number) is.0;
        opens = ap (λ v. v.opening) is.0;
        seen = is.1;
        call = Read read;
        shows = subst (λ ls. Shows ls u.crossing u.parts fate (bytes_in own u.parts fate out)) (whole o h count many) shows;
        low = low;
        last = many;
        receipts = ap (λ v. v.receipts) is.0 ∙ sym (append_end p.view.receipts);
        permits = omega (arith, permits);
      },
      read,
    )

pub fate_read : (l : Looking) (x : Crossing) (q : Writing) (edited : List Header) (outcome : Outcome) (count : ℕ) (u : UnitSeen) → Answers l x q.view edited outcome count → IsFateAt (replay (opening_of l.1) q.view.front) x outcome.fate
fate_read l x q edited outcome count u t = inl (t.reads u.parts []).0

done_so : (l : Looking) (p q : Writing) (u : UnitSeen) (edited : List Header) (outcome : Outcome) (count : ℕ) (out : List ℕ) (entry : Bool) → q.table ≡ p.table → held.IsRead p.view q.view → Answers l u.crossing q.view edited outcome count → HitsInTime l u.crossing p.view q.view
    → Shows (replay (opening_of l.1) q.view.front) u.crossing u.parts outcome.fate (bytes_in outcome.own u.parts outcome.fate out) → entry ≡ false → IsFast l u p q out (Done (record { fate = outcome.fate; count = count; entry = entry; why = None; own = outcome.own }))
done_so l p q u edited outcome count out entry table is t hit shows none =
    let r = reads_at (opening_of l.1) p q u outcome.fate outcome.own count out table is t.counted (t.reads u.parts (bytes_in outcome.own u.parts outcome.fate out)) shows in
    subst (λ e. IsFast l u p q out (Done (record { fate = outcome.fate; count = count; entry = e; why = None; own = outcome.own }))) (sym none) (r.0, r.1, refl, record { control = t.control; hit = hit; read = refl })

-- what a row answered, told of the packet as the unit has it
pub done_fast : (l : Looking) (p q : Writing) (u : UnitSeen) (x : Crossing) (edited : List Header) (outcome : Outcome) (count : ℕ) (out : List ℕ) (a : AnswerSeen) → x ≡ u.crossing → q.table ≡ p.table → held.IsRead p.view q.view → Answers l x q.view edited outcome count → HitsInTime l x p.view q.view
    → Shows (replay (opening_of l.1) q.view.front) u.crossing u.parts outcome.fate (bytes_in outcome.own u.parts outcome.fate out) → a ≡ record { fate = outcome.fate; count = count; entry = outcome.entry; why = None; own = outcome.own } → IsFast l u p q out (Done a)
done_fast l p q u x edited outcome count out a same table is t hit shows told =
    subst (λ b. IsFast l u p q out (Done b)) (sym told) (done_so l p q u edited outcome count out outcome.entry table is (subst (λ y. Answers l y q.view edited outcome count) same t) (subst (λ y. HitsInTime l y p.view q.view) same hit) shows t.entry)

-- a call after a look is one of the pass as it was before the look
pub look_first : (o : Opening) (p m q : Writing) (c : Call) → Looks p m → Crosses o m q c → Crosses o p q c
look_first o p m q c k x =
    let is = k.reads in
    let permits : m.view.permits ≡ p.view.permits = ap (λ v. v.permits) is.0 in record {
      table = x.table ∙ k.table;
      number = x.number ∙ ap (λ v. v.number) is.0;
      opens = x.opens ∙ ap (λ v. v.opening) is.0;
      seen = prefix_trans p.view.front m.view.front q.view.front is.1 x.seen;
      call = x.call;
      shows = x.shows;
      low = omega (arith, x.low, prefix_length p.view.front m.view.front is.1);
      last = x.last;
      receipts = x.receipts ∙ ap (λ v. v.receipts ++ entries_of (c ∷ [])) is.0;
      permits = sym permits ∙ x.permits;
    }

causes_on : (l : Looking) (x : Crossing) (p m q : Writing) (h : List Event) (why : Why) → Causes l x p.view m.view h why → KeepsLook m.view q.view → Causes l x p.view q.view h why
causes_on l x p m q h Control c k = (c.0, k.looks ∙ c.1)
causes_on l x p m q h Light c k = absurd c
causes_on l x p m q h Miss c k = record { control = c.control; begun = omega (arith, c.begun, k.looks); missed = rw k.last c.missed }
causes_on l x p m q h Late c k = record { control = c.control; begun = omega (arith, c.begun, k.looks); row = c.row; hit = rw k.last c.hit; id = c.id; good = c.good; late = c.late }

pub cause_of : (l : Looking) (x : Crossing) (p m q : Writing) (why : Why) → IsPrefix p.view.front m.view.front → IsPrefix m.view.front q.view.front → Causes l x p.view m.view m.view.front why → KeepsLook m.view q.view → HasCause l x p.view q.view why
cause_of l x p m q why after before c k = record { history = m.view.front; after = after; before = before; causes = causes_on l x p m q m.view.front why c k }
