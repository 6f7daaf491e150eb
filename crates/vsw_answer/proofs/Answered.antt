-- A row's answer, at what its caller had seen.
use Rattle.std.proofs.Common.{◌≡◌, ℕ, List, length, sym, subst, arith}
use mathlib.Core.List.{IsPrefix}
use Rattle.vsw_answer.specs.Answers.{Answers, Pass}
use Rattle.vsw_base.specs.declared.flow.Crossing.{Crossing}
use Rattle.vsw_base.specs.declared.header.Header.{Header}
use Rattle.vsw_base.specs.Frame.{Parts}
use Rattle.vsw_flows.specs.Flows.{Looking}
use Rattle.vsw_port.specs.declared.event.Event.{Event}
use Rattle.vsw_port.specs.Calls.{Carried, Reads}
use Rattle.vsw_port.specs.History.{replay}
use Rattle.vsw_port.specs.Next.{IsDone, Reading}
use Rattle.vsw_table.proofs.Fronts.{prefix_whole}
use Rattle.vsw_port.specs.declared.crossing.Outcome.{Outcome}
use Rattle.vsw_port.specs.Crossed.{EditsPass}
use Rattle.vsw_answer.specs.Answered.{AnsweredAt}
use Rattle.vsw_rows.specs.GoodRows.{opening_of}

-- an answer after as many entries as the caller had seen is one after these entries
pub answered_at : (l : Looking) (x : Crossing) (h : List Event) (q : Pass) (edited : List Header) (outcome : Outcome) (count : ℕ) → IsPrefix h q.front → count ≡ length h → Answers l x q edited outcome count
    → AnsweredAt l x h edited outcome × (q.front ≡ h)
answered_at l x h q edited outcome count front seen a =
    let same : h ≡ q.front = prefix_whole h q.front front (omega (arith, seen, a.counted)) in (
      record {
        control = a.control;
        reads = λ p bytes. subst (λ g. Reads (replay (opening_of l.1) g) (Carried x p outcome.fate bytes)) (sym same) (a.reads p bytes);
        edits = subst (λ g. EditsPass (replay (opening_of l.1) g) x edited outcome.kept outcome.fate) (sym same) a.edits;
        own = a.own;
        entry = a.entry;
      },
      sym same,
    )

-- and it is done at the end of these entries
pub answered_done : (l : Looking) (x : Crossing) (h g : List Event) (edited : List Header) (outcome : Outcome) → h ≡ g → AnsweredAt l x h edited outcome → (p : Parts) (bytes : List ℕ) → IsDone (opening_of l.1) g (Carried x p outcome.fate bytes) outcome.entry
answered_done l x h g edited outcome same a p bytes = subst (λ k. IsDone (opening_of l.1) k (Carried x p outcome.fate bytes) outcome.entry) same (Reading a.entry (a.reads p bytes))
