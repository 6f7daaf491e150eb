-- What the order of keys says of spans.
use Rattle.std.proofs.Common.{◌≤◌, ◌<◌, ◌^◌, List, get_or, arith}
use Rattle.std.specs.List.{All}
use Rattle.std.specs.List.Sorted.{IsNonDecreasingBy}
use Rattle.vsw_index.specs.declared.span.Span.{Span}
use Rattle.vsw_index.specs.Chain.{IsAfter, AreInOrder, key}

after_key : (s t : Span) → t.place < 2 ^ 32 → key s ≤ key t → IsAfter s t
after_key s t small le = (omega arith, λ low high. omega arith)

pub in_order : (spans : List Span) → All (λ s. s.place < 2 ^ 32) spans → IsNonDecreasingBy key spans → AreInOrder spans
in_order spans small rises i j d le within = after_key (get_or spans i d) (get_or spans j d) (small j d within) (rises i j d le within)
