use Rattle.std.proofs.Common.{◌≡◌, ◌<◌, ◌^◌, take}
use Rattle.std.specs.List.{All, filter_map}
use Rattle.vsw_index.specs.declared.span.Span.{Span}
use Rattle.vsw_index.specs.Span.{span_of}
use Rattle.vsw_index.proofs.span.spans_of.Given as goal

abbrev pub invariant-loop-item : goal.invariant-loop-item
invariant-loop-item l = record {
  spans : l.spans.items ≡ filter_map span_of (take l.item-index l.items);
  small : All (λ (s : Span). s.place < 2 ^ 32) l.spans.items;
}
