use Rattle.std.proofs.Common.{◌≡◌, ◌<◌, ◌+◌, ◌%◌, ◌^◌, drop}
use Rattle.vsw_words.specs.Slot.{factors, weighted}
use Rattle.vsw_words.proofs.slots.total.Given as goal

abbrev pub invariant-loop-place : goal.invariant-loop-place
invariant-loop-place l = ((l.total + weighted (drop l.place factors) (drop l.place l.key)) % 2 ^ 64 ≡ weighted factors l.key % 2 ^ 64) × (l.total < 2 ^ 64)
