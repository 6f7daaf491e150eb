use Rattle.std.proofs.Common.{◌≡◌, ◌+◌, drop}
use Rattle.std.specs.List.{position_or_len}
use Rattle.vsw_run.specs.Words.{is_dashed}
use Rattle.vsw_run.proofs.names.names_before.Given as goal

abbrev pub invariant-loop-place : goal.invariant-loop-place
invariant-loop-place l = position_or_len is_dashed l.words ≡ l.place + position_or_len is_dashed (drop l.place l.words)
