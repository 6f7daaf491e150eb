use Rattle.std.proofs.Common.{◌≡◌, ◌≤◌, ◌+◌, length}
use Rattle.std.specs.List.{slice_split}
use Rattle.vsw_check.specs.declared.place.Place.TheVariants.{AtFirst}
use Rattle.vsw_check.specs.Private.Machine.{is_feed, bad_line}
use Rattle.vsw_check.proofs.Builds.{IsClean, Back}
use Rattle.vsw_check.proofs.report.behind_head.Given as goal

abbrev pub invariant-loop-line : goal.invariant-loop-line
invariant-loop-line l = (bad_line l.place l.number (slice_split is_feed l.rest) ≡ bad_line AtFirst 2 (slice_split is_feed l.bytes)) × (l.number + length l.rest ≤ 2 + length l.bytes) × IsClean l.place l.built × Back l.place l.built l.rest l.bytes

abbrev pub decreases-loop-line : goal.decreases-loop-line
decreases-loop-line l = length l.rest
