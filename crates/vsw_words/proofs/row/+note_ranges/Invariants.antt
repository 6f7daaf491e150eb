use Rattle.std.proofs.Common.{length}
use Rattle.vsw_words.proofs.row.+note_ranges.Given as goal

abbrev pub decreases-note_ranges : goal.decreases-note_ranges
decreases-note_ranges l = length l.acts.now
