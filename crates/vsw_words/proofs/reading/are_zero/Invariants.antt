use Rattle.std.proofs.Common.{◌≡◌, ◌==◌, ◌&&◌, drop}
use Rattle.vsw_words.specs.Reading.{are_zero}
use Rattle.vsw_words.proofs.reading.are_zero.Given as goal

abbrev pub invariant-loop-word : goal.invariant-loop-word
invariant-loop-word l = ((l.all == 0) && are_zero (drop l.word-index l.words)) ≡ are_zero l.words
