use Rattle.vsw_words.proofs.doing.+tally.Given as goal

abbrev pub decreases-tally : goal.decreases-tally
decreases-tally l = l.count
