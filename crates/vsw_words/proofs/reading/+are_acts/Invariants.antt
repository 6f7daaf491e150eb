use Rattle.vsw_words.proofs.reading.+are_acts.Given as goal

abbrev pub decreases-are_acts : goal.decreases-are_acts
decreases-are_acts l = l.count
