use Rattle.vsw_words.proofs.reading.+write_acts.Given as goal

abbrev pub decreases-write_acts : goal.decreases-write_acts
decreases-write_acts l = l.count
