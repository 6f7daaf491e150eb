use Rattle.vsw_words.proofs.pass.+do_acts.Given as goal

abbrev pub decreases-do_acts : goal.decreases-do_acts
decreases-do_acts l = l.count
