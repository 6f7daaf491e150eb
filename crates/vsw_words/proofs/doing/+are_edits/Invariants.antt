use Rattle.vsw_words.proofs.doing.+are_edits.Given as goal

abbrev pub decreases-are_edits : goal.decreases-are_edits
decreases-are_edits l = l.count
