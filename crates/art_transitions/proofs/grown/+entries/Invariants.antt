use Rattle.art_transitions.proofs.grown.+entries.Given as goal

abbrev pub decreases-entries : goal.decreases-entries
decreases-entries l = l.left
