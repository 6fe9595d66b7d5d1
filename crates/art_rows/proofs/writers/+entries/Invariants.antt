use Rattle.art_rows.proofs.writers.+entries.Given as goal

abbrev pub decreases-entries : goal.decreases-entries
decreases-entries l = l.count
