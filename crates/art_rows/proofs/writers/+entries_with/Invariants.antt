use Rattle.art_rows.proofs.writers.+entries_with.Given as goal

abbrev pub decreases-entries_with : goal.decreases-entries_with
decreases-entries_with l = l.count
