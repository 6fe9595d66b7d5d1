use Rattle.art_rows.proofs.writers.+low.Given as goal

abbrev pub decreases-low : goal.decreases-low
decreases-low l = l.count
