use Rattle.art_rows.proofs.writers.+less_among.Given as goal

abbrev pub decreases-less_among : goal.decreases-less_among
decreases-less_among l = l.count
