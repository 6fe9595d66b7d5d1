use Rattle.art_rows.proofs.writers.+with_byte_between.Given as goal

abbrev pub decreases-with_byte_between : goal.decreases-with_byte_between
decreases-with_byte_between l = l.count
