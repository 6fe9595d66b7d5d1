use Rattle.art_scan.proofs.children.+next_entry.Given as goal

abbrev pub decreases-next_entry : goal.decreases-next_entry
decreases-next_entry l = l.left
