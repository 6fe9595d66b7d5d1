use Rattle.art_scan.proofs.next_keys.+find_least.Given as goal

abbrev pub decreases-find_least : goal.decreases-find_least
decreases-find_least l = l.count
