use Rattle.art_scan.proofs.children.+go_to_word.Given as goal

abbrev pub decreases-go_to_word : goal.decreases-go_to_word
decreases-go_to_word l = l.words
