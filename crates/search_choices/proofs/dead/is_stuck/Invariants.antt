use Rattle.search_choices.proofs.dead.is_stuck.Given as goal

abbrev pub ghost-is_lost : goal.ghost-is_lost
ghost-is_lost g a = g.start
