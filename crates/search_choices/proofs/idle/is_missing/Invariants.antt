use Rattle.search_choices.proofs.idle.is_missing.Given as goal

abbrev pub ghost-is_free : goal.ghost-is_free
ghost-is_free g a = g.start
