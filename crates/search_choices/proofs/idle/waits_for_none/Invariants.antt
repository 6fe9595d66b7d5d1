use Rattle.search_choices.proofs.idle.waits_for_none.Given as goal

abbrev pub ghost-misses_pair : goal.ghost-misses_pair
ghost-misses_pair g a = g.start

abbrev pub ghost-is_free : goal.ghost-is_free
ghost-is_free g a = g.start
