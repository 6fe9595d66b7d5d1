use Rattle.search_choices.proofs.choosing.narrowed.Given as goal

abbrev pub ghost-first_keys : goal.ghost-first_keys
ghost-first_keys g a = g.start

abbrev pub ghost-next_of_keys : goal.ghost-next_of_keys
ghost-next_of_keys g a = g.start
