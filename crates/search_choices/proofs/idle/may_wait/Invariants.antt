use Rattle.search_choices.proofs.idle.may_wait.Given as goal

abbrev pub ghost-waits_for_none : goal.ghost-waits_for_none
ghost-waits_for_none g a = g.start
