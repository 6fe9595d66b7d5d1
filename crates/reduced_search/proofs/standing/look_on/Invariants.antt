use Rattle.reduced_search.proofs.standing.look_on.Given as goal

abbrev pub ghost-choices : goal.ghost-choices
ghost-choices g a = g.start
