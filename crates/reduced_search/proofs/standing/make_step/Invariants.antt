use Rattle.reduced_search.proofs.standing.make_step.Given as goal

abbrev pub ghost-go_back : goal.ghost-go_back
ghost-go_back g a = g.start

abbrev pub ghost-take : goal.ghost-take
ghost-take g a = g.start

abbrev pub ghost-look_on : goal.ghost-look_on
ghost-look_on g a = g.start
