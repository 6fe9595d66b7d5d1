use Rattle.search.proofs.standing.make_step.Given as goal

abbrev pub ghost-earliest_answer : goal.ghost-earliest_answer
ghost-earliest_answer g a = g.start

abbrev pub ghost-try_call : goal.ghost-try_call
ghost-try_call g a = g.start

abbrev pub ghost-go_back : goal.ghost-go_back
ghost-go_back g a = g.start
