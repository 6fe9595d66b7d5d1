use Rattle.search.proofs.standing.try_call.Given as goal

abbrev pub ghost-take_next : goal.ghost-take_next
ghost-take_next g a = g.start
