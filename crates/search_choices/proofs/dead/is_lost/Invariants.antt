use Rattle.search_choices.proofs.dead.is_lost.Given as goal

abbrev pub ghost-may_be_put : goal.ghost-may_be_put
ghost-may_be_put g a = g.start
