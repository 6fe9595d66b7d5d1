use Rattle.search_choices.proofs.dead.is_futile.Given as goal

abbrev pub ghost-first_report : goal.ghost-first_report
ghost-first_report g a = g.start

abbrev pub ghost-may_be_put : goal.ghost-may_be_put
ghost-may_be_put g a = g.start
