use Rattle.search_choices.proofs.choosing.choices.Given as goal

abbrev pub ghost-earliest_answer : goal.ghost-earliest_answer
ghost-earliest_answer g a = g.start

abbrev pub ghost-next_calls : goal.ghost-next_calls
ghost-next_calls g a = g.start

abbrev pub ghost-end_of_look : goal.ghost-end_of_look
ghost-end_of_look g a = g.start

abbrev pub ghost-is_dead_end : goal.ghost-is_dead_end
ghost-is_dead_end g a = g.start

abbrev pub ghost-narrowed : goal.ghost-narrowed
ghost-narrowed g a = g.start

abbrev pub ghost-hopeful : goal.ghost-hopeful
ghost-hopeful g a = g.start
