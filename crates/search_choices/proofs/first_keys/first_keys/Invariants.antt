use Rattle.search_choices.proofs.Common.{HasAnswered, places}
use Rattle.search_choices.proofs.first_keys.first_keys.Given as goal

abbrev pub ghost-first_key : goal.ghost-first_key
ghost-first_key g a = g.start

abbrev pub ghost-tied_scan : goal.ghost-tied_scan
ghost-tied_scan g a = g.start

-- the call that was answered first is of one of the keys so far, or missed one
abbrev pub invariant-loop-more : goal.invariant-loop-more
invariant-loop-more g l = HasAnswered l.standing.map l.calls (places l.standing.levels.items) l.answered l.keys.items
