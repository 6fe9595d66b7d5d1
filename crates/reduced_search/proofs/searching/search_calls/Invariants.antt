use Rattle.reduced_search.proofs.searching.search_calls.Given as goal

-- the search begins at the map
abbrev pub ghost-search_on : goal.ghost-search_on
ghost-search_on a = a.standing.now.map
