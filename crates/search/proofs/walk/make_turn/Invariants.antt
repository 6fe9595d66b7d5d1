use Rattle.search.specs.Standing.{first_pairs}
use Rattle.search.proofs.walk.make_turn.Given as goal

-- the walk began at the pairs of the configuration that was visited first
abbrev pub ghost-make_step : goal.ghost-make_step
ghost-make_step a = first_pairs a.standing.now.memo
