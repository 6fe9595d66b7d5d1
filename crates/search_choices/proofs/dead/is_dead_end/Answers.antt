use Rattle.search_choices.proofs.Common.{subst, IsStuck, places}
use Rattle.search_choices.proofs.DeadLemmas.{stuck_dead}
use Rattle.search_choices.proofs.dead.is_dead_end.Goals as goal

pub returns-then-is_stuck : goal.returns-then-is_stuck
returns-then-is_stuck g c = λ _.
    let calls = c.args.calls.now in
    let path = places c.args.standing.now.levels.items in
    let place = c.loop-place.place in
    stuck_dead g.start calls path place c.requires.1.0
    (subst (λ m. IsStuck m calls path place) c.requires.1.1.0.holds (c.is_stuck.ensures c.if-is_stuck.true))
