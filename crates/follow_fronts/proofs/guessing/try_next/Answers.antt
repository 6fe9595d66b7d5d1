use Rattle.follow_fronts.proofs.guessing.try_next.Goals as goal

pub try_after-requires-clause-below : goal.try_after-requires-clause-below
try_after-requires-clause-below c = λ n lt done. c.requires.stands.marked.below n lt
